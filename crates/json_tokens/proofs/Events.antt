-- One event more.
use Rattle.std.proofs.Common.{◌≡◌, ◌≢◌, ◌≤◌, ◌∙◌, List, [], ◌∷◌, ◌++◌, length, take, None, refl, sym, ap, subst}
use Rattle.json_grammar.specs.declared.ExpectedPart.{ExpectedPart as Place}
use Rattle.json_grammar.specs.Tree.{Tree, Token as Tok, num_token, tokens}
use Rattle.json_text.specs.declared.event.Event.{Event}
use Rattle.json_text.specs.declared.event.Event.TheVariants as event
use Rattle.json_text.specs.Events.{Means}
use Rattle.json_text.specs.Parsing.{ParserState, input, consumed, HasGiven, SameInput, IsWhole, AdvancesTo, TakesToken, IsTight}
use Rattle.json_text.proofs.ReaderSteps.{stood_at}
use Rattle.json_grammar.specs.Place.{reading}
use Rattle.json_tokens.specs.declared.token.TokenKind.{TokenKind}
use Rattle.json_tokens.specs.Kinds.{kind_of}
use Rattle.json_grammar.specs.TokenStates.{TokenState, a_value, nothing, initial_state, state_in, after_token, after_tokens, MayCome, Accepts, state_at}
use Rattle.json_tokens.specs.ExpectedTokens.{KindMayCome}
use Rattle.json_tokens.specs.Text.{event_kind, parser_state, before, ReadsAhead, IsReadingText}
use Rattle.json_grammar.proofs.Numeric.{last_number}
use Rattle.json_grammar.proofs.TokenStates.{after_append, after_tree, accepts_front, accepts_back, place_state, place_accepts, whole_place}
use Rattle.std.proofs.lemmas.List.{nil_from_length}
use Rattle.json_tokens.proofs.Places.{kind_may, reached, before_after}
use Rattle.json_doc.specs.Reading.{EventIsNumber}

pub given_reading : (p : ParserState) (ts : List Tok) → HasGiven p ts → reading p.lossy (take (consumed p) (input p)) p.open_kinds p.expected ts
given_reading p ts h = stood_at p.lossy p.limit (input p) (consumed p) p.open_kinds p.expected ts h

pub place_is : (p : ParserState) (ts : List Tok) → HasGiven p ts → parser_state p ≡ after_tokens initial_state ts
place_is p ts h = sym (place_state (given_reading p ts h))

-- after the tokens of a tree nothing may follow
pub tree_over : (p : ParserState) (ts : List Tok) (t : Tree) → HasGiven p ts → ts ≡ tokens t → parser_state p ≡ state_in []
tree_over p ts t h e = place_is p ts h ∙ ap (after_tokens initial_state) e ∙ after_tree initial_state t

goes : (old new : ParserState) (e : Event) → e ≢ event.End → AdvancesTo old e new → (ts : List Tok) → HasGiven old ts → (x : Tok) × Means e x × HasGiven new (ts ++ x ∷ [])
goes old new event.Null n g = g
goes old new (event.Bool b) n g = g
goes old new (event.Number l) n g = g
goes old new (event.Str s) n g = g
goes old new (event.Key s) n g = g
goes old new event.BeginArray n g = g
goes old new event.EndArray n g = g
goes old new event.BeginObject n g = g
goes old new event.EndObject n g = g
goes old new event.End n g = absurd (n refl)

tight : (old new : ParserState) (e : Event) → e ≢ event.End → IsTight old e new → TakesToken old e new
tight old new event.Null n g = g
tight old new (event.Bool b) n g = g
tight old new (event.Number l) n g = g
tight old new (event.Str s) n g = g
tight old new (event.Key s) n g = g
tight old new event.BeginArray n g = g
tight old new event.EndArray n g = g
tight old new event.BeginObject n g = g
tight old new event.EndObject n g = g
tight old new event.End n g = absurd (n refl)

-- the kind of an event is that of its token
pub same_kind : (e : Event) (x : Tok) → Means e x → kind_of x ≡ event_kind e
same_kind event.Null x m = ap kind_of m
same_kind (event.Bool b) x m = ap kind_of m
same_kind (event.Number l) x m = ap kind_of m
same_kind (event.Str s) x m = ap kind_of m.2
same_kind (event.Key s) x m = ap kind_of m.2
same_kind event.BeginArray x m = ap kind_of m
same_kind event.EndArray x m = ap kind_of m
same_kind event.BeginObject x m = ap kind_of m
same_kind event.EndObject x m = ap kind_of m
same_kind event.End x m = absurd m

pub event_number : (p : ParserState) (e : Event) (ts : List Tok) (x : Tok) → Means e x → HasGiven p (ts ++ x ∷ []) → EventIsNumber e
event_number p (event.Number l) ts x m h = last_number ts l.now (given_reading p (ts ++ num_token l.now ∷ []) (subst (λ (y : Tok). HasGiven p (ts ++ y ∷ [])) m h))
event_number p event.Null ts x m h = tt
event_number p (event.Bool b) ts x m h = tt
event_number p (event.Str s) ts x m h = tt
event_number p (event.Key s) ts x m h = tt
event_number p event.BeginArray ts x m h = tt
event_number p event.EndArray ts x m h = tt
event_number p event.BeginObject ts x m h = tt
event_number p event.EndObject ts x m h = tt
event_number p event.End ts x m h = tt

-- the last token may follow
last_may : (p : ParserState) (ts : List Tok) (x : Tok) → HasGiven p (ts ++ x ∷ []) → Accepts initial_state ts × MayCome (after_tokens initial_state ts) x
last_may p ts x h = let a = place_accepts (given_reading p (ts ++ x ∷ []) h) in (accepts_front initial_state ts (x ∷ []) a, (accepts_back initial_state ts (x ∷ []) a).0)

-- the state before the last token
pub expected_back : (p : ParserState) (e : Event) (ts : List Tok) (x : Tok) → Means e x → HasGiven p (ts ++ x ∷ []) → before (event_kind e) p.open_kinds ≡ after_tokens initial_state ts
expected_back p e ts x m h =
    let q = after_tokens initial_state ts in
    let a : parser_state p ≡ after_token q x = place_is p (ts ++ x ∷ []) h ∙ after_append initial_state ts (x ∷ []) in
    let f = last_may p ts x h in
    ap (λ (k : TokenKind). before k p.open_kinds) (sym (same_kind e x m)) ∙ ap (λ (z : TokenState). before (kind_of x) z.opened) a ∙ before_after q x (reached ts f.0) f.1

pub reads_ahead : (old new : ParserState) (e : Event) (ts : List Tok) → HasGiven old ts → e ≢ event.End → SameInput old new → AdvancesTo old e new → IsTight old e new → new.failure ≡ None → ReadsAhead old e new
reads_ahead old new e ts h n s g t f =
    let r = goes old new e n g ts h in
    let k = tight old new e n t in
    let q = after_tokens initial_state ts in
    record {
      same = s;
      goes = goes old new e n g;
      forward = k.forward;
      inside = k.within;
      expected = expected_back new e ts r.0 r.1 r.2 ∙ sym (place_is old ts h);
      may = subst (λ (p : TokenState). KindMayCome p (event_kind e)) (sym (place_is old ts h)) (subst (λ (j : TokenKind). KindMayCome q j) (same_kind e r.0 r.1) (kind_may q r.0 (last_may new ts r.0 r.2).1));
      fresh = f;
    }

-- where a value was read and nothing is open
pub whole_over : (p : ParserState) → IsWhole p → parser_state p ≡ state_in []
whole_over p (e, l) = ap (λ (w : Place). state_at w p.open_kinds) e ∙ ap state_in (nil_from_length p.open_kinds l)

-- and the other way round
pub over_whole : (p : ParserState) → parser_state p ≡ state_in [] → IsWhole p
over_whole p e = let h = whole_place p.expected p.open_kinds (ap (λ (s : TokenState). s.expected) e) in (h.0, ap length h.1)

-- a parser that has given nothing has read no value
pub fresh_reading : (p : ParserState) → HasGiven p [] → p.failure ≡ None → p.start ≤ p.index → IsReadingText (record { parser = p; ahead = None; failed = None })
fresh_reading p h f o = record {
  given = ([], h);
  failed = tt;
  fresh = λ e. f;
  order = o;
  read = λ w. absurd (let e : a_value ≡ nothing = ap (λ (s : TokenState). s.expected) (sym (place_is p [] h) ∙ whole_over p w) in cc);
}
