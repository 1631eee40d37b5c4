-- Calls of a source over a text.
use Rattle.std.proofs.Common.{◌≡◌, ◌∙◌, List, [], ◌∷◌, ◌++◌, length, Option, Some, None, Result, Ok, Err, IfSome, refl, sym, ap, subst, arith, ℕ, ◌+◌, ◌-◌, ◌≤◌, take, drop, get_or, ap₂}
use Rattle.std.proofs.lemmas.List.{append-nil, drop-drop, length-drop, get_or-drop}
use Rattle.json_grammar.specs.declared.Kind.{Kind}
use Rattle.json_grammar.specs.declared.ExpectedPart.{ExpectedPart as Place}
use Rattle.json_grammar.specs.declared.ExpectedPart.TheVariants.{Done as done}
use Rattle.json_grammar.specs.Grammar.{IsWhitespace, ws, is_text}
use Rattle.json_grammar.specs.Given.{piece}
use Rattle.json_grammar.specs.Tree.{Tree, Token as Tok, tokens, depth}
use Rattle.json_io.specs.declared.error.Error.{Error}
use Rattle.json_text.specs.declared.event.Event.{Event}
use Rattle.json_text.specs.Events.{Means}
use Rattle.json_text.specs.Ends.{ComesNext, NothingLeft, TrailsAt}
use Rattle.json_text.specs.Faults.{FaultFrom}
use Rattle.json_io.specs.Positions.{place_at}
use Rattle.json_text.specs.Readers.{ReaderAt}
use Rattle.json_text.proofs.ReaderSteps.{stood_spaced, stood_whole, misplaced_fault}
use Rattle.json_text.specs.Parsing.{ParserState, input, consumed, HasGiven, IsWhole, HasRead}
use Rattle.json_tokens.specs.declared.token.TokenKind.{TokenKind}
use Rattle.json_tokens.specs.Kinds.{kind_of}
use Rattle.json_grammar.specs.TokenStates.{TokenState, after_token, after_tokens, initial_state, state_in}
use Rattle.json_tokens.specs.ExpectedTokens.{KindMayCome}
use Rattle.json_tokens.specs.TokensStates.{TakesTokens, Peeks, TakesOne}
use Rattle.json_tokens.specs.Text.{TextTokensState, TakenBefore, text_taken, text_tokens_state, event_kind, parser_state, ReadsAhead, HasFault, HasReadValue}
use Rattle.json_doc.proofs.ValueRecording.{means_one}
use Rattle.json_grammar.proofs.TokenStates.{after_append}
use Rattle.json_tokens.proofs.Events.{place_is, expected_back, same_kind, over_whole}

-- an event was read ahead
pub takes_none : (p q : ParserState) (f g : Option Error) (e : Event) → ReadsAhead p e q
    → TakesTokens text_taken (record { parser = p; ahead = None; failed = f }) [] (record { parser = q; ahead = Some e; failed = g })
takes_none p q f g e r = record {
  on = λ ts h. let g = r.goes ts h in (g.0, g.1, subst (λ (us : List Tok). HasGiven q (us ++ g.0 ∷ [])) (sym (append-nil ts)) g.2);
}

-- the event that was read ahead is taken
pub takes_next : (a : TextTokensState) (p : ParserState) (f : Option Error) (e : Event) (k : TokenKind) → (ts : List Tok) × TakenBefore (Some e) p ts
    → Peeks (text_tokens_state a) (text_tokens_state (record { parser = p; ahead = Some e; failed = f })) k → TakesTokens text_taken a [] (record { parser = p; ahead = Some e; failed = f })
    → (x : Tok) × Means e x × TakesOne text_taken text_tokens_state a (record { parser = p; ahead = None; failed = f }) x
takes_next a p f e k i h z =
    let x = i.1.0 in
    let m = i.1.1 in
    let g = i.1.2 in
    let s : (text_tokens_state a).expected ≡ after_tokens initial_state i.0 = sym h.expected ∙ expected_back p e i.0 x m g in
    let n : Some (event_kind e) ≡ Some k = h.peeked in
    let j : k ≡ kind_of x = let u : event_kind e ≡ k = cc in sym u ∙ sym (same_kind e x m) in (
      x,
      m,
      record {
        takes = record {
          on = λ ts t.
              let r = z.on ts t in
              let y : r.0 ≡ x = means_one e r.0 x r.1 m in
              subst (λ (us : List Tok). HasGiven p (us ++ x ∷ [])) (append-nil ts) (subst (λ (u : Tok). HasGiven p ((ts ++ []) ++ u ∷ [])) y r.2);
        };
        moves = record {
          input = h.input;
          expected = place_is p (i.0 ++ x ∷ []) g ∙ after_append initial_state i.0 (x ∷ []) ∙ ap (λ (q : TokenState). after_token q x) (sym s);
          peeked = refl;
          left = let l = h.left in omega arith;
        };
        as_peeked = record { may = subst (λ (i : TokenKind). KindMayCome (text_tokens_state a).expected i) j h.may; peeked = λ o t. sym j ∙ h.again o t };
      },
    )

-- the parser keeps the fault that it met
pub fault_kept : (p q : ParserState) (e : Error) → q ≡ record p { failure = Some e } → HasFault p e → HasFault q e
fault_kept p q e k f =
    subst (λ (r : ParserState). HasFault r e) (sym k)
    (record { offset = f.offset; place = f.place; in_text = f.in_text; in_value = f.in_value; needs = f.needs; no_refusal = f.no_refusal })

-- where it failed before, it fails
pub no_again : {X Y : Type 0} (o : Option Error) (r : Result X Error) (k : X) (q : Result Y Error) → IfSome o (λ e. r ≡ Err e) → r ≡ Ok k → IfSome o (λ e. q ≡ Err e)
no_again None r k q h i = tt
no_again (Some e) r k q h i = absurd (cc)

-- after a value that was taken no event waits
pub none_waits : (p : ParserState) (o : Option Event) (f : Option Error) → (text_tokens_state (record { parser = p; ahead = o; failed = f })).peeked ≡ None → o ≡ None
none_waits p None f t = refl
none_waits p (Some e) f t = absurd (cc)

-- after a value that was taken
pub has_read_value : (p : ParserState) (o : Option Event) (f : Option Error) → (text_tokens_state (record { parser = p; ahead = o; failed = f })).expected ≡ state_in []
    → (text_tokens_state (record { parser = p; ahead = o; failed = f })).peeked ≡ None → (IsWhole p → HasRead p) → HasReadValue (record { parser = p; ahead = o; failed = f })
has_read_value p (Some a) f s t r = absurd (cc)
has_read_value p None f s t r = r (over_whole p s)

-- after a value and whitespace
spaced_to : (p : ParserState) (ts : List Tok) (k : ℕ) → HasGiven p ts → parser_state p ≡ state_in [] → p.start ≤ p.index → ComesNext p k → ReaderAt p.lossy p.limit (input p) (k - p.start) p.open_kinds done ts
spaced_to p ts k g o s n =
    let w = over_whole p o in
    let h : ReaderAt p.lossy p.limit (input p) (consumed p) p.open_kinds done ts = subst (λ (q : Place). ReaderAt p.lossy p.limit (input p) (consumed p) p.open_kinds q ts) w.0 g in
    let from = n.order in
    let to = n.within in
    let i : p.start + (p.index - p.start) ≡ p.index = omega arith in
    let d : (k - p.start) - consumed p ≡ k - p.index = omega arith in
    let e : piece (input p) (consumed p) (k - p.start) ≡ piece p.text p.index k = ap₂ (λ m b. take m b) d (drop-drop (consumed p) p.start p.text ∙ ap (λ m. drop m p.text) i) in
    stood_spaced p.lossy p.limit (input p) (consumed p) (k - p.start) p.open_kinds done ts h (omega arith) (omega (arith, length-drop p.start p.text)) (subst ws (sym e) n.space)

-- where only whitespace is left, it is a text
pub whole_text : (p : ParserState) (ts : List Tok) → HasGiven p ts → parser_state p ≡ state_in [] → p.start ≤ p.index → NothingLeft p → (t : Tree) × is_text p.lossy t (input p) × (ts ≡ tokens t) × (depth t ≤ p.limit)
whole_text p ts g o s n =
    let from = n.order in
    stood_whole p.lossy p.limit (input p) (length p.text - p.start) p.open_kinds ts (spaced_to p ts (length p.text) g o s n) (over_whole p o).1 (sym (length-drop p.start p.text))

-- and else the next byte is its fault
pub trailing_fault : (p : ParserState) (ts : List Tok) (e : Error) → HasGiven p ts → parser_state p ≡ state_in [] → p.start ≤ p.index → TrailsAt p e → FaultFrom p.lossy p.limit p.start p.text e.code e.place
trailing_fault p ts e g o s t =
    let k = t.at - p.start in
    let from = t.next.order in
    let inside = t.some in
    let a : p.start + k ≡ t.at = omega arith in
    let c = none_open p.open_kinds (over_whole p o).1 in
    let b : get_or (input p) k 0 ≡ get_or p.text t.at 0 = get_or-drop p.start p.text k 0 ∙ ap (λ m. get_or p.text m 0) a in
    let h = subst (λ (c : List Kind). ReaderAt p.lossy p.limit (input p) k c done ts) c (spaced_to p ts t.at g o s t.next) in
    let f = misplaced_fault p.lossy p.limit (input p) k [] ts h (omega (arith, length-drop p.start p.text)) (λ w. t.next.stop t.some (subst IsWhitespace b w)) (λ n. absurd (n refl)) (λ m e. absurd (cc)) in
    subst (λ (x : Error). FaultFrom p.lossy p.limit p.start p.text x.code x.place) (sym t.reported) (k, ap (place_at p.text) (sym a), f)
  where
    none_open : (c : List Kind) → length c ≡ 0 → c ≡ []
    none_open [] l = refl
    none_open (m ∷ c) l = absurd (omega arith)
