-- A token whose event waits.
use Rattle.std.proofs.Common.{◌≡◌, ◌∙◌, ℕ, List, [], ◌∷◌, Option, Some, None, refl, sym, subst, arith}
use Rattle.std.proofs.lemmas.List.{append-nil}
use Rattle.json_grammar.specs.declared.Kind.{Kind}
use Rattle.json_grammar.specs.declared.Kind.TheVariants.{Array as array, Object as object}
use Rattle.json_grammar.specs.Grammar.{chars}
use Rattle.json_grammar.specs.Tree.{Token as Tok, begin, text, text_token}
use Rattle.json_io.specs.declared.error.Error.{Error}
use Rattle.json_text.specs.declared.event.Event.{Event}
use Rattle.json_text.specs.Events.{Means}
use Rattle.json_text.specs.Parsing.{ParserState}
use Rattle.json_tokens.specs.declared.token.TokenKind.{TokenKind}
use Rattle.json_tokens.specs.declared.token.TokenKind.TheVariants as kind
use Rattle.json_text.specs.declared.event.Event.TheVariants as event
use Rattle.json_tokens.specs.Kinds.{kind_of}
use Rattle.json_grammar.specs.Place.{outside}
use Rattle.json_grammar.specs.TokenStates.{ValueMayCome, expected_before_value}
use Rattle.json_tokens.specs.ExpectedTokens.{KindMayCome}
use Rattle.json_tokens.specs.TokensStates.{TakesTokens, Peeks, TakesOne, TakesText}
use Rattle.json_tokens.specs.Text.{TextTokensState, TakenBefore, before, event_kind, text_taken, text_tokens_state}
use Rattle.json_tokens.proofs.Events.{same_kind}
use Rattle.json_tokens.proofs.Steps.{is_begin_object, scalar, is_begin as is_begin_array}
use Rattle.json_tokens.proofs.TextSteps.{takes_next}

abbrev pub waits : ParserState → Option Error → Event → TextTokensState
waits p f e = record { parser = p; ahead = Some e; failed = f }

value_there : (c : List Kind) → ValueMayCome (expected_before_value c)
value_there [] = tt
value_there (array ∷ c) = tt
value_there (object ∷ c) = tt

may_before : (k : TokenKind) (c : List Kind) → KindMayCome (before k c) k
may_before kind.Key c = tt
may_before kind.EndArray c = tt
may_before kind.EndObject c = tt
may_before kind.BeginArray c = value_there (outside c)
may_before kind.BeginObject c = value_there (outside c)
may_before kind.Null c = value_there c
may_before kind.Bool c = value_there c
may_before kind.Int c = value_there c
may_before kind.Raw c = value_there c
may_before kind.Text c = value_there c

-- it is peeked, and nothing is taken
peeked_waiting : (p : ParserState) (f : Option Error) (e : Event) → Peeks (text_tokens_state (waits p f e)) (text_tokens_state (waits p f e)) (event_kind e)
peeked_waiting p f e = record {
  input = refl;
  expected = refl;
  peeked = refl;
  left = omega arith;
  may = may_before (event_kind e) p.open_kinds;
  again = λ j h. cc;
}

none_taken : (p : ParserState) (f : Option Error) (e : Event) → TakesTokens text_taken (waits p f e) [] (waits p f e)
none_taken p f e = record { on = λ ts t. subst (TakenBefore (Some e) p) (sym (append-nil ts)) t }

-- it is taken
waiting_taken : (p : ParserState) (f : Option Error) (e : Event) → (ts : List Tok) × TakenBefore (Some e) p ts
    → (x : Tok) × Means e x × TakesOne text_taken text_tokens_state (waits p f e) (record { parser = p; ahead = None; failed = f }) x
waiting_taken p f e i = takes_next (waits p f e) p f e (event_kind e) i (peeked_waiting p f e) (none_taken p f e)

opens : (k : Kind) (x : Tok) → kind_of x ≡ kind_of (begin k) → x ≡ begin k
opens array x e = is_begin_array x e
opens object x e = is_begin_object x e

pub begin_waiting : (p : ParserState) (f : Option Error) (e : Event) (k : Kind) → (ts : List Tok) × TakenBefore (Some e) p ts → event_kind e ≡ kind_of (begin k)
    → TakesOne text_taken text_tokens_state (waits p f e) (record { parser = p; ahead = None; failed = f }) (begin k)
begin_waiting p f e k i h =
    let r = waiting_taken p f e i in
    subst (λ (x : Tok). TakesOne text_taken text_tokens_state (waits p f e) (record { parser = p; ahead = None; failed = f }) x) (opens k r.0 (same_kind e r.0 r.1 ∙ h)) r.2

pub text_waiting : (p : ParserState) (f : Option Error) (l : _) (says : List ℕ → Type 0) → (ts : List Tok) × TakenBefore (Some (event.Str l)) p ts
    → ((s : List ℕ) → chars l.lossy s l.raw.now → says s) → TakesText text_taken text_tokens_state says (waits p f (event.Str l)) (record { parser = p; ahead = None; failed = f })
text_waiting p f l says i h =
    let r = waiting_taken p f (event.Str l) i in
    record { text = r.1.0; said = h r.1.0 r.1.1; takes = scalar (text r.1.0) (text_token r.1.0) r.1.2 refl refl refl r.2 }
