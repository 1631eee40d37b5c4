-- A step of a reader of a whole text, as one of a parser that began at the text's beginning.
use Rattle.std.proofs.Common.{◌≡◌, ℕ, ◌+◌, ◌-◌, ◌≤◌, List, [], ◌∷◌, ◌++◌, length, length-append, None, false, refl, ap, subst, ◌∙◌, arith}
use Rattle.json_grammar.specs.declared.Kind.{Kind}
use Rattle.json_grammar.specs.declared.ExpectedPart.{ExpectedPart}
use Rattle.json_grammar.specs.Given.{piece}
use Rattle.json_io.specs.declared.error.ErrorCode.{ErrorCode}
use Rattle.json_text.specs.declared.event.Event.{Event}
use Rattle.json_text.specs.declared.event.Event.TheVariants as event
use Rattle.json_text.specs.declared.span.Span.{Span}
use Rattle.json_text.specs.Events.{event_bytes}
use Rattle.json_io.specs.Positions.{place_at}
use Rattle.json_text.specs.Faults.{IsFault}
use Rattle.json_text.specs.Due.{NextNeeds}
use Rattle.json_text.specs.Parsing.{ParserState, state_of, AdvancesTo, IsTight, IsLent, SameInput, IsDue}
use Rattle.json_text.specs.Steps.{Advances, TokenAfterGap}
use Rattle.json_text.proofs.Going.{step_goes, step_tight}
use Rattle.json_text.proofs.Needing.{needs_left}
use Rattle.json_doc.specs.Lent.{IsLentBy, IsPieceAt, EventIsLentBy, from_of}

pub record Stepped (p q : ParserState) (e : Event) : Type 0 where
  pub goes : AdvancesTo p e q
  pub tight : IsTight p e q
  pub same : SameInput p q

pub stepped : (b : List ℕ) (n i j : ℕ) (c d : List Kind) (w v : ExpectedPart) (e : Event) → Advances false n b i c w e j d v → TokenAfterGap false b i e j → Stepped (state_of b 0 false n i c w None) (state_of b 0 false n j d v None) e
stepped b n i j c d w v e goes tight = record {
  goes = step_goes b b 0 false n None i j c d w v refl e goes;
  tight = step_tight b b 0 false n None i j c d w v refl e tight;
  same = record { text = refl; start = refl; lossy = refl; limit = refl };
}

-- the step to the end
pub ended : (p q : ParserState) (e : Event) → e ≡ event.End → AdvancesTo p e q → AdvancesTo p event.End q
ended p q e is g = subst (λ (x : Event). AdvancesTo p x q) is g

-- the fault is due at the next event
pub due_in : (b : List ℕ) (n i : ℕ) (c : List Kind) (w : ExpectedPart) (code : ErrorCode) (k : ℕ) → IsFault false n b code k → NextNeeds false b i code k → IsDue (state_of b 0 false n i c w None) (record { code = code; place = place_at b k })
due_in b n i c w code k fault needs =
    let zeroth : k ≡ 0 + k = omega arith in
    record { offset = k; place = ap (place_at b) zeroth; fault = fault; needs = needs_left false b 0 i k code needs }

str_lent : (s : Span) (b : List ℕ) (j : ℕ) → length (34 ∷ (s.raw.now ++ 34 ∷ [])) ≤ j → j ≤ length b → s.raw.now ≡ piece b (j - 1 - length s.raw.now) (j - 1) → IsLentBy s b (j - 1 - length s.raw.now)
str_lent s b j l w h =
    let n = length-append s.raw.now (34 ∷ []) in
    let e : j - 1 ≡ (j - 1 - length s.raw.now) + length s.raw.now = omega (arith, l, n) in
    record { within = omega (arith, l, n, w); bytes = h ∙ ap (piece b (j - 1 - length s.raw.now)) e }

literal_lent : (l b : List ℕ) (j : ℕ) → length l ≤ j → j ≤ length b → l ≡ piece b (j - length l) j → IsPieceAt l b (j - length l)
literal_lent l b j m w h =
    let e : j ≡ (j - length l) + length l = omega arith in
    record { within = omega arith; bytes = h ∙ ap (piece b (j - length l)) e }

-- what the event lends is right before its closing quote, and a literal right before its end
pub lent_in : (b : List ℕ) (q : ParserState) (e : Event) (j : ℕ) → q.text ≡ b → q.index ≡ j → length (event_bytes e) ≤ j → j ≤ length b → IsLent e q → EventIsLentBy e b (from_of e j)
lent_in b q event.Null j t i l w h = tt
lent_in b q (event.Bool v) j t i l w h = tt
lent_in b q (event.Number n) j t i l w h = literal_lent n.now b j l w (subst (λ y. n.now ≡ piece y (j - length n.now) j) t (subst (λ k. n.now ≡ piece q.text (k - length n.now) k) i h))
lent_in b q (event.Str s) j t i l w h = str_lent s b j l w (subst (λ y. s.raw.now ≡ piece y (j - 1 - length s.raw.now) (j - 1)) t (subst (λ k. s.raw.now ≡ piece q.text (k - 1 - length s.raw.now) (k - 1)) i h))
lent_in b q (event.Key s) j t i l w h = str_lent s b j l w (subst (λ y. s.raw.now ≡ piece y (j - 1 - length s.raw.now) (j - 1)) t (subst (λ k. s.raw.now ≡ piece q.text (k - 1 - length s.raw.now) (k - 1)) i h))
lent_in b q event.BeginArray j t i l w h = tt
lent_in b q event.EndArray j t i l w h = tt
lent_in b q event.BeginObject j t i l w h = tt
lent_in b q event.EndObject j t i l w h = tt
lent_in b q event.End j t i l w h = tt
