use Rattle.std.proofs.Common.{◌≡◌, ◌∙◌, ◌<◌, ◌≤◌, [], ◌∷◌, ◌++◌, length, get_or, drop, inl, IsUtf8, Option, None, IfSome, refl, sym, ap, subst, arith, rules}
use Rattle.std.proofs.lemmas.Bool.{both_ways}
use Rattle.std.specs.Str.{all_ascii_digits}
use Rattle.std.specs.Str.Parse.{digits_value}
use Rattle.json_grammar.specs.declared.ExpectedPart.TheVariants.{Done as done}
use Rattle.json_grammar.specs.Given.{piece}
use Rattle.json_grammar.specs.Place.{TakesValue}
use Rattle.json_grammar.specs.Tree.{num_token}
use Rattle.json_grammar.proofs.Pieces.{piece_length}
use Rattle.json_grammar.proofs.Reading.{takes_not_done}
use Rattle.json_io.specs.declared.error.Error.{Error}
use Rattle.json_text.specs.declared.event.Event.TheVariants as event
use Rattle.json_text.specs.Faults.{IsInValue}
use Rattle.json_text.specs.NextLiterals.{IsShortNegative}
use Rattle.json_text.specs.Parsing.{ParserState}
use Rattle.json_text.specs.Readers.{ReaderAt}
use Rattle.json_text.proofs.ValueEnds.{event_reads}
use Rattle.json_text.proofs.Going.{to_rest, from_rest, within_text, takes_token}
use Rattle.json_text.proofs.Tokens.{stood_number, number_cut, number_cut_from, tight_number}
use Rattle.json_text.proofs.NextParts.{next_rest, rest_next}
use Rattle.json_text.proofs.ShortNegatives.{one_magnitude, moved_negative, moved_magnitude, literal_digits}
use Rattle.json_text.proofs.parser.Parser.next_negative.Goals as goal

pub range-requires-clause-start_boundary : goal.range-requires-clause-start_boundary
range-requires-clause-start_boundary c =
    let b = c.self.inside.rest.now in
    let n = subst (λ b. IsShortNegative b c.in-Ok.part_start.at c.in-Some.digits.end) c.as_bytes-bytes.ensures.value c.in-Some.ensures.negative in
    λ _. number_cut_from b c.in-Ok.part_start.at n.minus.0 (inl n.minus.1)

pub range-requires-clause-end_boundary : goal.range-requires-clause-end_boundary
range-requires-clause-end_boundary c =
    let b = c.self.inside.rest.now in
    let n = subst (λ b. IsShortNegative b c.in-Ok.part_start.at c.in-Some.digits.end) c.as_bytes-bytes.ensures.value c.in-Some.ensures.negative in
    let u : IsUtf8 b = search rules in
    number_cut b c.in-Ok.part_start.at c.in-Some.digits.end u n.minus.0 (inl n.minus.1) n.number

pub invariant_of-self : goal.invariant_of-self
invariant_of-self c =
    let s = c.self.inside in let v = c.self.invariant in let i = v.given in let g = c.as_bytes-bytes.ensures.value in let st = c.in-Ok.part_start in let b = c.as_bytes-bytes.result.now in
    let e = c.in-Some.digits.end in
    let r = c.in-Ok.ensures.ok s.lossy s.limit i.0 (to_rest s.lossy s.limit s.start s.at s.text.now b s.kinds s.expected i.0 (g ∙ v.rest_is) i.1) in
    let t : TakesValue st.expected = c.takes_value.ensures.0 (search rules) in
    let x = stood_number s.lossy s.limit b st.at e s.kinds st.expected i.0 r t c.in-Some.ensures.negative.number in
    let o = v.order in
    let w = v.within in
    let n = c.in-Some.ensures.negative.number.at.within in
    let none : s.failure ≡ None = ap (λ (p : ParserState). p.failure) c.self.view_is ∙ c.requires.fresh in
    record {
      rest_is = v.rest_is;
      given = (i.0 ++ num_token (piece b st.at e) ∷ [], from_rest s.lossy s.limit s.start e s.text.now b s.kinds done (i.0 ++ num_token (piece b st.at e) ∷ []) (g ∙ v.rest_is) x);
      failed = v.failed;
      inside = λ n. subst (λ (f : Option Error). IfSome f (λ e. IsInValue e.code)) (sym none) tt;
      order = omega arith;
      within = within_text s.text.now b s.start e (g ∙ v.rest_is) n (omega arith);
      most = v.most;
    }

pub returns-clause-ok : goal.returns-clause-ok
returns-clause-ok c =
    let s = c.self.inside in let v = c.self.invariant in let g = c.as_bytes-bytes.ensures.value in let st = c.in-Ok.part_start in let b = c.as_bytes-bytes.result.now in
    let e = c.in-Some.digits.end in
    let t : TakesValue st.expected = c.takes_value.ensures.0 (search rules) in
    rw (← c.self.view_is)
    (λ ts h.
    let r = c.in-Ok.ensures.ok s.lossy s.limit ts (to_rest s.lossy s.limit s.start s.at s.text.now b s.kinds s.expected ts (g ∙ v.rest_is) h) in
    let x = stood_number s.lossy s.limit b st.at e s.kinds st.expected ts r t c.in-Some.ensures.negative.number in
    let l : c.range.result.now ≡ piece b st.at e = subst (λ b. c.range.result.now ≡ piece b st.at e) (sym g) c.range.ensures.value in
    let y = subst (λ o. ReaderAt s.lossy s.limit b e s.kinds done (ts ++ num_token o ∷ [])) (sym l) x in
    (num_token c.range.result.now, refl, from_rest s.lossy s.limit s.start e s.text.now b s.kinds done (ts ++ num_token c.range.result.now ∷ []) (g ∙ v.rest_is) y))

pub returns-clause-tight : goal.returns-clause-tight
returns-clause-tight c =
    let s = c.self.inside in let g = c.as_bytes-bytes.ensures.value in let st = c.in-Ok.part_start in let b = c.as_bytes-bytes.result.now in
    let e = c.in-Some.digits.end in
    let l : c.range.result.now ≡ piece b st.at e = subst (λ b. c.range.result.now ≡ piece b st.at e) (sym g) c.range.ensures.value in
    rw (← c.self.view_is)
    (takes_token _ _ (event.Number c.range.result) b s.at st.at e (g ∙ c.self.invariant.rest_is) refl refl refl c.in-Ok.ensures.within.0 c.in-Ok.ensures.gap
    (tight_number s.lossy b st.at e (event.Number c.range.result) (ap length l) l c.in-Some.ensures.negative.number tt))

pub returns-clause-minus : goal.returns-clause-minus
returns-clause-minus c =
    let s = c.self.inside in let b = c.as_bytes-bytes.result.now in let g = c.as_bytes-bytes.ensures.value in let st = c.in-Ok.part_start in let e = c.in-Some.digits.end in
    let n = c.in-Some.ensures.negative in
    let l : c.range.result.now ≡ piece b st.at e = subst (λ b. c.range.result.now ≡ piece b st.at e) (sym g) c.range.ensures.value in
    let q = literal_digits b c.range.result.now st.at e l n in
    ap (λ y. get_or y 0 0) q

pub returns-clause-digits : goal.returns-clause-digits
returns-clause-digits c =
    let s = c.self.inside in let b = c.as_bytes-bytes.result.now in let g = c.as_bytes-bytes.ensures.value in let st = c.in-Ok.part_start in let e = c.in-Some.digits.end in
    let n = c.in-Some.ensures.negative in
    let l : c.range.result.now ≡ piece b st.at e = subst (λ b. c.range.result.now ≡ piece b st.at e) (sym g) c.range.ensures.value in
    let q = literal_digits b c.range.result.now st.at e l n in
    let o = n.number.at.order in let w = n.number.at.within in let f = n.few in
    let k = piece_length b st.at e o w in
    let m = ap length l in
    (ap (λ y. all_ascii_digits (drop 1 y)) q ∙ n.digits, omega arith)

pub returns-clause-magnitude : goal.returns-clause-magnitude
returns-clause-magnitude c =
    let s = c.self.inside in let b = c.as_bytes-bytes.result.now in let g = c.as_bytes-bytes.ensures.value in let st = c.in-Ok.part_start in let e = c.in-Some.digits.end in
    let n = c.in-Some.ensures.negative in
    let l : c.range.result.now ≡ piece b st.at e = subst (λ b. c.range.result.now ≡ piece b st.at e) (sym g) c.range.ensures.value in
    let q = literal_digits b c.range.result.now st.at e l n in
    c.in-Some.ensures.value ∙ sym (ap (λ y. digits_value 10 (drop 1 y)) q)

pub returns-clause-reads : goal.returns-clause-reads
returns-clause-reads c = λ w.
    let order : c.args.self.now.start ≤ c.args.self.now.index = subst (λ (p : ParserState). p.start ≤ p.index) c.self.view_is c.self.invariant.order in
    let same : c.self.inside.start ≡ c.args.self.now.start = ap (λ (p : ParserState). p.start) c.self.view_is in
    event_reads _ _ (event.Number c.range.result) (returns-clause-tight c) (λ is. absurd (cc)) (omega arith) w

pub returns-then-not-takes_value-clause-none : goal.returns-then-not-takes_value-clause-none
returns-then-not-takes_value-clause-none c = λ _. rw (← c.self.view_is) (λ h.
    let s = c.self.inside in let b = c.as_bytes-bytes.result.now in let e = c.as_bytes-bytes.ensures.value ∙ c.self.invariant.rest_is in
    let o = c.in-Ok.ensures.only h.at h.expected (next_rest s.text.now b s.start s.at h.at s.kinds s.expected h.expected e h.next) in
    both_ways _ c.if-not-takes_value.true (c.takes_value.ensures.1 (subst TakesValue (sym o.1) h.takes)))

pub returns-in-None-clause-none : goal.returns-in-None-clause-none
returns-in-None-clause-none c = λ _. rw (← c.self.view_is) (λ h.
    let s = c.self.inside in let b = c.as_bytes-bytes.result.now in let e = c.as_bytes-bytes.ensures.value ∙ c.self.invariant.rest_is in
    let o = c.in-Ok.ensures.only h.at h.expected (next_rest s.text.now b s.start s.at h.at s.kinds s.expected h.expected e h.next) in
    c.in-None.ensures.none refl h.to (moved_negative b _ c.in-Ok.part_start.at h.at h.to e o.0 h.integer))

pub returns-then-digits-eq0-clause-none : goal.returns-then-digits-eq0-clause-none
returns-then-digits-eq0-clause-none c = λ _. rw (← c.self.view_is) (λ h.
    let s = c.self.inside in let b = c.as_bytes-bytes.result.now in let e = c.as_bytes-bytes.ensures.value ∙ c.self.invariant.rest_is in
    let o = c.in-Ok.ensures.only h.at h.expected (next_rest s.text.now b s.start s.at h.at s.kinds s.expected h.expected e h.next) in
    let at = c.in-Ok.part_start.at in let d = c.in-Some.digits in let i = c.in-Some.ensures in
    let v = one_magnitude b at d.end h.to d.value i.negative (moved_negative b _ at h.at h.to e o.0 h.integer) i.value in
    let l = moved_magnitude b _ at h.at h.to e o.0 in
    let z = c.if-digits-eq0.true in
    let p = h.below_zero in
    omega arith)

pub returns-then-digits-least-clause-none : goal.returns-then-digits-least-clause-none
returns-then-digits-least-clause-none c = λ _. rw (← c.self.view_is) (λ h.
    let s = c.self.inside in let b = c.as_bytes-bytes.result.now in let e = c.as_bytes-bytes.ensures.value ∙ c.self.invariant.rest_is in
    let o = c.in-Ok.ensures.only h.at h.expected (next_rest s.text.now b s.start s.at h.at s.kinds s.expected h.expected e h.next) in
    let at = c.in-Ok.part_start.at in let d = c.in-Some.digits in let i = c.in-Some.ensures in
    let v = one_magnitude b at d.end h.to d.value i.negative (moved_negative b _ at h.at h.to e o.0 h.integer) i.value in
    let l = moved_magnitude b _ at h.at h.to e o.0 in
    let m = c.if-digits-least.true in
    let p = h.value in
    omega arith)

pub returns-clause-some : goal.returns-clause-some
returns-clause-some c =
    let s = c.self.inside in let b = c.as_bytes-bytes.result.now in let e = c.as_bytes-bytes.ensures.value ∙ c.self.invariant.rest_is in
    let st = c.in-Ok.part_start in let d = c.in-Some.digits in let i = c.in-Some.ensures in
    let t : TakesValue st.expected = c.takes_value.ensures.0 (search rules) in
    let p : 0 < d.value = search rules in
    let l : d.value ≤ c.args.least = search rules in
    rw (← c.self.view_is)
    (record {
      at = st.at;
      expected = st.expected;
      next = rest_next s.text.now b s.start s.at st.at s.kinds s.expected st.expected e (c.in-Ok.ensures.next (takes_not_done t));
      takes = t;
      to = d.end;
      integer = moved_negative _ b st.at st.at d.end (sym e) refl i.negative;
      below_zero = subst (λ v. 0 < v) (i.value ∙ moved_magnitude _ b st.at st.at d.end (sym e) refl) p;
      value = subst (λ v. v ≤ c.args.least) (i.value ∙ moved_magnitude _ b st.at st.at d.end (sym e) refl) l;
    })

pub returns-in-Err-clause-none : goal.returns-in-Err-clause-none
returns-in-Err-clause-none c = λ _. rw (← c.self.view_is) (λ h.
    let s = c.self.inside in let e = c.as_bytes-bytes.ensures.value ∙ c.self.invariant.rest_is in
    c.in-Err.ensures.only h.at h.expected (next_rest s.text.now c.as_bytes-bytes.result.now s.start s.at h.at s.kinds s.expected h.expected e h.next))
