use Rattle.std.proofs.Common.{◌≡◌, ◌∙◌, ◌+◌, ◌<◌, length, Option, None, IfSome, refl, sym, ap, subst, arith, rules}
use Rattle.std.proofs.lemmas.Bool.{both_ways}
use Rattle.json_grammar.specs.Given.{piece}
use Rattle.json_grammar.specs.Needs.{IsGap}
use Rattle.json_grammar.specs.Place.{TakesValue, bracket}
use Rattle.json_grammar.proofs.Reading.{takes_not_done}
use Rattle.json_io.specs.declared.error.Error.{Error}
use Rattle.json_text.specs.Faults.{IsInValue}
use Rattle.json_text.specs.Parsing.{ParserState}
use Rattle.json_scan.specs.Runs.{ByteAt}
use Rattle.json_text.specs.Tokens.{begin_event}
use Rattle.json_text.proofs.Bracketed.{begins}
use Rattle.json_text.proofs.NextParts.{next_rest, rest_next}
use Rattle.json_text.proofs.Going.{step_goes, step_tight, step_stood, is_there_after, to_rest, within_text}
use Rattle.json_text.proofs.Tokens.{tight_open}
use Rattle.json_text.proofs.parser.Parser.next_begin.Goals as goal
use Rattle.json_text.proofs.parser.Parser.next_begin.Goals.{then-not-takes_value-via-then-not-takes_value, then-not-takes_value-via-else-not-takes_value+then-not-byte_is}

pub invariant_of-self : goal.invariant_of-self
invariant_of-self c =
    let s = c.self.inside in let v = c.self.invariant in let i = v.given in let st = c.in-Ok.part_start in let b = s.rest.now in let k = c.args.kind in
    let g = c.as_bytes-bytes.ensures.value in
    let h : ByteAt b st.at (bracket k) = subst (λ x. ByteAt b st.at x) c.opening_byte.ensures (subst (λ y. ByteAt y st.at c.opening_byte.result) g (c.byte_is.ensures.0 (search rules))) in
    let t : TakesValue st.expected = c.takes_value.ensures.0 (search rules) in
    let l : length s.kinds < s.limit = let e = c.len.ensures.value in let f = c.if-len-self.false in omega arith in
    let d = begins s.lossy s.limit k c.as_bytes-bytes.result.now b s.at st.at s.kinds s.expected st.expected g (i.0, to_rest s.lossy s.limit s.start s.at s.text.now b s.kinds s.expected i.0 v.rest_is i.1) (λ ts. c.in-Ok.ensures.ok s.lossy s.limit ts) c.push.new.self c.part_after_opening-self-inside.result c.push.ensures c.part_after_opening-self-inside.ensures t h l in
    let none : s.failure ≡ None = ap (λ (p : ParserState). p.failure) c.self.view_is ∙ c.requires.fresh in
    record {
      rest_is = v.rest_is;
      given = step_stood s.text.now b s.start s.lossy s.limit s.failure s.at (st.at + 1) s.kinds c.push.new.self s.expected c.part_after_opening-self-inside.result v.rest_is (begin_event k) d i;
      failed = v.failed;
      inside = λ n. subst (λ (f : Option Error). IfSome f (λ e. IsInValue e.code)) (sym none) tt;
      order = let o = v.order in omega arith;
      within = within_text s.text.now b s.start (st.at + 1) v.rest_is (let q = h.0 in omega arith) (let o = v.order in let w = v.within in omega arith);
      most = v.most;
    }

pub returns-clause-ok : goal.returns-clause-ok
returns-clause-ok c = λ _.
    let s = c.self.inside in let v = c.self.invariant in let i = v.given in let st = c.in-Ok.part_start in let b = s.rest.now in let k = c.args.kind in
    let g = c.as_bytes-bytes.ensures.value in
    let h : ByteAt b st.at (bracket k) = subst (λ x. ByteAt b st.at x) c.opening_byte.ensures (subst (λ y. ByteAt y st.at c.opening_byte.result) g (c.byte_is.ensures.0 (search rules))) in
    let t : TakesValue st.expected = c.takes_value.ensures.0 (search rules) in
    let l : length s.kinds < s.limit = let e = c.len.ensures.value in let f = c.if-len-self.false in omega arith in
    let d = begins s.lossy s.limit k c.as_bytes-bytes.result.now b s.at st.at s.kinds s.expected st.expected g (i.0, to_rest s.lossy s.limit s.start s.at s.text.now b s.kinds s.expected i.0 v.rest_is i.1) (λ ts. c.in-Ok.ensures.ok s.lossy s.limit ts) c.push.new.self c.part_after_opening-self-inside.result c.push.ensures c.part_after_opening-self-inside.ensures t h l in
    rw (← c.self.view_is) (step_goes s.text.now b s.start s.lossy s.limit s.failure s.at (st.at + 1) s.kinds c.push.new.self s.expected c.part_after_opening-self-inside.result v.rest_is (begin_event k) d)

pub returns-clause-tight : goal.returns-clause-tight
returns-clause-tight c = λ _.
    let s = c.self.inside in let v = c.self.invariant in let st = c.in-Ok.part_start in let b = s.rest.now in let k = c.args.kind in
    let g = c.as_bytes-bytes.ensures.value in
    let h : ByteAt b st.at (bracket k) = subst (λ x. ByteAt b st.at x) c.opening_byte.ensures (subst (λ y. ByteAt y st.at c.opening_byte.result) g (c.byte_is.ensures.0 (search rules))) in
    rw (← c.self.view_is)
    (step_tight s.text.now b s.start s.lossy s.limit s.failure s.at (st.at + 1) s.kinds c.push.new.self s.expected c.part_after_opening-self-inside.result v.rest_is (begin_event k)
    (is_there_after s.lossy b s.at st.at (begin_event k) (st.at + 1) c.in-Ok.ensures.within.0 (subst (λ y. IsGap (piece y s.at st.at)) g c.in-Ok.ensures.gap) (tight_open s.lossy k b st.at h)))

pub returns-clause-exactly : goal.returns-clause-exactly
returns-clause-exactly c =
    let s = c.self.inside in let b = s.rest.now in let e = c.self.invariant.rest_is in let g = c.as_bytes-bytes.ensures.value in let st = c.in-Ok.part_start in let k = c.args.kind in
    let h : ByteAt b st.at (bracket k) = subst (λ x. ByteAt b st.at x) c.opening_byte.ensures (subst (λ y. ByteAt y st.at c.opening_byte.result) g (c.byte_is.ensures.0 (search rules))) in
    let t : TakesValue st.expected = c.takes_value.ensures.0 (search rules) in
    let l : length s.kinds < s.limit = let n = c.len.ensures.value in let f = c.if-len-self.false in omega arith in (
      λ _. rw (← c.self.view_is) (record {
        at = st.at;
        expected = st.expected;
        next = rest_next s.text.now c.as_bytes-bytes.result.now s.start s.at st.at s.kinds s.expected st.expected (g ∙ e) (c.in-Ok.ensures.next (takes_not_done t));
        takes = t;
        is_there = subst (λ y. ByteAt y st.at (bracket k)) e h;
        fits = l;
      }),
      λ _. refl,
    )

pub push-requires : goal.push-requires
push-requires c = omega arith

pub returns-in-Err-clause-exactly : goal.returns-in-Err-clause-exactly
returns-in-Err-clause-exactly c = (
  λ f. absurd (cc),
  rw (← c.self.view_is) (λ h.
      let s = c.self.inside in let e = c.as_bytes-bytes.ensures.value ∙ c.self.invariant.rest_is in
      absurd (c.in-Err.ensures.only h.at h.expected (next_rest s.text.now c.as_bytes-bytes.result.now s.start s.at h.at s.kinds s.expected h.expected e h.next))),
)

pub returns-then-not-takes_value-clause-exactly : goal.returns-then-not-takes_value-clause-exactly
returns-then-not-takes_value-clause-exactly c = (
  λ f. absurd (cc),
  rw (← c.self.view_is) (λ h.
      let s = c.self.inside in let b = c.as_bytes-bytes.result.now in let e = c.as_bytes-bytes.ensures.value ∙ c.self.invariant.rest_is in let st = c.in-Ok.part_start in let k = c.args.kind in
      let q : ByteAt b h.at (bracket k) = subst (λ y. ByteAt y h.at (bracket k)) (sym e) h.is_there in
      let o = c.in-Ok.ensures.only h.at h.expected (next_rest s.text.now b s.start s.at h.at s.kinds s.expected h.expected e h.next) in
      elim c.then-not-takes_value.branch [
        | then-not-takes_value-via-then-not-takes_value w ↦
            absurd (both_ways _ w.if-not-takes_value.true (c.takes_value.ensures.1 (subst TakesValue (sym o.1) h.takes)))
        | then-not-takes_value-via-else-not-takes_value+then-not-byte_is w ↦
            absurd (both_ways _ w.if-not-byte_is.true (w.byte_is.ensures.1 (subst (λ x. ByteAt b st.at x) (sym w.opening_byte.ensures) (subst (λ m. ByteAt b m (bracket k)) (sym o.0) q))))
      ]),
)
