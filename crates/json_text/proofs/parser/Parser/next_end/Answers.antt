use Rattle.std.proofs.lemmas.Bool.{both_ways}
use Rattle.std.proofs.Common.{◌≡◌, ◌∙◌, ◌+◌, ◌≤◌, Option, Some, None, IfSome, refl, sym, ap, subst, arith, rules}
use Rattle.json_grammar.specs.Given.{piece}
use Rattle.json_grammar.specs.declared.ExpectedPart.TheVariants.{Done as done}
use Rattle.json_grammar.specs.Needs.{IsGap}
use Rattle.json_grammar.specs.Place.{TakesEnd, closing}
use Rattle.json_io.specs.declared.error.Error.{Error}
use Rattle.json_text.specs.Faults.{IsInValue}
use Rattle.json_text.specs.Parsing.{ParserState}
use Rattle.json_scan.specs.Runs.{ByteAt}
use Rattle.json_text.specs.Stack.{top}
use Rattle.json_text.specs.Tokens.{end_event}
use Rattle.json_text.proofs.ValueEnds.{event_reads}
use Rattle.json_text.proofs.Bracketed.{ends, end_is_event}
use Rattle.json_text.proofs.NextParts.{space_rest, rest_space, ends_at_once}
use Rattle.json_text.proofs.Going.{step_goes, step_tight, step_stood, is_there_after, to_rest, within_text}
use Rattle.json_text.proofs.Tokens.{tight_close}
use Rattle.json_text.proofs.parser.Parser.next_end.Goals.{then-not-may_end-via-then-not-may_end, then-not-may_end-via-else-not-may_end+then-not-byte_is}
use Rattle.json_text.proofs.parser.Parser.next_end.Goals as goal

pub invariant_of-self : goal.invariant_of-self
invariant_of-self c =
    let s = c.self.inside in let v = c.self.invariant in let i = v.given in let st = c.in-Ok.part_start in let b = s.rest.now in let k = c.args.kind in
    let g = c.as_bytes-bytes.ensures.value in
    let h : ByteAt b st.at (closing k) = subst (λ x. ByteAt b st.at x) c.closing_byte.ensures (subst (λ y. ByteAt y st.at c.closing_byte.result) g (c.byte_is.ensures.0 (search rules))) in
    let t : TakesEnd k st.expected = c.may_end.ensures.0 (search rules) in
    let l : top s.kinds ≡ Some k = c.is_innermost.ensures.0 (search rules) in
    let d = ends s.lossy s.limit k c.as_bytes-bytes.result.now b s.at st.at s.kinds s.expected st.expected g (i.0, to_rest s.lossy s.limit s.start s.at s.text.now b s.kinds s.expected i.0 v.rest_is i.1) (λ ts. c.in-Ok.ensures.ok s.lossy s.limit ts) c.pop.new.self done c.pop.ensures refl l t h in
    let none : s.failure ≡ None = ap (λ (p : ParserState). p.failure) c.self.view_is ∙ c.requires.fresh in
    record {
      rest_is = v.rest_is;
      given = step_stood s.text.now b s.start s.lossy s.limit s.failure s.at (st.at + 1) s.kinds c.pop.new.self s.expected done v.rest_is (end_event k) d i;
      failed = v.failed;
      inside = λ n. subst (λ (f : Option Error). IfSome f (λ e. IsInValue e.code)) (sym none) tt;
      order = let o = v.order in omega arith;
      within = within_text s.text.now b s.start (st.at + 1) v.rest_is (let q = h.0 in omega arith) (let o = v.order in let w = v.within in omega arith);
      most = v.most;
    }

pub returns-clause-ok : goal.returns-clause-ok
returns-clause-ok c = λ _.
    let s = c.self.inside in let v = c.self.invariant in let i = v.given in let st = c.in-Ok.part_start in let b = s.rest.now in let k = c.args.kind in
    let g = c.as_bytes-bytes.ensures.value in
    let h : ByteAt b st.at (closing k) = subst (λ x. ByteAt b st.at x) c.closing_byte.ensures (subst (λ y. ByteAt y st.at c.closing_byte.result) g (c.byte_is.ensures.0 (search rules))) in
    let t : TakesEnd k st.expected = c.may_end.ensures.0 (search rules) in
    let l : top s.kinds ≡ Some k = c.is_innermost.ensures.0 (search rules) in
    let d = ends s.lossy s.limit k c.as_bytes-bytes.result.now b s.at st.at s.kinds s.expected st.expected g (i.0, to_rest s.lossy s.limit s.start s.at s.text.now b s.kinds s.expected i.0 v.rest_is i.1) (λ ts. c.in-Ok.ensures.ok s.lossy s.limit ts) c.pop.new.self done c.pop.ensures refl l t h in
    rw (← c.self.view_is) (step_goes s.text.now b s.start s.lossy s.limit s.failure s.at (st.at + 1) s.kinds c.pop.new.self s.expected done v.rest_is (end_event k) d)

pub returns-clause-tight : goal.returns-clause-tight
returns-clause-tight c = λ _.
    let s = c.self.inside in let v = c.self.invariant in let st = c.in-Ok.part_start in let b = s.rest.now in let k = c.args.kind in
    let g = c.as_bytes-bytes.ensures.value in
    let h : ByteAt b st.at (closing k) = subst (λ x. ByteAt b st.at x) c.closing_byte.ensures (subst (λ y. ByteAt y st.at c.closing_byte.result) g (c.byte_is.ensures.0 (search rules))) in
    rw (← c.self.view_is)
    (step_tight s.text.now b s.start s.lossy s.limit s.failure s.at (st.at + 1) s.kinds c.pop.new.self s.expected done v.rest_is (end_event k)
    (is_there_after s.lossy b s.at st.at (end_event k) (st.at + 1) c.in-Ok.ensures.within.0 (subst (λ y. IsGap (piece y s.at st.at)) g c.in-Ok.ensures.gap) (tight_close s.lossy k b st.at h)))

pub returns-clause-reads : goal.returns-clause-reads
returns-clause-reads c = λ _ w.
    let order : c.args.self.now.start ≤ c.args.self.now.index = subst (λ (p : ParserState). p.start ≤ p.index) c.self.view_is c.self.invariant.order in
    let same : c.self.inside.start ≡ c.args.self.now.start = ap (λ (p : ParserState). p.start) c.self.view_is in
    event_reads _ _ (end_event c.args.kind) (returns-clause-tight c refl) (end_is_event c.args.kind) (omega arith) w

pub returns-clause-exactly : goal.returns-clause-exactly
returns-clause-exactly c =
    let s = c.self.inside in let b = s.rest.now in let e = c.self.invariant.rest_is in let g = c.as_bytes-bytes.ensures.value in let st = c.in-Ok.part_start in let k = c.args.kind in
    let h : ByteAt b st.at (closing k) = subst (λ x. ByteAt b st.at x) c.closing_byte.ensures (subst (λ y. ByteAt y st.at c.closing_byte.result) g (c.byte_is.ensures.0 (search rules))) in
    let t : TakesEnd k st.expected = c.may_end.ensures.0 (search rules) in
    let l : top s.kinds ≡ Some k = c.is_innermost.ensures.0 (search rules) in
    let d = c.in-Ok.ensures.ends k t in (
      λ _. rw (← c.self.view_is) (record {
        at = st.at;
        space = rest_space s.text.now c.as_bytes-bytes.result.now s.start s.at st.at (g ∙ e) d.0;
        takes = subst (TakesEnd k) d.1 t;
        innermost = l;
        is_there = subst (λ y. ByteAt y st.at (closing k)) e h;
      }),
      λ _. refl,
    )

pub returns-then-not-may_end-clause-exactly : goal.returns-then-not-may_end-clause-exactly
returns-then-not-may_end-clause-exactly c = (
  λ f. absurd (cc),
  rw (← c.self.view_is) (λ h.
      let s = c.self.inside in let b = c.as_bytes-bytes.result.now in let e = c.as_bytes-bytes.ensures.value ∙ c.self.invariant.rest_is in let st = c.in-Ok.part_start in let k = c.args.kind in
      let q : ByteAt b h.at (closing k) = subst (λ y. ByteAt y h.at (closing k)) (sym e) h.is_there in
      let n = ends_at_once b k h.at s.expected h.takes q in
      let o = c.in-Ok.ensures.stays h.at n.0 (space_rest s.text.now b s.start s.at h.at e h.space) n.1 in
      elim c.then-not-may_end.branch [
        | then-not-may_end-via-then-not-may_end w ↦
            absurd (both_ways _ w.if-not-may_end.true (c.may_end.ensures.1 (subst (TakesEnd k) (sym o.1) h.takes)))
        | then-not-may_end-via-else-not-may_end+then-not-byte_is w ↦
            absurd (both_ways _ w.if-not-byte_is.true (w.byte_is.ensures.1 (subst (λ x. ByteAt b st.at x) (sym w.closing_byte.ensures) (subst (λ m. ByteAt b m (closing k)) (sym o.0) q))))
      ]),
)

pub returns-in-Err-clause-exactly : goal.returns-in-Err-clause-exactly
returns-in-Err-clause-exactly c = (
  λ f. absurd (cc),
  rw (← c.self.view_is) (λ h.
      let s = c.self.inside in let b = c.as_bytes-bytes.result.now in let e = c.as_bytes-bytes.ensures.value ∙ c.self.invariant.rest_is in let k = c.args.kind in
      let n = ends_at_once b k h.at s.expected h.takes (subst (λ y. ByteAt y h.at (closing k)) (sym e) h.is_there) in
      absurd (c.in-Err.ensures.stays h.at n.0 (space_rest s.text.now b s.start s.at h.at e h.space) n.1)),
)
