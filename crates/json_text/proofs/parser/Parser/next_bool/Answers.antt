use Rattle.std.proofs.Common.{◌≡◌, ◌∙◌, ◌+◌, ◌≤◌, length, Option, None, IfSome, refl, sym, ap, subst, arith, rules}
use Rattle.std.proofs.lemmas.Bool.{both_ways}
use Rattle.json_grammar.specs.declared.ExpectedPart.TheVariants.{Done as done}
use Rattle.json_grammar.specs.Grammar.{boolean_bytes}
use Rattle.json_grammar.specs.Needs.{IsGap}
use Rattle.json_grammar.specs.Given.{piece}
use Rattle.json_grammar.specs.Place.{TakesValue}
use Rattle.json_grammar.proofs.Reading.{takes_not_done}
use Rattle.json_io.specs.declared.error.Error.{Error}
use Rattle.json_text.specs.declared.event.Event.TheVariants as event
use Rattle.json_text.specs.Faults.{IsInValue}
use Rattle.json_text.specs.Literals.{WordTo}
use Rattle.json_text.specs.Parsing.{ParserState}
use Rattle.json_text.proofs.ValueEnds.{event_reads}
use Rattle.json_text.proofs.LiteralNexts.{literal_taken}
use Rattle.json_text.proofs.NextParts.{next_rest, rest_next}
use Rattle.json_text.proofs.Going.{step_goes, step_tight, step_stood, is_there_after, to_rest, within_text}
use Rattle.json_text.proofs.Tokens.{tight_word}
use Rattle.json_text.proofs.parser.Parser.next_bool.Goals as goal

pub invariant_of-self : goal.invariant_of-self
invariant_of-self c =
    let s = c.self.inside in let v = c.self.invariant in let i = v.given in let st = c.in-Ok.part_start in let b = s.rest.now in let word = boolean_bytes c.in-Some.value in
    let g = c.as_bytes-bytes.ensures.value in
    let h : WordTo b st.at word (st.at + length word) = subst (λ y. WordTo y st.at word (st.at + length word)) g c.in-Some.ensures.some in
    let t : TakesValue st.expected = c.takes_value.ensures.0 (search rules) in
    let n = c.boolean_len.ensures in
    let d = literal_taken s.lossy s.limit c.as_bytes-bytes.result.now b s.at st.at (st.at + length word) s.kinds s.expected st.expected word (event.Bool c.in-Some.value) g (i.0, to_rest s.lossy s.limit s.start s.at s.text.now b s.kinds s.expected i.0 v.rest_is i.1) (λ ts. c.in-Ok.ensures.ok s.lossy s.limit ts) refl t h in
    let none : s.failure ≡ None = ap (λ (p : ParserState). p.failure) c.self.view_is ∙ c.requires.fresh in
    rw n
    (record {
      rest_is = v.rest_is;
      given = step_stood s.text.now b s.start s.lossy s.limit s.failure s.at (st.at + length word) s.kinds s.kinds s.expected done v.rest_is (event.Bool c.in-Some.value) d i;
      failed = v.failed;
      inside = λ n. subst (λ (f : Option Error). IfSome f (λ e. IsInValue e.code)) (sym none) tt;
      order = let o = v.order in omega arith;
      within = within_text s.text.now b s.start (st.at + length word) v.rest_is h.within (let o = v.order in let w = v.within in omega arith);
      most = v.most;
    })

pub returns-clause-ok : goal.returns-clause-ok
returns-clause-ok c =
    let s = c.self.inside in let v = c.self.invariant in let i = v.given in let st = c.in-Ok.part_start in let b = s.rest.now in let word = boolean_bytes c.in-Some.value in
    let g = c.as_bytes-bytes.ensures.value in
    let h : WordTo b st.at word (st.at + length word) = subst (λ y. WordTo y st.at word (st.at + length word)) g c.in-Some.ensures.some in
    let t : TakesValue st.expected = c.takes_value.ensures.0 (search rules) in
    let n = c.boolean_len.ensures in
    let d = literal_taken s.lossy s.limit c.as_bytes-bytes.result.now b s.at st.at (st.at + length word) s.kinds s.expected st.expected word (event.Bool c.in-Some.value) g (i.0, to_rest s.lossy s.limit s.start s.at s.text.now b s.kinds s.expected i.0 v.rest_is i.1) (λ ts. c.in-Ok.ensures.ok s.lossy s.limit ts) refl t h in
    rw (← c.self.view_is, n) (step_goes s.text.now b s.start s.lossy s.limit s.failure s.at (st.at + length word) s.kinds s.kinds s.expected done v.rest_is (event.Bool c.in-Some.value) d)

pub returns-clause-tight : goal.returns-clause-tight
returns-clause-tight c =
    let s = c.self.inside in let v = c.self.invariant in let st = c.in-Ok.part_start in let b = s.rest.now in let word = boolean_bytes c.in-Some.value in
    let g = c.as_bytes-bytes.ensures.value in
    let h : WordTo b st.at word (st.at + length word) = subst (λ y. WordTo y st.at word (st.at + length word)) g c.in-Some.ensures.some in
    let n = c.boolean_len.ensures in
    rw (← c.self.view_is, n)
    (step_tight s.text.now b s.start s.lossy s.limit s.failure s.at (st.at + length word) s.kinds s.kinds s.expected done v.rest_is (event.Bool c.in-Some.value)
    (is_there_after s.lossy b s.at st.at (event.Bool c.in-Some.value) (st.at + length word) c.in-Ok.ensures.within.0 (subst (λ y. IsGap (piece y s.at st.at)) g c.in-Ok.ensures.gap) (tight_word s.lossy b word st.at (st.at + length word) (event.Bool c.in-Some.value) h refl)))

pub returns-clause-reads : goal.returns-clause-reads
returns-clause-reads c = λ w.
    let order : c.args.self.now.start ≤ c.args.self.now.index = subst (λ (p : ParserState). p.start ≤ p.index) c.self.view_is c.self.invariant.order in
    let same : c.self.inside.start ≡ c.args.self.now.start = ap (λ (p : ParserState). p.start) c.self.view_is in
    event_reads _ _ (event.Bool c.in-Some.value) (returns-clause-tight c) (λ is. absurd (cc)) (omega arith) w

pub returns-then-not-takes_value-clause-none : goal.returns-then-not-takes_value-clause-none
returns-then-not-takes_value-clause-none c = λ _ b. rw (← c.self.view_is) (λ h.
    let s = c.self.inside in let y = c.as_bytes-bytes.result.now in let e = c.as_bytes-bytes.ensures.value ∙ c.self.invariant.rest_is in
    let o = c.in-Ok.ensures.only h.at h.expected (next_rest s.text.now y s.start s.at h.at s.kinds s.expected h.expected e h.next) in
    both_ways _ c.if-not-takes_value.true (c.takes_value.ensures.1 (subst TakesValue (sym o.1) h.takes)))

pub returns-in-None-clause-none : goal.returns-in-None-clause-none
returns-in-None-clause-none c = λ _ v. rw (← c.self.view_is) (λ h.
    let s = c.self.inside in let b = c.as_bytes-bytes.result.now in let e = c.as_bytes-bytes.ensures.value ∙ c.self.invariant.rest_is in let word = boolean_bytes v in
    let o = c.in-Ok.ensures.only h.at h.expected (next_rest s.text.now b s.start s.at h.at s.kinds s.expected h.expected e h.next) in
    let there = subst (λ k. WordTo _ k word (k + length word)) (sym o.0) h.is_there in
    c.in-None.ensures.none refl v (subst (λ y. WordTo y c.in-Ok.part_start.at word (c.in-Ok.part_start.at + length word)) (sym e) there))

pub returns-clause-some : goal.returns-clause-some
returns-clause-some c =
    let s = c.self.inside in let b = s.rest.now in let e = c.self.invariant.rest_is in let g = c.as_bytes-bytes.ensures.value in let st = c.in-Ok.part_start in let word = boolean_bytes c.in-Some.value in
    let h : WordTo b st.at word (st.at + length word) = subst (λ y. WordTo y st.at word (st.at + length word)) g c.in-Some.ensures.some in
    let t : TakesValue st.expected = c.takes_value.ensures.0 (search rules) in
    rw (← c.self.view_is)
    (record {
      at = st.at;
      expected = st.expected;
      next = rest_next s.text.now c.as_bytes-bytes.result.now s.start s.at st.at s.kinds s.expected st.expected (g ∙ e) (c.in-Ok.ensures.next (takes_not_done t));
      takes = t;
      is_there = subst (λ y. WordTo y st.at word (st.at + length word)) e h;
    })

pub returns-in-Err-clause-none : goal.returns-in-Err-clause-none
returns-in-Err-clause-none c = λ _ b. rw (← c.self.view_is) (λ h.
    let s = c.self.inside in let e = c.as_bytes-bytes.ensures.value ∙ c.self.invariant.rest_is in
    c.in-Err.ensures.only h.at h.expected (next_rest s.text.now c.as_bytes-bytes.result.now s.start s.at h.at s.kinds s.expected h.expected e h.next))
