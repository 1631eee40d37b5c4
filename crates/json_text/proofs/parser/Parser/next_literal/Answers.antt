use Rattle.std.proofs.lemmas.Bool.{both_ways}
use Rattle.std.proofs.Common.{◌≡◌, ◌∙◌, ◌+◌, ◌≤◌, length, Option, None, IfSome, refl, sym, ap, subst, arith, rules}
use Rattle.json_grammar.specs.Given.{piece}
use Rattle.json_grammar.specs.declared.ExpectedPart.TheVariants.{Done as done}
use Rattle.json_grammar.specs.Needs.{IsGap}
use Rattle.json_grammar.specs.Place.{TakesValue}
use Rattle.json_grammar.proofs.Reading.{takes_not_done}
use Rattle.json_io.specs.declared.error.Error.{Error}
use Rattle.json_text.specs.Faults.{IsInValue}
use Rattle.json_text.specs.Literals.{WordTo}
use Rattle.json_text.specs.Parsing.{ParserState}
use Rattle.json_text.proofs.ValueEnds.{event_reads}
use Rattle.json_text.proofs.LiteralNexts.{literal_taken, word_is_event}
use Rattle.json_text.proofs.NextParts.{next_rest, rest_next}
use Rattle.json_text.proofs.Going.{step_goes, step_tight, step_stood, is_there_after, to_rest, within_text}
use Rattle.json_text.proofs.Tokens.{tight_word}
use Rattle.json_text.proofs.parser.Parser.next_literal.Goals as goal

pub invariant_of-self : goal.invariant_of-self
invariant_of-self c =
    let s = c.self.inside in let v = c.self.invariant in let i = v.given in let st = c.in-Ok.part_start in let b = s.rest.now in let word = c.args.word.now in
    let g = c.as_bytes-bytes.ensures.value in
    let h : WordTo b st.at word (st.at + length word) = subst (λ y. WordTo y st.at word (st.at + length word)) g (c.word_is.ensures.0 (search rules)) in
    let t : TakesValue st.expected = c.takes_value.ensures.0 (search rules) in
    let d = literal_taken s.lossy s.limit c.as_bytes-bytes.result.now b s.at st.at (st.at + length word) s.kinds s.expected st.expected word c.args.event g (i.0, to_rest s.lossy s.limit s.start s.at s.text.now b s.kinds s.expected i.0 v.rest_is i.1) (λ ts. c.in-Ok.ensures.ok s.lossy s.limit ts) c.requires.word t h in
    let none : s.failure ≡ None = ap (λ (p : ParserState). p.failure) c.self.view_is ∙ c.requires.fresh in
    record {
      rest_is = v.rest_is;
      given = step_stood s.text.now b s.start s.lossy s.limit s.failure s.at (st.at + length word) s.kinds s.kinds s.expected done v.rest_is c.args.event d i;
      failed = v.failed;
      inside = λ n. subst (λ (f : Option Error). IfSome f (λ e. IsInValue e.code)) (sym none) tt;
      order = let o = v.order in omega arith;
      within = within_text s.text.now b s.start (st.at + length word) v.rest_is h.within (let o = v.order in let w = v.within in omega arith);
      most = v.most;
    }

pub returns-clause-ok : goal.returns-clause-ok
returns-clause-ok c = λ _.
    let s = c.self.inside in let v = c.self.invariant in let i = v.given in let st = c.in-Ok.part_start in let b = s.rest.now in let word = c.args.word.now in
    let g = c.as_bytes-bytes.ensures.value in
    let h : WordTo b st.at word (st.at + length word) = subst (λ y. WordTo y st.at word (st.at + length word)) g (c.word_is.ensures.0 (search rules)) in
    let t : TakesValue st.expected = c.takes_value.ensures.0 (search rules) in
    let d = literal_taken s.lossy s.limit c.as_bytes-bytes.result.now b s.at st.at (st.at + length word) s.kinds s.expected st.expected word c.args.event g (i.0, to_rest s.lossy s.limit s.start s.at s.text.now b s.kinds s.expected i.0 v.rest_is i.1) (λ ts. c.in-Ok.ensures.ok s.lossy s.limit ts) c.requires.word t h in
    rw (← c.self.view_is) (step_goes s.text.now b s.start s.lossy s.limit s.failure s.at (st.at + length word) s.kinds s.kinds s.expected done v.rest_is c.args.event d)

pub returns-clause-tight : goal.returns-clause-tight
returns-clause-tight c = λ _.
    let s = c.self.inside in let v = c.self.invariant in let st = c.in-Ok.part_start in let b = s.rest.now in let word = c.args.word.now in
    let g = c.as_bytes-bytes.ensures.value in
    let h : WordTo b st.at word (st.at + length word) = subst (λ y. WordTo y st.at word (st.at + length word)) g (c.word_is.ensures.0 (search rules)) in
    rw (← c.self.view_is)
    (step_tight s.text.now b s.start s.lossy s.limit s.failure s.at (st.at + length word) s.kinds s.kinds s.expected done v.rest_is c.args.event
    (is_there_after s.lossy b s.at st.at c.args.event (st.at + length word) c.in-Ok.ensures.within.0 (subst (λ y. IsGap (piece y s.at st.at)) g c.in-Ok.ensures.gap) (tight_word s.lossy b word st.at (st.at + length word) c.args.event h c.requires.word)))

pub returns-clause-reads : goal.returns-clause-reads
returns-clause-reads c = λ _ w.
    let order : c.args.self.now.start ≤ c.args.self.now.index = subst (λ (p : ParserState). p.start ≤ p.index) c.self.view_is c.self.invariant.order in
    let same : c.self.inside.start ≡ c.args.self.now.start = ap (λ (p : ParserState). p.start) c.self.view_is in
    event_reads _ _ c.args.event (returns-clause-tight c refl) (word_is_event c.args.event c.args.word.now c.requires.word) (omega arith) w

pub returns-clause-exactly : goal.returns-clause-exactly
returns-clause-exactly c =
    let s = c.self.inside in let b = s.rest.now in let e = c.self.invariant.rest_is in let g = c.as_bytes-bytes.ensures.value in let st = c.in-Ok.part_start in let word = c.args.word.now in
    let h : WordTo b st.at word (st.at + length word) = subst (λ y. WordTo y st.at word (st.at + length word)) g (c.word_is.ensures.0 (search rules)) in
    let t : TakesValue st.expected = c.takes_value.ensures.0 (search rules) in (
      λ _. rw (← c.self.view_is) (record {
        at = st.at;
        expected = st.expected;
        next = rest_next s.text.now c.as_bytes-bytes.result.now s.start s.at st.at s.kinds s.expected st.expected (g ∙ e) (c.in-Ok.ensures.next (takes_not_done t));
        takes = t;
        is_there = subst (λ y. WordTo y st.at word (st.at + length word)) e h;
      }),
      λ _. refl,
    )

pub returns-then-not-word_is-clause-exactly : goal.returns-then-not-word_is-clause-exactly
returns-then-not-word_is-clause-exactly c = (
  λ is. absurd (cc),
  rw (← c.self.view_is) (λ h.
      let s = c.self.inside in let b = c.as_bytes-bytes.result.now in let e = c.as_bytes-bytes.ensures.value ∙ c.self.invariant.rest_is in let st = c.in-Ok.part_start in let word = c.args.word.now in
      let o = c.in-Ok.ensures.only h.at h.expected (next_rest s.text.now b s.start s.at h.at s.kinds s.expected h.expected e h.next) in
      let there = subst (λ k. WordTo _ k word (k + length word)) (sym o.0) h.is_there in
      absurd (both_ways _ c.if-not-word_is.true (c.word_is.ensures.1 (subst (λ y. WordTo y st.at word (st.at + length word)) (sym e) there)))),
)

pub returns-in-Err-clause-exactly : goal.returns-in-Err-clause-exactly
returns-in-Err-clause-exactly c = (
  λ is. absurd (cc),
  rw (← c.self.view_is) (λ h.
      let s = c.self.inside in let e = c.as_bytes-bytes.ensures.value ∙ c.self.invariant.rest_is in
      absurd (c.in-Err.ensures.only h.at h.expected (next_rest s.text.now c.as_bytes-bytes.result.now s.start s.at h.at s.kinds s.expected h.expected e h.next))),
)
