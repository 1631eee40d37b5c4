use Rattle.std.proofs.lemmas.Result.{IfOk-weaker}
use Rattle.json_explain.proofs.TupleRefusals.{array_ended, element_left, element_read}
use Rattle.json_explain.proofs.tuples.Tuple2ExplainElements.explain.Goals as goal

pub returns-in-Ok-true-clause-ok : goal.returns-in-Ok-true-clause-ok
returns-in-Ok-true-clause-ok g c = array_ended c.mismatch.ensures (c.in-Ok-true.ensures.ends c.in-Ok-true.field-0-test)

pub returns-in-Ok-Some-clause-ok : goal.returns-in-Ok-Some-clause-ok
returns-in-Ok-Some-clause-ok g c =
    let k = c.in-Ok-false.ensures.goes_on c.in-Ok-false.field-0-test in
    let e = rw c.in-Ok-Some.field-0-is at c.in-Ok-Some.ensures.ok in
    element_left c.args.wanted g.R.ExplainElements.refusals c.args.index _ _ c.requires.turn k.1 k.3 e c.leave_within.ensures.leaves c.leave_within.ensures.refused

pub returns-clause-ok : goal.returns-clause-ok
returns-clause-ok g c =
    let k = c.in-Ok-false.ensures.goes_on c.in-Ok-false.field-0-test in
    let e = rw c.in-Ok-None.field-0-is at c.in-Ok-None.ensures.ok in
    IfOk-weaker c.explain-2.result _ _ (λ o p. element_read c.requires.turn k.1 k.3 e p) c.explain-2.ensures.ok
