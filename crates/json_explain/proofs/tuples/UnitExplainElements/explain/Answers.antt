use Rattle.json_explain.proofs.TupleRefusals.{all_read, array_longer}
use Rattle.json_explain.proofs.tuples.UnitExplainElements.explain.Goals as goal

pub returns-in-Ok-true-clause-ok : goal.returns-in-Ok-true-clause-ok
returns-in-Ok-true-clause-ok g c = all_read (c.in-Ok-true.ensures.ends c.in-Ok-true.field-0-test)

pub returns-in-Ok-clause-ok : goal.returns-in-Ok-clause-ok
returns-in-Ok-clause-ok g c =
    let k = c.in-Ok-false.ensures.goes_on c.in-Ok-false.field-0-test in array_longer c.mismatch.ensures c.requires.turn k.1 k.3 k.2 c.in-Ok.ensures.ok
