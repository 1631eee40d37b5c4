use Rattle.std.proofs.lemmas.Result.{IfOk-weaker}
use Rattle.json_explain.proofs.TupleRefusals.{tuple_explains}
use Rattle.json_explain.proofs.tuples.explain_tuple.Goals as goal

pub returns-in-Ok-None-clause-ok : goal.returns-in-Ok-None-clause-ok
returns-in-Ok-None-clause-ok g c =
    IfOk-weaker c.explain.result _ _ (λ o p. tuple_explains (c.in-Ok-None.ensures.begun c.in-Ok-None.field-0-is) p) c.explain.ensures.ok
