use Rattle.json_data.proofs.TupleReading.{tuple_ok, tuple_err}
use Rattle.json_data.proofs.tuples.read_tuple_elements.Goals as goal

pub returns-clause-ok : goal.returns-clause-ok
returns-clause-ok g c = λ a h. tuple_ok _ _ g.P.ReadElements.datums _ h c.read.ensures.ok

pub returns-clause-err : goal.returns-clause-err
returns-clause-err g c = λ a h. tuple_err _ _ _ h c.read.ensures.err
