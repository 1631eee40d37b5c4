use Rattle.std.proofs.lemmas.Result.{err_from_is_err_and}
use Rattle.json_write.proofs.Elements.{elements_begun}
use Rattle.json_write.proofs.Parts.{writes_err, writes_stop, writes_then, wrote}
use Rattle.json_write.proofs.tuples.write_array.Goals as goal

pub returns-in_err-begin_list : goal.returns-in_err-begin_list
returns-in_err-begin_list g c = writes_err (writes_stop c.in_err-begin_list.ensures _) (err_from_is_err_and c.from_residual.result c.from_residual.ensures.1)

pub write-requires : goal.write-requires
write-requires g c = λ f. elements_begun g.E.Events.token_state g.met.E.Events.moves (wrote c.in_ok-begin_list.ensures)

pub returns : goal.returns
returns g c = writes_then (wrote c.in_ok-begin_list.ensures) c.write.ensures
