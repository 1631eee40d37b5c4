use Rattle.std.proofs.Common.{pos}
use Rattle.std.proofs.lemmas.Result.{err_from_is_err_and}
use Rattle.json_model.specs.Datum.{integer_datum}
use Rattle.json_write.proofs.Parts.{writes_err, writes_stop, writes_then, wrote, wrote_then}
use Rattle.json_write.proofs.Turns.{list_begun, list_more, list_takes, list_ends}
use Rattle.test_samples.proofs.hinted.UnderstatedSerialize.serialize.Goals as goal

pub returns-in_err-begin_list : goal.returns-in_err-begin_list
returns-in_err-begin_list g c = writes_err (writes_stop c.in_err-begin_list.ensures _) (err_from_is_err_and c.from_residual.result c.from_residual.ensures.1)

pub serialize-requires : goal.serialize-requires
serialize-requires g c = λ f. list_takes (list_begun g.E.Events.token_state g.met.E.Events.moves (wrote c.in_ok-begin_list.ensures))

pub returns-in_err-serialize : goal.returns-in_err-serialize
returns-in_err-serialize g c =
    writes_err (writes_then (wrote c.in_ok-begin_list.ensures) (writes_stop c.in_err-serialize.ensures _)) (err_from_is_err_and c.from_residual-in_err-serialize.result c.from_residual-in_err-serialize.ensures.1)

pub end_list-requires : goal.end_list-requires
end_list-requires g c = λ f. list_ends (list_more g.E.Events.token_state (integer_datum (pos c.args.self.now.n)) g.met.E.Events.moves (list_begun g.E.Events.token_state g.met.E.Events.moves (wrote c.in_ok-begin_list.ensures)) (wrote c.in_ok-serialize.ensures))

pub returns : goal.returns
returns g c = writes_then (wrote_then (wrote c.in_ok-begin_list.ensures) (wrote c.in_ok-serialize.ensures)) c.end_list.ensures
