use Rattle.std.proofs.Common.{arith}
use Rattle.std.proofs.lemmas.Grind.{common_steps}
use Rattle.std.proofs.lemmas.Result.{err_from_is_err_and}
use Rattle.json_write.proofs.Parts.{writes_err, writes_stop, wrote}
use Rattle.json_write.proofs.Rows.{rows_start, rows_gap, rows_key_stop, rows_value_stop, rows_next, rows_all}
use Rattle.json_write.proofs.Turns.{rows_begun, rows_key, rows_more, rows_take, rows_end, value_takes}
use Rattle.json_write.proofs.maps.BTreeMapSerialize.serialize.Goals as goal

pub returns-in_err-begin_object : goal.returns-in_err-begin_object
returns-in_err-begin_object g c = writes_err (writes_stop c.in_err-begin_object.ensures _) (err_from_is_err_and c.from_residual.result c.from_residual.ensures.1)

pub loop-key-init : goal.loop-key-init
loop-key-init g c = record {
  upto = rows_start (wrote c.in_ok-begin_object.ensures) c.into_iter-key-iterator.ensures.into_iter_gives.0;
  token_state = rows_begun g.E.Events.token_state g.met.E.Events.moves (wrote c.in_ok-begin_object.ensures);
}

pub give_key-requires : goal.give_key-requires
give_key-requires g c = λ f. rows_take c.loop-key.invariant.token_state

pub serialize-requires : goal.serialize-requires
serialize-requires g c = λ f. value_takes (rows_key g.E.Events.token_state g.met.E.Events.moves c.loop-key.invariant.token_state (wrote c.in_ok-give_key-in-Some-key.ensures))

pub end_rows-requires : goal.end_rows-requires
end_rows-requires g c = λ f. rows_end c.loop-key.invariant.token_state

pub returns-in-None-key : goal.returns-in-None-key
returns-in-None-key g c = rows_gap (c.in-Some.key.now, c.in-Some.value.now) c.loop-key.invariant.upto c.in-Some.ensures.steps c.in-None-key.ensures c.key_error.ensures

pub returns-in_err-give_key-in-Some-key : goal.returns-in_err-give_key-in-Some-key
returns-in_err-give_key-in-Some-key g c =
    writes_err (rows_key_stop (c.in-Some.key.now, c.in-Some.value.now) c.loop-key.invariant.upto c.in-Some.ensures.steps c.in-Some-key.ensures c.in_err-give_key-in-Some-key.ensures)
    (err_from_is_err_and c.from_residual-in_err-give_key-in-Some-key.result c.from_residual-in_err-give_key-in-Some-key.ensures.1)

pub loop-key-preserved : goal.loop-key-preserved
loop-key-preserved g c =
    let k = wrote c.in_ok-give_key-in-Some-key.ensures in let v = wrote c.in_ok-serialize.ensures in record {
      upto = rows_next (c.in-Some.key.now, c.in-Some.value.now) c.loop-key.invariant.upto c.in-Some.ensures.steps c.in-Some-key.ensures k v;
      token_state = rows_more g.E.Events.token_state (g.V.Serialize.datum c.in-Some.value.now) g.met.E.Events.moves (rows_key g.E.Events.token_state g.met.E.Events.moves c.loop-key.invariant.token_state k) v;
    }

pub returns-in_err-serialize : goal.returns-in_err-serialize
returns-in_err-serialize g c =
    writes_err (rows_value_stop (c.in-Some.key.now, c.in-Some.value.now) c.loop-key.invariant.upto c.in-Some.ensures.steps c.in-Some-key.ensures (wrote c.in_ok-give_key-in-Some-key.ensures) c.in_err-serialize.ensures)
    (err_from_is_err_and c.from_residual-in_err-serialize.result c.from_residual-in_err-serialize.ensures.1)

pub returns : goal.returns
returns g c = rows_all c.loop-key.invariant.upto (grind (arith, common_steps, c.in-None.ensures.steps.0)) c.end_rows.ensures
