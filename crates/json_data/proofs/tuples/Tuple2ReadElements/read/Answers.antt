use Rattle.std.proofs.lemmas.Result.{err_from_is_err_and}
use Rattle.json_tokens.proofs.KindTests.{known}
use Rattle.json_data.proofs.Lists.{in_array_again}
use Rattle.json_data.proofs.TupleReading.{element_then, first_stops, later_stops, stops_err, too_short}
use Rattle.json_data.proofs.tuples.Tuple2ReadElements.read.Goals as goal

pub returns-in-Ok-None-clause-err : goal.returns-in-Ok-None-clause-err
returns-in-Ok-None-clause-err g c = too_short c.error_without_place.ensures (c.in-Ok-None.ensures.end c.in-Ok-None.field-0-is)

pub returns-in-Err-clause-err : goal.returns-in-Err-clause-err
returns-in-Err-clause-err g c = first_stops c.requires c.in-Err.ensures.err c.leave_after.ensures.left c.leave_after.ensures.as_was

pub read-requires : goal.read-requires
read-requires g c = in_array_again _ _ c.requires (known _ c.in-Ok-Some.ensures.element c.in-Ok-Some.field-0-is).takes.moves.expected

pub returns-in_err-rest-clause-err : goal.returns-in_err-rest-clause-err
returns-in_err-rest-clause-err g c =
    stops_err _ _ (err_from_is_err_and c.from_residual.result c.from_residual.ensures.1) (later_stops c.requires (known _ c.in-Ok-Some.ensures.element c.in-Ok-Some.field-0-is) c.in_err-rest.ensures.err)

pub returns-clause-ok : goal.returns-clause-ok
returns-clause-ok g c = element_then c.requires (known _ c.in-Ok-Some.ensures.element c.in-Ok-Some.field-0-is) c.in_ok-rest.ensures.ok
