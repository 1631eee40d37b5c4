use Rattle.std.proofs.Common.{[], arith}
use Rattle.std.proofs.lemmas.Result.{err_from_is_err_and}
use Rattle.json_grammar.specs.declared.Kind.TheVariants.{Object as object}
use Rattle.json_grammar.specs.Tree.{begin, end}
use Rattle.json_print.specs.Given.{given}
use Rattle.json_doc_print.proofs.TokensGiven.{emits_none, was_fresh, emits_last, object_given, object_whole, object_front}
use Rattle.json_doc_print.proofs.Walking.{took, not_taken, reported, halts}
use Rattle.json_doc_print.proofs.emit_packed.emit_no_pairs.Goals as goal

pub returns-in_err-events_result : goal.returns-in_err-events_result
returns-in_err-events_result g c =
    let d = not_taken _ c.begin_object.ensures c.in_err-events_result.ensures in
    halts _ d.0 (err_from_is_err_and c.from_residual.result c.from_residual.ensures.1) (emits_none _ _ _ _ _ _ (given (begin object)) _ _ _ (object_given []) d.1)

pub returns : goal.returns
returns g c =
    reported _ _ c.events_result-2.ensures (emits_last _ _ _ _ _ _ _ _ (object_front [] 0) (given (end object)) _ _ (was_fresh _ _ _ _ _ _ (given (begin object)) _ (took _ c.begin_object.ensures c.in_ok-events_result.ensures)) (took _ c.begin_object.ensures c.in_ok-events_result.ensures).ok (took _ c.begin_object.ensures c.in_ok-events_result.ensures).fresh (object_whole [] 0 (omega arith)) c.end_object.ensures)
