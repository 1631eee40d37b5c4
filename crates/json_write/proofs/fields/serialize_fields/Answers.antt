use Rattle.std.proofs.Common.{[], ◌∷◌, Some}
use Rattle.std.proofs.lemmas.Result.{err_from_is_err_and}
use Rattle.json_grammar.specs.declared.Kind.TheVariants.{Object as object}
use Rattle.json_grammar.specs.Tree.{end}
use Rattle.json_print.specs.Given.{given}
use Rattle.json_write.proofs.FieldRows.{fields_begun, fields_more, key_ends}
use Rattle.json_write.proofs.Parts.{writes_err, writes_stop, writes_then, wrote, wrote_then}
use Rattle.json_write.proofs.fields.serialize_fields.Goals as goal

pub returns-in_err-begin_object : goal.returns-in_err-begin_object
returns-in_err-begin_object g c = writes_err (writes_stop c.in_err-begin_object.ensures _) (err_from_is_err_and c.from_residual.result c.from_residual.ensures.1)

pub give-requires : goal.give-requires
give-requires g c = λ f. fields_begun g.E.Events.token_state g.met.E.Events.moves (wrote c.in_ok-begin_object.ensures)

pub returns-in_err-give : goal.returns-in_err-give
returns-in_err-give g c =
    writes_err (writes_then (wrote c.in_ok-begin_object.ensures) (writes_stop c.in_err-give.ensures (Some (given (end object)) ∷ []))) (err_from_is_err_and c.from_residual-in_err-give.result c.from_residual-in_err-give.ensures.1)

pub end_rows-requires : goal.end_rows-requires
end_rows-requires g c =
    λ f. key_ends (fields_more g.E.Events.token_state (g.F.Fields.rows c.args.fields.now) g.met.E.Events.moves (fields_begun g.E.Events.token_state g.met.E.Events.moves (wrote c.in_ok-begin_object.ensures)) (wrote c.in_ok-give.ensures))

pub returns : goal.returns
returns g c = writes_then (wrote_then (wrote c.in_ok-begin_object.ensures) (wrote c.in_ok-give.ensures)) c.end_rows.ensures
