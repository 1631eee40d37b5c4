use Rattle.std.proofs.Common.{sym}
use Rattle.std.proofs.lemmas.Result.{err_from_is_err_and}
use Rattle.json_print.specs.Data.{rows_parts}
use Rattle.json_write.proofs.FieldRows.{rows_both, fields_more}
use Rattle.json_write.proofs.Parts.{writes_err, writes_stop, writes_same, writes_then, wrote}
use Rattle.json_write.proofs.fields.Tuple2Fields.give.Goals as goal

pub returns-in_err-give : goal.returns-in_err-give
returns-in_err-give g c =
    let a = g.A.Fields.rows c.args.self.now.0 in let b = g.B.Fields.rows c.args.self.now.1 in
    writes_err (writes_same (writes_stop c.in_err-give.ensures (rows_parts b)) (sym (rows_both a b))) (err_from_is_err_and c.from_residual.result c.from_residual.ensures.1)

pub give-requires-2 : goal.give-requires-2
give-requires-2 g c =
    let w = wrote c.in_ok-give.ensures in λ f. fields_more g.E.Events.token_state (g.A.Fields.rows c.args.self.now.0) g.met.E.Events.moves (c.requires w.begun) w

pub returns : goal.returns
returns g c =
    let a = g.A.Fields.rows c.args.self.now.0 in let b = g.B.Fields.rows c.args.self.now.1 in
    writes_same (writes_then (wrote c.in_ok-give.ensures) c.give-2.ensures) (sym (rows_both a b))
