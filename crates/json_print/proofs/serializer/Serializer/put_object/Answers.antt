use Rattle.std.proofs.Common.{refl, subst}
use Rattle.json_print.specs.Printer.{SerializerState, rows_sorted}
use Rattle.json_print.specs.Serializing.{out_of}
use Rattle.json_print.specs.Steps.{Steps}
use Rattle.json_print.proofs.WrittenRows.{put_is_written, stopped_before}
use Rattle.json_print.proofs.serializer.Serializer.put_object.Goals as goal

pub returns-in-Ok : goal.returns-in-Ok
returns-in-Ok g c =
    let m = g.F.Formatter.form in
    let old : SerializerState g.row.F.Denot = out_of g.W.Sink.state c.args.self.now in
    subst (λ (aim : SerializerState g.row.F.Denot). Steps old (out_of g.W.Sink.state c.put_in_order.new.self) aim c.put_in_order.new.self.failed c.put_in_order.result) (put_is_written m (rows_sorted c.args.object.now.rows) old) c.put_in_order.ensures

pub returns-in-Err : goal.returns-in-Err
returns-in-Err g c =
    let m = g.F.Formatter.form in
    let old : SerializerState g.row.F.Denot = out_of g.W.Sink.state c.args.self.now in
    rw c.halt.ensures (record { ok = tt; goes = tt; stops = stopped_before m (rows_sorted c.args.object.now.rows) old _ c.in-Err.error refl c.in-Err.ensures.err })
