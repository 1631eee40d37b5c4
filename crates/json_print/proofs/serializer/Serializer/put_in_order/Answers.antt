use Rattle.std.proofs.Common.{refl, true}
use Rattle.json_print.specs.Printer.{SerializerState, rows_sorted}
use Rattle.json_print.specs.Rows.{rows_bytes}
use Rattle.json_print.specs.Serializing.{out_of}
use Rattle.json_print.proofs.Layers.{innermost, put_in}
use Rattle.json_print.proofs.serializer.Serializer.put_in_order.Goals as goal

pub returns-in-Ok-take_rows : goal.returns-in-Ok-take_rows
returns-in-Ok-take_rows g c =
    let m = g.F.Formatter.form in
    let old : SerializerState g.row.F.Denot = out_of g.W.Sink.state c.args.self.now in
    let h = innermost c.args.self.now.objects.items _ _ c.in-Some.outer.now c.args.self.now.objects.ok.0 (c.in-Some.ensures.variant.0 refl) refl c.in-Some.ensures.value in
    record {
      ok = put_in old _ _ (rows_bytes m old.formatter true (rows_sorted c.args.object.now.rows)) c.in-Some.outer.now _ h.outer _ h.there (h.changed _) c.in-Ok-take_rows.ensures.ok c.in-Ok-take_rows.ensures.next;
      goes = c.requires.goes;
      stops = tt;
    }
