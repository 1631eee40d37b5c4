use Rattle.std.proofs.Common.{refl}
use Rattle.json_print.specs.Parts.{meaning}
use Rattle.json_print.specs.Printer.{SerializerState}
use Rattle.json_print.specs.Serializing.{out_of}
use Rattle.json_print.proofs.Layers.{innermost, put_in}
use Rattle.json_print.proofs.serializer.Serializer.call_waiting.Goals as goal

pub returns-in-Ok-call : goal.returns-in-Ok-call
returns-in-Ok-call g c =
    let old : SerializerState g.row.F.Denot = out_of g.W.Sink.state c.args.self.now in
    let h = innermost c.args.self.now.objects.items _ _ c.in-Some.object.now c.args.self.now.objects.ok.0 (c.in-Some.ensures.variant.0 refl) refl c.in-Some.ensures.value in
    record {
      ok = put_in old _ _ (g.F.Formatter.form.piece old.formatter (meaning c.args.part)) c.in-Some.object.now _ h.outer _ h.there (h.changed _) c.in-Ok-call.ensures.ok c.in-Ok-call.ensures.next;
      goes = c.requires;
      stops = tt;
    }
