use Rattle.std.proofs.Common.{◌∷◌, ap, refl}
use Rattle.json_print.specs.Printer.{SerializerState, key_put}
use Rattle.json_print.specs.Serializing.{out_of}
use Rattle.json_print.proofs.Layers.{innermost, changed_in}
use Rattle.json_print.proofs.serializer.Serializer.keep_key.Goals as goal

pub returns-in-Ok : goal.returns-in-Ok
returns-in-Ok g c =
    let old : SerializerState g.row.F.Denot = out_of g.W.Sink.state c.args.self.now in
    let h = innermost c.args.self.now.objects.items _ _ c.in-Some.object.now c.args.self.now.objects.ok.0 (c.in-Some.ensures.variant.0 refl) refl c.in-Some.ensures.value in
    record { ok = changed_in old (λ ls. key_put ls c.args.key.now) c.in-Some.object.now _ h.outer _ h.there (h.changed _) (ap (λ x. x ∷ h.outer) c.in-Ok.ensures.ok); goes = c.requires; stops = tt }
