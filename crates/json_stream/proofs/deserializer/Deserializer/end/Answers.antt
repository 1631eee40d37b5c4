use Rattle.std.proofs.Common.{◌∙◌}
use Rattle.json_stream.proofs.Values.{within_same, same_text, trails_within}
use Rattle.json_stream.proofs.deserializer.Deserializer.end.Goals as goal

pub at_input_place-requires : goal.at_input_place-requires
at_input_place-requires c =
    let i = rw c.in-Ok.is at c.self.invariant in
    let b = c.self.inside.bytes.now in
    let e = c.in-Err-end.error in
    within_same c.self.inside.repaired b e.place (same_text _ c.self.inside.repaired b i.0) (trails_within c.at.result b e (c.at.ensures.text ∙ i.1.same) c.in-Err-end.ensures.err)
