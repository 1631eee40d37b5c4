use Rattle.json_stream.proofs.Values.{index_within}
use Rattle.json_stream.proofs.deserializer.Deserializer.index.Goals as goal

pub origin-requires : goal.origin-requires
origin-requires c =
    let d = c.self.inside in
    index_within d.text d.bytes.now c.in-Some.repaired.now.text d.at (λ t. t.now) (rw c.in-Some.is at c.self.invariant.0) c.self.invariant.1
