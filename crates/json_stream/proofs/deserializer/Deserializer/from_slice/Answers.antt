use Rattle.json_stream.proofs.Values.{checked}
use Rattle.json_stream.proofs.deserializer.Deserializer.from_slice.Goals as goal

pub invariant_of-result : goal.invariant_of-result
invariant_of-result c = let e = c.check_utf8.ensures in (tt, checked c.args.s.now c.check_utf8.result (λ t. t.now) e.same e.valid e.cause)
