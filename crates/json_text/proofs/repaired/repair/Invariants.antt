use Rattle.std.proofs.Common.{string_bytes}
use Rattle.bstr.specs.Chunks.{chunks_rest}
use Rattle.json_text.proofs.Origins.{Repairing}
use Rattle.json_text.proofs.repaired.repair.Given as goal

abbrev pub invariant-loop-chunk : goal.invariant-loop-chunk
invariant-loop-chunk l = Repairing l.fn.bytes (string_bytes l.text) (chunks_rest l.chunk-iterator) l.runs.items l.read
