use Rattle.std.proofs.Common.{ℕ, ◌<◌, get_or}
use Rattle.json_scan.specs.Runs.{IsPlain}
use Rattle.json_layout.proofs.plain.is_plain_few.Given as goal

abbrev pub invariant-each : goal.invariant-each
invariant-each l = (k : ℕ) → k < l.byte-index → IsPlain (get_or l.text k 0)
