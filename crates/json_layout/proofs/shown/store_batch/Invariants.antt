use Rattle.std.proofs.Common.{length, ◌+◌, ◌-◌, ◌≡◌, ◌*◌, ◌++◌, ◌≤◌, take}
use Rattle.json_model.specs.Print.{shown_bytes}
use Rattle.json_layout.proofs.shown.store_batch.Given as goal

abbrev pub invariant-each : goal.invariant-each
invariant-each l = (l.at ≤ length l.batch) × (l.to ≤ l.end + 6 * l.at) × (length l.room ≡ length l.fn.room) × (take l.to l.room ≡ take l.end l.fn.room ++ shown_bytes (take l.at l.batch))

abbrev pub decreases-each : goal.decreases-each
decreases-each l = length l.batch - l.at
