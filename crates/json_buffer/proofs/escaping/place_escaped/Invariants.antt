use Rattle.std.proofs.Common.{◌≡◌, ◌+◌, ◌-◌, ◌*◌, ◌≤◌, ◌++◌, length, take}
use Rattle.json_model.specs.Print.{shown_bytes}
use Rattle.json_buffer.proofs.escaping.place_escaped.Given as goal

abbrev pub invariant-runs : goal.invariant-runs
invariant-runs l = (l.from ≤ length l.text) × (l.end ≤ l.fn.at + 6 * l.from) × (length l.buffer ≡ length l.fn.buffer) × (take l.end l.buffer ≡ take l.fn.at l.fn.buffer ++ shown_bytes (take l.from l.text))

abbrev pub decreases-runs : goal.decreases-runs
decreases-runs l = length l.text - l.from
