use Rattle.std.proofs.Common.{length, ◌-◌, ◌≡◌, take}
use Rattle.std.specs.Fmt.{HasWritten, IsPlainFormatter}
use Rattle.std.specs.Str.{IsCharBoundary}
use Rattle.json_model.specs.Print.{shown_bytes}
use Rattle.json_layout.proofs.quoted.write_escaped.Given as goal

abbrev pub invariant-runs : goal.invariant-runs
invariant-runs g l =
    IsCharBoundary l.text l.at × (l.bytes ≡ l.text) × (IsPlainFormatter l.fn.f → HasWritten g.W.Write.write_str_gives l.fn.f (shown_bytes (take l.at l.text)) l.f)

abbrev pub decreases-runs : goal.decreases-runs
decreases-runs g l = length l.text - l.at
