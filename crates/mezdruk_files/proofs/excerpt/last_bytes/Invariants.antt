use Rattle.std.proofs.Common.{◌≡◌, ℕ, ◌<◌, ◌≤◌, ◌-◌, true, length}
use Rattle.std.specs.Prelude.{slice_index}
use Rattle.mezdruk_files.specs.Excerpts.{is_continuation}
use Rattle.mezdruk_files.proofs.excerpt.last_bytes.Given as goal

abbrev pub invariant-skip : goal.invariant-skip
invariant-skip l = record {
  few : length l.bytes - l.max ≤ l.start;
  within : l.start ≤ length l.bytes;
  cut : (k : ℕ) → length l.bytes - l.max ≤ k → k < l.start → is_continuation (slice_index l.bytes k) ≡ true;
}

abbrev pub decreases-skip : goal.decreases-skip
decreases-skip l = length l.bytes - l.start
