use Rattle.std.proofs.Common.{◌≡◌, ℕ, ◌<◌, ◌≤◌, true}
use Rattle.std.specs.Prelude.{slice_index}
use Rattle.mezdruk_files.specs.Excerpts.{is_continuation}
use Rattle.mezdruk_files.proofs.excerpt.first_bytes.Given as goal

abbrev pub invariant-skip : goal.invariant-skip
invariant-skip l = record {
  few : l.end ≤ l.max;
  cut : (k : ℕ) → l.end < k → k ≤ l.max → is_continuation (slice_index l.bytes k) ≡ true;
}

abbrev pub decreases-skip : goal.decreases-skip
decreases-skip l = l.end
