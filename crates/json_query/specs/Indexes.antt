-- The indexes that a slice selects, as the code keeps them.
use Rattle.std.specs.Prelude.{◌≡◌, ℕ, ◌-◌, ◌%◌, ℤ, Bool, if◌then◌else◌, ◌==◌, ◌&&◌, nat_lt, nat_le, Option}
use Rattle.json_query.specs.Slices.{slice_bounds, selects}
use Rattle.json_query.specs.declared.slices.Indexes.{Indexes}

-- how far the index is from the first, or from the last
abbrev pub distance_to : Indexes → ℕ → ℕ
distance_to r i = if r.backwards then r.end - 1 - i else i - r.begin

-- it lies between the two, and some steps away
abbrev pub is_index : Indexes → ℕ → Bool
is_index r i = (nat_le r.begin i && nat_lt i r.end) && (nat_lt 0 r.step && (distance_to r i % r.step == 0))

-- these are the indexes that a slice of n items selects
abbrev pub AreIndexesOf : Indexes → Option ℤ → Option ℤ → ℤ → ℕ → Type 0
AreIndexesOf r start end step n = (i : ℕ) → is_index r i ≡ selects (slice_bounds start end step n) step i
