-- The items that an index and a slice select of a list (RFC 9535, sections 2.3.3.2 and 2.3.4.2.2).
use Rattle.std.specs.Prelude.{ℕ, ◌%◌, ℤ, pos, negsuc, ◌+ℤ◌, ◌-ℤ◌, neg_ℤ, nat_abs, int_lt, int_le, Bool, if◌then◌else◌, ◌==◌, ◌&&◌, List, map, filter, reverse, length, slice_get, Option, None, unwrap_or}
use Rattle.std.specs.Int.{int_min, int_max}
use Rattle.std.specs.List.{enumerate_from}

-- Normalize: an index below 0 counts from the end of n items
abbrev pub normalized : ℤ → ℕ → ℤ
normalized i n = if int_le (pos 0) i then i else pos n +ℤ i

-- the item of an index that counts from the start
abbrev pub item_from_start : {X : Type 0} → ℤ → List X → Option X
item_from_start (pos i) xs = slice_get xs i
item_from_start (negsuc i) xs = None

-- the item that an index selects, if there is one
abbrev pub item_at : {X : Type 0} → ℤ → List X → Option X
item_at i xs = item_from_start (normalized i (length xs)) xs

-- where a slice of n items begins and ends if that is not given, by its step
abbrev pub default_start : ℤ → ℕ → ℤ
default_start step n = if int_le (pos 0) step then pos 0 else pos n -ℤ pos 1

abbrev pub default_end : ℤ → ℕ → ℤ
default_end step n = if int_le (pos 0) step then pos n else neg_ℤ (pos n) -ℤ pos 1

-- MIN(MAX(i, low), high)
abbrev pub limited : ℤ → ℤ → ℤ → ℤ
limited low high i = int_min (int_max i low) high

-- the indexes between which a slice selects
pub record Bounds : Type 0 where
  pub lower : ℤ
  pub upper : ℤ

-- the bounds of a slice that goes forwards, from its first index on and before its last one, and of
-- one that goes backwards
abbrev pub forward_bounds : ℤ → ℤ → ℕ → Bounds
forward_bounds start end n = record { lower = limited (pos 0) (pos n) (normalized start n); upper = limited (pos 0) (pos n) (normalized end n) }

abbrev pub backward_bounds : ℤ → ℤ → ℕ → Bounds
backward_bounds start end n = record { lower = limited (negsuc 0) (pos n -ℤ pos 1) (normalized end n); upper = limited (negsuc 0) (pos n -ℤ pos 1) (normalized start n) }

-- Bounds, of n items
abbrev pub bounds : ℤ → ℤ → ℤ → ℕ → Bounds
bounds start end step n = if int_le (pos 0) step then forward_bounds start end n else backward_bounds start end n

-- the number is some steps
abbrev pub is_some_steps : ℤ → ℤ → Bool
is_some_steps step i = nat_abs i % nat_abs step == 0

-- whether the slice selects the index: with a step above 0 those some steps up from lower and below
-- upper, with one below 0 those some steps down from upper and above lower, and none with the step
-- 0
abbrev pub selects : Bounds → ℤ → ℕ → Bool
selects b step i =
    if int_lt (pos 0) step then (int_le b.lower (pos i) && int_lt (pos i) b.upper) && is_some_steps step (pos i -ℤ b.lower)
    else (int_lt step (pos 0) && ((int_lt b.lower (pos i) && int_le (pos i) b.upper) && is_some_steps step (b.upper -ℤ pos i)))

-- in the order of the slice: with a step below 0 the last item comes first
abbrev pub in_slice_order : {X : Type 0} → ℤ → List X → List X
in_slice_order step xs = if int_lt step (pos 0) then reverse xs else xs

-- the items whose index the test passes, the first of the index i
abbrev pub items_from : {X : Type 0} → (ℕ → Bool) → ℕ → List X → List X
items_from {X} test i xs = map (λ (q : ℕ × X). q.1) (filter (λ (q : ℕ × X). test q.0) (enumerate_from i xs))

-- the bounds of a slice of n items, whose start and end may not be given
abbrev pub slice_bounds : Option ℤ → Option ℤ → ℤ → ℕ → Bounds
slice_bounds start end step n = bounds (unwrap_or start (default_start step n)) (unwrap_or end (default_end step n)) step n

-- the items that a slice selects
abbrev pub slice_items : {X : Type 0} → Option ℤ → Option ℤ → ℤ → List X → List X
slice_items start end step xs = in_slice_order step (items_from (selects (slice_bounds start end step (length xs)) step) 0 xs)
