-- What becomes of bytes that are not UTF-8 throughout, and the origin of each place of the repaired
-- text.
use Rattle.std.specs.Prelude.{ℕ, ◌+◌, ◌-◌, ◌<◌, ◌≤◌, ◌^◌, List, [], ◌∷◌, length, cond, nat_lt, nat_le, Option, Some, None}
use Rattle.std.specs.List.Sorted.{IsNonDecreasingBy}
use Rattle.bstr.specs.Utf8.{Decoded, pieces}
use Rattle.json_text.specs.declared.repaired.IllFormed.{IllFormed}

-- ---- bytes by their pieces, each a character or a maximal run that is none

-- how many bytes of the repaired text a piece of n bytes has: a character its own, and a run those of U+FFFD
abbrev pub shown_size : Option ℕ → ℕ → ℕ
shown_size None n = 3
shown_size (Some c) n = n

-- the origin of the k-th of them, counted from the beginning of the piece
abbrev pub origin_within : Option ℕ → ℕ → ℕ
origin_within None k = 0
origin_within (Some c) k = k

-- the origin of the offset k of the repaired text
abbrev pub origin_in : List Decoded → ℕ → ℕ
origin_in [] k = 0
origin_in (p ∷ ps) k =
    let n = shown_size p.char p.size in cond (nat_lt k n) (origin_within p.char k) (p.size + origin_in ps (k - n))

abbrev pub origin_at : List ℕ → ℕ → ℕ
origin_at b k = origin_in (pieces b) k

-- ---- what a clause sees of a repaired text

-- its bytes, and the runs that U+FFFD replaced
pub record RepairedText : Type 0 where
  pub text : List ℕ
  pub runs : List IllFormed

-- a later run, or this one where its U+FFFD begins at k or before
abbrev pub later_or : Option IllFormed → IllFormed → ℕ → Option IllFormed
later_or (Some s) r k = Some s
later_or None r k = cond (nat_le r.shown k) (Some r) None

-- the last run whose U+FFFD begins at k or before
abbrev pub last_shown : List IllFormed → ℕ → Option IllFormed
last_shown [] k = None
last_shown (r ∷ rs) k = later_or (last_shown rs k) r k

-- the origin of k, by that run
abbrev pub origin_after : Option IllFormed → ℕ → ℕ
origin_after None k = k
origin_after (Some r) k = cond (nat_lt k (r.shown + 3)) r.from (r.end + (k - (r.shown + 3)))

abbrev pub origin_by : List IllFormed → ℕ → ℕ
origin_by runs k = origin_after (last_shown runs k) k

-- the origin of the offset k of the repaired text
abbrev pub origin_of : RepairedText → ℕ → ℕ
origin_of r k = origin_by r.runs k

-- the runs are in their order, and each place has its origin in the input
pub record IsRepaired (r : RepairedText) : Type 0 where
  pub sorted : IsNonDecreasingBy (λ (x : IllFormed). x.shown) r.runs
  pub within : (k : ℕ) → k ≤ length r.text → origin_of r k < 2 ^ 64
