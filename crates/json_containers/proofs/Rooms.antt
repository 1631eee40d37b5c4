-- The room of a list whose elements were changed.
use Rattle.std.proofs.Common.{ℕ, ◌+◌, ◌<◌, ◌≤◌, Vec, Global, arith}
use Rattle.std.specs.Vec.{vec_len, vec_capacity}
use Rattle.json_value.specs.Room.{spare_in}
use Rattle.json_value.specs.Rows.{owned}

pub took_one : {T : Type 0} (n : ℕ) (v w : Vec T Global) → n ≤ spare_in (owned v) → vec_capacity v ≤ vec_capacity w → vec_len w ≤ vec_len v + 1 → n ≤ spare_in (owned w) + 1
took_one n v w h more one = omega (arith, h, more, one)

pub no_room : {T : Type 0} (n : ℕ) (v : Vec T Global) → n ≤ spare_in (owned v) → vec_capacity v ≤ vec_len v → 0 < n → ⊥
no_room n v h full some = omega (arith, h, full, some)
