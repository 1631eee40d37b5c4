-- Where the bytes of a payload are.
use Rattle.std.specs.Prelude.{ℕ, Bool, true, false, vec_len}
use Rattle.std.specs.Vec.{vec_ptr}
use Rattle.std.specs.Ptr.{Ptr, null_ptr}
use Rattle.mezdruk_c.specs.declared.payload.Payload.{Payload}
use Rattle.mezdruk_c.specs.declared.payload.Payload.TheVariants.{Bytes}

-- how many bytes there are
abbrev pub shown_length : Bool → Payload → ℕ
shown_length true (Bytes v) = vec_len v
shown_length full x = 0

-- the address of the first
abbrev pub shown_at : Bool → Payload → Ptr
shown_at true (Bytes v) = vec_ptr v
shown_at full x = null_ptr
