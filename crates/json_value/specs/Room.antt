-- How many elements or members a value takes before it asks for memory again: with those that it has, and beside them.
use Rattle.std.specs.Prelude.{ℕ, ◌-◌}
use Rattle.std.specs.Vec.{vec_len, vec_capacity}
use Rattle.json_value.specs.declared.container.Container.{Container}
use Rattle.json_value.specs.declared.container.Form.{Form}
use Rattle.json_value.specs.declared.container.Form.TheVariants.{Empty, Owned, Packed}
use Rattle.json_value.specs.declared.value.Value.{Value, out-Value}
use Rattle.json_value.specs.declared.value.Value.TheOpen.{Value-F}

-- with those that it has
abbrev pub form_room : {T : Type 0} → Form T → ℕ
form_room Empty = 0
form_room (Owned v) = vec_capacity v
form_room (Packed p) = 0

abbrev pub level_room : Value-F Value → ℕ
level_room Value-F.Null = 0
level_room (Value-F.Bool b) = 0
level_room (Value-F.Number n) = 0
level_room (Value-F.Raw l) = 0
level_room (Value-F.Text t) = 0
level_room (Value-F.Array a) = form_room a.form
level_room (Value-F.Object o) = form_room o.form

-- nothing for a scalar and for a place of a document
abbrev pub room_in : Value → ℕ
room_in v = level_room (out-Value v)

-- beside those that it has: nothing for an empty container and for a place of a document
abbrev pub form_spare : {T : Type 0} → Form T → ℕ
form_spare Empty = 0
form_spare (Owned v) = vec_capacity v - vec_len v
form_spare (Packed p) = 0

abbrev pub spare_in : {T : Type 0} → Container T → ℕ
spare_in c = form_spare c.form
