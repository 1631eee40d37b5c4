-- What holds of containers that have a list of their own.
use Rattle.std.proofs.Common.{ℕ, ◌<◌, length, Vec, Global, arith}
use Rattle.json_value.specs.Room.{form_spare, spare_in}
use Rattle.json_value.specs.Rows.{owned, owned_items, owned_items_of, OwnsList}
use Rattle.json_value.specs.declared.container.Container.{Container}
use Rattle.json_value.specs.declared.container.Form.{Form}
use Rattle.json_value.specs.declared.container.Form.TheVariants.{Empty, Owned, Packed}

-- what holds of the container of each list holds of each container that has a list of its own
pub by_list : {T : Type 0} (P : Container T → Type 0) → ((v : Vec T Global) → P (owned v)) → (c : Container T) → OwnsList c → P c
by_list {T} P each c has = by c.form has
  where
    by : (f : Form T) → OwnsList (record { form = f }) → P (record { form = f })
    by Empty none = absurd none
    by (Owned v) has = each v
    by (Packed p) none = absurd none

-- a container in whose own list something is has one
pub has_items : {T : Type 0} (c : Container T) (i : ℕ) → i < length (owned_items_of c) → OwnsList c
has_items {T} c i low = by c.form low
  where
    by : (f : Form T) → i < length (owned_items f) → OwnsList (record { form = f })
    by Empty low = absurd (omega (arith, low))
    by (Owned v) low = tt
    by (Packed p) low = absurd (omega (arith, low))

-- so has one with room
pub has_room : {T : Type 0} (c : Container T) → 0 < spare_in c → OwnsList c
has_room {T} c room = by c.form room
  where
    by : (f : Form T) → 0 < form_spare f → OwnsList (record { form = f })
    by Empty room = absurd (omega (arith, room))
    by (Owned v) room = tt
    by (Packed p) room = absurd (omega (arith, room))
