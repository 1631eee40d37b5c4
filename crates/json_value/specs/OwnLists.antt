-- The list of a container that has one of its own, changed.
use Rattle.std.specs.Prelude.{◌≡◌, Vec}
use Rattle.std.specs.declared.alloc.Global.{Global}
use Rattle.std.proofs.Common.{refl}
use Rattle.json_value.specs.Rows.{owned}
use Rattle.json_value.specs.declared.container.Container.{Container}
use Rattle.json_value.specs.declared.container.Form.{Form}
use Rattle.json_value.specs.declared.container.Form.TheVariants.{Empty, Owned, Packed}

-- the form with its list changed so; another form stays
abbrev pub form_with_list : {T : Type 0} → (f : Form T) → ((v : Vec T Global) → (let c : Container T = record { form = f } in c) ≡ owned v → Vec T Global) → Form T
form_with_list Empty changed = Empty
form_with_list (Owned v) changed = Owned (changed v refl)
form_with_list (Packed p) changed = Packed p

-- the container with its own list changed so; one without such a list stays
abbrev pub with_list : {T : Type 0} → (c : Container T) → ((v : Vec T Global) → c ≡ owned v → Vec T Global) → Container T
with_list c changed = record { form = form_with_list c.form changed }
