-- What an owner owns, as a value.
use Rattle.std.specs.Prelude.{Bool, true, false, Option, Some, None}
use Rattle.mezdruk_c.specs.declared.payload.Payload.{Payload}
use Rattle.mezdruk_c.specs.declared.owner.Owner.{Owner}

-- the value, where there is one
abbrev pub if_full : Bool → Payload → Option Payload
if_full true x = Some x
if_full false x = None

-- the value that an owner owns
abbrev pub owned_payload : Owner → Option Payload
owned_payload o = if_full o.held.full o.held.value
