-- The bytes of a buffer.
use Rattle.std.specs.Prelude.{ℕ, List, [], Bool, true}
use Rattle.mezdruk_c.specs.declared.payload.Payload.{Payload}
use Rattle.mezdruk_c.specs.declared.payload.Payload.TheVariants.{Bytes}
use Rattle.mezdruk_c.specs.declared.buffer.ResultBuffer.{ResultBuffer}

-- the bytes of a payload, where there is one
abbrev pub payload_bytes : Bool → Payload → List ℕ
payload_bytes true (Bytes v) = v.items
payload_bytes full x = []

-- the bytes that a buffer shows to C: `length` bytes at `bytes`
abbrev pub buffer_bytes : ResultBuffer → List ℕ
buffer_bytes b = payload_bytes b.owner.held.full b.owner.held.value
