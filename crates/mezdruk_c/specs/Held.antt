-- What a `Held` owns: the same as a `Box<Payload>`, or nothing.
use Rattle.std.specs.Prelude.{Bool, true, false}
use base.Fml.{Fml, ftrue}
use base.Stored.{Coded}
use denote.RawPtr.{Ptr}
use Rattle.std.specs.Box.Ownership.{box_owns}
use Rattle.std.specs.Global.{Global}
use Rattle.std_heap.specs.contracts.GlobalAllocator.TheImpl.{ghosts}
use Rattle.mezdruk_c.specs.contracts.payload.Payload.{the_row}

abbrev pub held_owns : Bool → Global → Ptr → the_row.Denot → Fml
held_owns true alloc p x = box_owns (ghosts.dealloc_token alloc) the_row p x
held_owns false alloc p x = ftrue

abbrev pub payload_coded : Coded the_row.Denot
payload_coded = the_row.coded
