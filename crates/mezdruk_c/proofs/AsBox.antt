-- A held box and its parts own what a box at the same types owns.
use mir.Syntax.{impl, tnil, dnil}
use mathlib.Core.List.{[]}
use denote.Signature.{Slot, plain}
use Rattle.std_alloc.proofs.BoxSteps.Form.{Bx}
use Rattle.std_heap.specs.contracts.Global as Heap
use Rattle.std_heap.specs.contracts.GlobalAllocator.TheImpl.{ghosts, dict}
use Rattle.std_heap.proofs.Global.TheLaws as heap
use Rattle.mezdruk_c.specs.contracts.payload.Payload as Payload
use Rattle.mezdruk_c.proofs.payload.Payload.TheLaws as payload
use Rattle.mezdruk_c.specs.contracts.parts.PointerParts as PointerParts
use Rattle.mezdruk_c.specs.contracts.held.BoxedPointer as BoxedPointer

abbrev pub E : Bx
E = record { row = Payload.the_row; laws = payload.the_row_laws; al = record { row = Heap.the_row; laws = heap.the_row_laws; g = ghosts; d = dict; drops = impl [] tnil dnil } }

abbrev pub FromParts : Slot 0
FromParts = plain (λ _. PointerParts.the_row Payload.the_row Heap.the_row ghosts)

abbrev pub FromHeld : Slot 0
FromHeld = plain (λ _. BoxedPointer.the_row)
