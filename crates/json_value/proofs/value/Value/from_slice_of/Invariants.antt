use Rattle.std.proofs.Common.{◌≡◌, take, map}
use Rattle.json_value.specs.Denotes.{tree_of}
use Rattle.json_value.specs.Places.{places_in}
use Rattle.json_value.proofs.value.Value.from_slice_of.Given as goal

abbrev pub invariant-loop-item : goal.invariant-loop-item
invariant-loop-item l = record {
  trees : map tree_of l.copies.items ≡ map tree_of (take l.item-index l.items);
  places : map places_in l.copies.items ≡ map places_in (take l.item-index l.items);
}
