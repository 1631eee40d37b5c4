use Rattle.std.proofs.Common.{map, ap, ◌∙◌}
use Rattle.std.proofs.lemmas.List.{take_all}
use Rattle.json_value.specs.Places.{places_in}
use Rattle.json_value.proofs.value.Value.from_slice_of.Goals as goal

pub returns-clause-places : goal.returns-clause-places
returns-clause-places c = (
  c.loop-item.copies,
  c.from_vec.ensures.value,
  c.loop-item.invariant.places ∙ ap (map places_in) (take_all c.loop-item.item-index c.args.items.now c.loop-item-test.false),
)
