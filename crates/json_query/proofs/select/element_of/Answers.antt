use Rattle.std.proofs.Common.{ap, sym, ◌∙◌, option_to_list, to_z-of_z}
use Rattle.json_query.specs.Slices.{item_at}
use Rattle.json_query.specs.ViewedNodes.{elements_viewed}
use Rattle.json_query.proofs.ViewedParts.{array_index, no_index}
use Rattle.json_query.proofs.select.element_of.Goals as goal

pub returns-in-Some : goal.returns-in-Some
returns-in-Some c =
    let back = to_z-of_z c.ranges.index in
    let a = c.in-Some.array in
    c.element_at.ensures ∙ ap (λ k. option_to_list (item_at k (elements_viewed a))) back ∙ sym (array_index c.args.index c.args.view a c.in-Some.ensures.trees c.in-Some.ensures.targets)

pub returns-in-None : goal.returns-in-None
returns-in-None c = sym (no_index c.args.index c.args.view c.in-None.ensures.trees)
