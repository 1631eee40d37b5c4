use Rattle.std.proofs.Common.{ap, sym, ◌∙◌, to_z-of_z}
use Rattle.json_query.specs.Slices.{normalized}
use Rattle.json_query.proofs.ViewedParts.{element_viewed, no_element_viewed}
use Rattle.json_query.proofs.select.element_at.Goals as goal

pub returns-in-Some : goal.returns-in-Some
returns-in-Some c =
    let back = to_z-of_z c.ranges.index in
    element_viewed c.args.index c.in-Some.i _ c.args.array c.get.result c.len.ensures (ap (λ k. normalized k c.len.result) (sym back) ∙ c.in-Some.ensures.1) c.get.ensures.tree c.get.ensures.target

pub returns-in-None : goal.returns-in-None
returns-in-None c =
    let back = to_z-of_z c.ranges.index in
    no_element_viewed c.args.index _ c.args.array c.len.ensures (λ j m e. c.in-None.ensures j m (ap (λ k. normalized k c.len.result) back ∙ e))
