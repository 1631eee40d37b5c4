use Rattle.std.proofs.Common.{map, Ok, inr, sym, ap, ◌∙◌}
use Rattle.json_grammar.specs.Tree.{list_trees}
use Rattle.json_model.specs.Edit.{pushed}
use Rattle.json_value.specs.Denotes.{tree_of}
use Rattle.json_value.proofs.AppliedTrees.{array_changed, array_kept, element_pushed, anyway}
use Rattle.json_value.specs.Places.{value_origin}
use Rattle.json_value.specs.Touched.{Pushes, Same}
use Rattle.json_value.proofs.PlacesKept.{leads_as}
use Rattle.json_value.proofs.EditedValues.{array_touched}
use Rattle.json_value.proofs.value.Value.push.Goals as goal

pub returns-in_err-push-in-Some-clause-kept : goal.returns-in_err-push-in-Some-clause-kept
returns-in_err-push-in-Some-clause-kept c =
    anyway c.from_residual-in_err-push-in-Some.result
    (array_kept c.args.self.now c.in-Some.array.now c.in_ok-list-in-Some.list.now c.in-Some.ensures.value c.in_ok-list-in-Some.ensures.list c.push.new.self (ap (map tree_of) c.in_err-push-in-Some.ensures.items))

pub returns-in_ok-push-in-Some-clause-ok : goal.returns-in_ok-push-in-Some-clause-ok
returns-in_ok-push-in-Some-clause-ok c =
    let t = tree_of c.args.value.now in
    let list = c.in_ok-list-in-Some.list.now in
    array_changed c.args.self.now c.in-Some.array.now list c.in-Some.ensures.value c.in_ok-list-in-Some.ensures.list (λ ts. Ok (pushed t ts)) c.push.new.self
    (ap Ok (element_pushed list.items c.in_ok-value-in-Some.value t c.in_ok-value-in-Some.ensures.tree ∙ ap (λ vs. list_trees (map tree_of vs)) (sym c.in_ok-push-in-Some.ensures.items)))

pub returns-in_ok-push-in-Some-clause-children : goal.returns-in_ok-push-in-Some-clause-children
returns-in_ok-push-in-Some-clause-children c =
    let lent = c.in_ok-list-in-Some in
    array_touched (Pushes (value_origin c.args.value.now)) c.args.self.now c.in-Some.array.now lent.list.now c.push.new.self c.in-Some.ensures.value lent.ensures.list lent.ensures.children
    (c.in_ok-value-in-Some.value, leads_as _ _ c.in_ok-value-in-Some.ensures.position c.in_ok-value-in-Some.ensures.places, c.in_ok-push-in-Some.ensures.items)

pub returns-in_err-push-in-Some-clause-kept_along : goal.returns-in_err-push-in-Some-clause-kept_along
returns-in_err-push-in-Some-clause-kept_along c =
    let lent = c.in_ok-list-in-Some in
    anyway c.from_residual-in_err-push-in-Some.result
    (inr (array_touched Same c.args.self.now c.in-Some.array.now lent.list.now c.push.new.self c.in-Some.ensures.value lent.ensures.list lent.ensures.children c.in_err-push-in-Some.ensures.items))
