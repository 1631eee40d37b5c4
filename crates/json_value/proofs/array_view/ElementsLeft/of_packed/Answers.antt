use Rattle.std.proofs.Common.{◌≡◌, ◌<◌, ℕ, List, length, map, sym, ap, subst, ◌∙◌}
use Rattle.std.proofs.lemmas.List.{length-map}
use Rattle.json_doc.specs.Docs.{doc_tree}
use Rattle.json_doc.specs.Left.{children_doc, children_places}
use Rattle.json_doc.specs.Readings.{elements}
use Rattle.json_doc.specs.Seen.{view_doc, view_place, view_tree}
use Rattle.json_value.specs.ViewTargets.{doc_held}
use Rattle.json_value.proofs.Iterations.{elements_by_place}
use Rattle.json_value.proofs.array_view.ElementsLeft.of_packed.Goals as goal

pub returns-in-Array-clause-trees : goal.returns-in-Array-clause-trees
returns-in-Array-clause-trees c = let a = c.in-Array.ensures.tree in a.2 ∙ sym (ap elements a.1)

pub returns-in-Array-clause-targets : goal.returns-in-Array-clause-targets
returns-in-Array-clause-targets c =
    let p = c.args.packed in let e = c.in-Array.elements in let a = c.in-Array.ensures.tree in
    let count : length (children_places e) ≡ length (elements (view_tree p.view)) = sym (length-map (children_places e) (doc_tree (children_doc e))) ∙ ap length (a.2 ∙ sym (ap elements a.1)) in
    elements_by_place (view_doc p.view) (doc_held p.holder) (view_place p.view) (children_places e) (elements (view_tree p.view)) count
    (λ i l. c.in-Array.ensures.places i (subst (λ (n : ℕ). i < n) (sym (length-map (children_places e) (doc_tree (children_doc e)))) l))
