use Rattle.std.proofs.Common.{◌≡◌, ◌<◌, ℕ, List, length, map, sym, ap, subst, ◌∙◌}
use Rattle.std.proofs.lemmas.List.{length-map}
use Rattle.std.specs.List.{zip}
use Rattle.json_grammar.specs.Tree.{Tree}
use Rattle.json_doc.specs.Left.{pairs_doc, places_of_pairs, pairs_left, doc_pair}
use Rattle.json_doc.specs.Seen.{view_doc, view_place, view_tree}
use Rattle.json_doc_print.specs.Readings.{members}
use Rattle.json_value.specs.ViewTargets.{place_of, doc_held}
use Rattle.json_value.proofs.Iterations.{members_by_place}
use Rattle.json_value.proofs.object_view.MembersLeft.of_packed.Goals as goal

pub returns-in-Object-clause-trees : goal.returns-in-Object-clause-trees
returns-in-Object-clause-trees c = let o = c.in-Object.ensures.tree in o.2 ∙ sym (ap members o.1)

pub returns-in-Object-clause-targets : goal.returns-in-Object-clause-targets
returns-in-Object-clause-targets c =
    let p = c.args.packed in let e = c.in-Object.members in let o = c.in-Object.ensures.tree in
    let same = o.2 ∙ sym (ap members o.1) in
    let all = length-map (places_of_pairs e) (doc_pair (pairs_doc e)) in
    let count : length (places_of_pairs e) ≡ length (members (view_tree p.view)) = sym all ∙ ap length same in
    ap (λ (ps : List (List ℕ × Tree)). zip (map (λ q. q.0) ps) (map (place_of (view_doc p.view) (doc_held p.holder)) (places_of_pairs e))) same
    ∙ members_by_place (view_doc p.view) (doc_held p.holder) (view_place p.view) (places_of_pairs e) (members (view_tree p.view)) count
    (λ i l. c.in-Object.ensures.places i (subst (λ (n : ℕ). i < n) (sym all) l))
