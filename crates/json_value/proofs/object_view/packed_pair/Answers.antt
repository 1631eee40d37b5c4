use Rattle.std.proofs.Common.{List, ℕ, Some, sym, ap, ◌∙◌}
use Rattle.json_grammar.specs.Tree.{Tree}
use Rattle.json_doc.specs.Seen.{view_doc, view_place, view_tree}
use Rattle.json_doc_print.specs.Readings.{members}
use Rattle.json_value.specs.ViewTargets.{doc_held}
use Rattle.json_doc_print.proofs.TokensGiven.{key_there, value_there}
use Rattle.json_value.proofs.PartTargets.{member_got, no_member_got, child_shown}
use Rattle.json_doc_print.proofs.Items.{member_there, no_item}
use Rattle.json_value.proofs.object_view.packed_pair.Goals as goal

pub returns-in-Some-pair_value-clause-tree : goal.returns-in-Some-pair_value-clause-tree
returns-in-Some-pair_value-clause-tree c =
    let tree = view_tree c.args.packed.view in let i = c.args.i in
    sym (member_there (members tree) i _ _ (key_there tree i _ c.in-Some.ensures) (value_there tree i _ c.in-Some-pair_value.ensures.tree) ∙ ap (λ u. Some (c.in-Some.key.now, u)) (sym (ap view_tree c.beside.ensures.view)))

pub returns-in-Some-pair_value-clause-target : goal.returns-in-Some-pair_value-clause-target
returns-in-Some-pair_value-clause-target c =
    let p = c.args.packed in let tree = view_tree p.view in let i = c.args.i in let key = c.in-Some.key.now in let v = c.in-Some-pair_value.value in
    let there = member_there (members tree) i _ _ (key_there tree i _ c.in-Some.ensures) (value_there tree i _ c.in-Some-pair_value.ensures.tree) in
    ap (λ s. Some (key, s)) (child_shown p c.beside.result v i c.beside.ensures.view c.beside.ensures.holder c.in-Some-pair_value.ensures.doc c.in-Some-pair_value.ensures.place)
    ∙ sym (member_got (view_doc p.view) (doc_held p.holder) (view_place p.view) (members tree) i key (view_tree v) there)

pub returns-in-None-pair_value-clause-tree : goal.returns-in-None-pair_value-clause-tree
returns-in-None-pair_value-clause-tree c = let tree = view_tree c.args.packed.view in sym (no_item (λ (q : List ℕ × Tree). q.1) (members tree) c.args.i (value_there tree c.args.i _ c.in-None-pair_value.ensures.tree))

pub returns-in-None-pair_value-clause-target : goal.returns-in-None-pair_value-clause-target
returns-in-None-pair_value-clause-target c =
    let p = c.args.packed in let tree = view_tree p.view in let i = c.args.i in
    sym (no_member_got (view_doc p.view) (doc_held p.holder) (view_place p.view) (members tree) i (no_item (λ (q : List ℕ × Tree). q.1) (members tree) i (value_there tree i _ c.in-None-pair_value.ensures.tree)))

pub returns-in-None-clause-tree : goal.returns-in-None-clause-tree
returns-in-None-clause-tree c = let tree = view_tree c.args.packed.view in sym (no_item (λ (q : List ℕ × Tree). q.0) (members tree) c.args.i (key_there tree c.args.i _ c.in-None.ensures))

pub returns-in-None-clause-target : goal.returns-in-None-clause-target
returns-in-None-clause-target c =
    let p = c.args.packed in let tree = view_tree p.view in let i = c.args.i in
    sym (no_member_got (view_doc p.view) (doc_held p.holder) (view_place p.view) (members tree) i (no_item (λ (q : List ℕ × Tree). q.0) (members tree) i (key_there tree i _ c.in-None.ensures)))
