use Rattle.std.proofs.Common.{◌+◌, [], ◌∷◌, true, sym, ap, ◌∙◌, arith}
use Rattle.std.proofs.lemmas.Result.{err_from_is_err_and}
use Rattle.json_grammar.specs.Tree.{list_trees, list_pairs}
use Rattle.json_grammar.specs.Sizes.{trees_nodes, pairs_nodes}
use Rattle.json_doc.specs.Left.{children_left, pairs_left}
use Rattle.json_doc.specs.Seen.{view_tree}
use Rattle.json_doc.specs.declared.children.DocChildren.{DocChildren}
use Rattle.json_doc.specs.declared.pairs.DocPairs.{DocPairs}
use Rattle.json_layout.proofs.ShownParts.{added_shows, Shows-first, Shows-then, Shows-same}
use Rattle.json_doc_print.specs.ShownNodes.{node_tree}
use Rattle.json_doc_print.proofs.ShownTrees.{node_is, elements_left, members_left, array_is, object_is, goes_first, goes_last, element_on, element_failed, element_bound, member_on, key_failed, value_failed, member_bound}
use Rattle.json_doc_print.proofs.show_packed.+shown.Goals as goal

pub show_element-returns-in_err-lead-in_default : goal.show_element-returns-in_err-lead-in_default
show_element-returns-in_err-lead-in_default g t c =
    let p = err_from_is_err_and c.from_residual.result c.from_residual.ensures.1 in rw (p.1, p.2) (Shows-first _ _ _ _ _ (added_shows _ _ _ _ c.in_err-lead-in_default.ensures))

pub show_element-returns-in_ok-lead-in_default : goal.show_element-returns-in_ok-lead-in_default
show_element-returns-in_ok-lead-in_default g t c =
    Shows-then _ _ _ _ _ _ _ (added_shows _ _ _ _ c.in_ok-lead-in_default.ensures) c.show_node.ensures

pub show_children-returns-in_err-show_piece : goal.show_children-returns-in_err-show_piece
show_children-returns-in_err-show_piece g t c =
    let p = err_from_is_err_and c.from_residual.result c.from_residual.ensures.1 in
    rw (p.1, p.2) (Shows-same _ _ _ _ _ (array_is (g.L.Layout.indent c.args.layout) c.args.level (children_left c.args.children)) (Shows-first _ _ (91 ∷ []) _ _ (added_shows _ _ _ _ c.in_err-show_piece.ensures)))

pub show_children-loop-child-init : goal.show_children-loop-child-init
show_children-loop-child-init g t c =
    let i = g.L.Layout.indent c.args.layout in let d = c.args.level in let e = c.into_iter-child-iterator.ensures.into_iter_gives in (
      tt,
      tt,
      omega (arith, ap (λ (s : DocChildren). trees_nodes (list_trees (children_left s))) e),
      goes_first c.args.level _ _ 91 _ _ _ c.in_ok-show_piece.ensures (ap (λ (s : DocChildren). 91 ∷ elements_left i d (d + 1) true (children_left s)) e ∙ array_is i d (children_left c.args.children)),
    )

pub show_children-show_element-requires : goal.show_children-show_element-requires
show_children-show_element-requires g t c κs within =
    let b = element_bound (node_tree c.node.result) (view_tree c.in-Some.child) _ _ c.in-Some.ensures.steps.0 (node_is c.node.result (view_tree c.in-Some.child) c.node.ensures.tree) in
    (omega (arith, b, c.loop-child.invariant.2), within)

pub show_children-returns-in_err-show_element : goal.show_children-returns-in_err-show_element
show_children-returns-in_err-show_element g t c =
    let p = err_from_is_err_and c.from_residual-in_err-show_element.result c.from_residual-in_err-show_element.ensures.1 in
    rw (p.1, p.2) (element_failed _ _ _ (g.L.Layout.indent c.args.layout) c.args.level (c.args.level + 1) c.loop-child.first (node_tree c.node.result) (view_tree c.in-Some.child) _ _ _ _ c.loop-child.invariant.3 c.in-Some.ensures.steps.0
    (node_is c.node.result (view_tree c.in-Some.child) c.node.ensures.tree) c.in_err-show_element.ensures)

pub show_children-loop-child-preserved : goal.show_children-loop-child-preserved
show_children-loop-child-preserved g t c =
    let n = node_is c.node.result (view_tree c.in-Some.child) c.node.ensures.tree in
    let b = element_bound (node_tree c.node.result) (view_tree c.in-Some.child) _ _ c.in-Some.ensures.steps.0 n in (
      tt,
      tt,
      omega (arith, b, c.loop-child.invariant.2),
      element_on _ _ _ (g.L.Layout.indent c.args.layout) c.args.level (c.args.level + 1) c.loop-child.first (node_tree c.node.result) (view_tree c.in-Some.child) _ _ _ _ c.loop-child.invariant.3 c.in-Some.ensures.steps.0 n c.in_ok-show_element.ensures,
    )

pub show_children-returns : goal.show_children-returns
show_children-returns g t c =
    goes_last c.args.level (c.args.level + 1) _ _ _ _ _ _ _ c.loop-child.invariant.3 (sym (ap (elements_left (g.L.Layout.indent c.args.layout) c.args.level (c.args.level + 1) c.loop-child.first) c.in-None.ensures.steps.0.0)) c.close.ensures

pub show_pairs-returns-in_err-show_piece : goal.show_pairs-returns-in_err-show_piece
show_pairs-returns-in_err-show_piece g t c =
    let p = err_from_is_err_and c.from_residual.result c.from_residual.ensures.1 in
    rw (p.1, p.2) (Shows-same _ _ _ _ _ (object_is (g.L.Layout.indent c.args.layout) c.args.level (pairs_left c.args.members)) (Shows-first _ _ (123 ∷ []) _ _ (added_shows _ _ _ _ c.in_err-show_piece.ensures)))

pub show_pairs-loop-key-init : goal.show_pairs-loop-key-init
show_pairs-loop-key-init g t c =
    let i = g.L.Layout.indent c.args.layout in let d = c.args.level in let e = c.into_iter-key-iterator.ensures.into_iter_gives in (
      tt,
      tt,
      omega (arith, ap (λ (s : DocPairs). pairs_nodes (list_pairs (pairs_left s))) e),
      goes_first c.args.level _ _ 123 _ _ _ c.in_ok-show_piece.ensures (ap (λ (s : DocPairs). 123 ∷ members_left i d (d + 1) true (pairs_left s)) e ∙ object_is i d (pairs_left c.args.members)),
    )

pub show_pairs-returns-in_err-key : goal.show_pairs-returns-in_err-key
show_pairs-returns-in_err-key g t c =
    let p = err_from_is_err_and c.from_residual-in_err-key.result c.from_residual-in_err-key.ensures.1 in
    rw (p.1, p.2) (key_failed _ _ _ (g.L.Layout.indent c.args.layout) c.args.level (c.args.level + 1) c.loop-key.first c.in-Some.key.now (view_tree c.in-Some.value) _ _ _ _ c.loop-key.invariant.3 c.in-Some.ensures.steps.0 c.in_err-key.ensures)

pub show_pairs-show_member-requires : goal.show_pairs-show_member-requires
show_pairs-show_member-requires g t c κs within =
    let b = member_bound c.in-Some.key.now (node_tree c.node.result) (view_tree c.in-Some.value) _ _ c.in-Some.ensures.steps.0 (node_is c.node.result (view_tree c.in-Some.value) c.node.ensures.tree) in
    (omega (arith, b, c.loop-key.invariant.2), within)

pub show_pairs-returns-in_err-show_member : goal.show_pairs-returns-in_err-show_member
show_pairs-returns-in_err-show_member g t c =
    let p = err_from_is_err_and c.from_residual-in_err-show_member.result c.from_residual-in_err-show_member.ensures.1 in
    rw (p.1, p.2) (value_failed _ _ _ _ (g.L.Layout.indent c.args.layout) c.args.level (c.args.level + 1) c.loop-key.first c.in-Some.key.now (node_tree c.node.result) (view_tree c.in-Some.value) _ _ _ _ _ c.loop-key.invariant.3 c.in-Some.ensures.steps.0
    (node_is c.node.result (view_tree c.in-Some.value) c.node.ensures.tree) c.in_ok-key.ensures c.in_err-show_member.ensures)

pub show_pairs-loop-key-preserved : goal.show_pairs-loop-key-preserved
show_pairs-loop-key-preserved g t c =
    let n = node_is c.node.result (view_tree c.in-Some.value) c.node.ensures.tree in
    let b = member_bound c.in-Some.key.now (node_tree c.node.result) (view_tree c.in-Some.value) _ _ c.in-Some.ensures.steps.0 n in (
      tt,
      tt,
      omega (arith, b, c.loop-key.invariant.2),
      member_on _ _ _ _ (g.L.Layout.indent c.args.layout) c.args.level (c.args.level + 1) c.loop-key.first c.in-Some.key.now (node_tree c.node.result) (view_tree c.in-Some.value) _ _ _ _ _ c.loop-key.invariant.3 c.in-Some.ensures.steps.0 n c.in_ok-key.ensures c.in_ok-show_member.ensures,
    )

pub show_pairs-returns : goal.show_pairs-returns
show_pairs-returns g t c =
    goes_last c.args.level (c.args.level + 1) _ _ _ _ _ _ _ c.loop-key.invariant.3 (sym (ap (members_left (g.L.Layout.indent c.args.layout) c.args.level (c.args.level + 1) c.loop-key.first) c.in-None.ensures.steps.0.0)) c.close.ensures
