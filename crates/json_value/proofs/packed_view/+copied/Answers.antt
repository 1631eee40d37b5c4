use Rattle.std.proofs.Common.{◌++◌, map, sym, ap, ◌∙◌, arith}
use Rattle.json_grammar.specs.Tree.{list, pairs, list_trees, list_pairs}
use Rattle.json_grammar.specs.Sizes.{nodes}
use Rattle.json_doc.specs.Left.{children_left, pairs_left}
use Rattle.json_doc.specs.Seen.{view_tree}
use Rattle.json_value.specs.Denotes.{tree_of, pair_of}
use Rattle.json_value.specs.declared.container.Form.TheVariants.{Owned}
use Rattle.json_value.proofs.ValueLevels.{array_tree, object_tree}
use Rattle.json_doc_print.proofs.TokensGiven.{list_seen, pairs_seen, tree_among, value_among}
use Rattle.json_value.proofs.packed_view.+copied.Goals as goal

pub copy_document-copy_children-requires : goal.copy_document-copy_children-requires
copy_document-copy_children-requires t c =
    let a = c.in-Array.ensures.tree in (omega (arith, ap nodes (list_seen (view_tree c.args.view) a.0 (children_left c.in-Array.children) a.1 a.2)), tt)

pub copy_document-copy_members-requires : goal.copy_document-copy_members-requires
copy_document-copy_members-requires t c =
    let o = c.in-Object.ensures.tree in (omega (arith, ap nodes (pairs_seen (view_tree c.args.view) o.0 (pairs_left c.in-Object.members) o.1 o.2)), tt)

pub copy_document-returns-in_ok-list-in-Array-clause-tree : goal.copy_document-returns-in_ok-list-in-Array-clause-tree
copy_document-returns-in_ok-list-in-Array-clause-tree t c =
    let a = c.in-Array.ensures.tree in
    array_tree (record { form = Owned c.in_ok-list-in-Array.list }) ∙ ap (λ ts. list (list_trees ts)) c.in_ok-list-in-Array.ensures.list
    ∙ list_seen (view_tree c.args.view) a.0 (children_left c.in-Array.children) a.1 a.2

pub copy_document-returns-in_ok-list-in-Object-clause-tree : goal.copy_document-returns-in_ok-list-in-Object-clause-tree
copy_document-returns-in_ok-list-in-Object-clause-tree t c =
    let o = c.in-Object.ensures.tree in
    object_tree (record { form = Owned c.in_ok-list-in-Object.list }) ∙ ap (λ ps. pairs (list_pairs ps)) c.in_ok-list-in-Object.ensures.pairs
    ∙ pairs_seen (view_tree c.args.view) o.0 (pairs_left c.in-Object.members) o.1 o.2

pub copy_children-copy_document-requires : goal.copy_children-copy_document-requires
copy_children-copy_document-requires t c =
    let front = map tree_of c.loop-child.list.items in
    let whole = sym (ap (λ ts. front ++ ts) c.in-Some.ensures.steps.0) ∙ c.loop-child.invariant.2 in
    (omega (arith, tree_among front _ (children_left c.args.children) (view_tree c.in-Some.child) whole), tt)

pub copy_members-copy_document-requires : goal.copy_members-copy_document-requires
copy_members-copy_document-requires t c =
    let front = map pair_of c.loop-key.list.items in
    let whole = sym (ap (λ ps. front ++ ps) c.in-Some.ensures.steps.0) ∙ c.loop-key.invariant.2 in
    (omega (arith, value_among front _ (pairs_left c.args.members) c.in-Some.key.now (view_tree c.in-Some.value) whole), tt)
