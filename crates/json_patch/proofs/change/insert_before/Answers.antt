use Rattle.std.proofs.Common.{inl, refl, ◌≡◌, ◌<◌, ◌≤◌, ℕ, Some, Ok, length, map, sym, ap, ◌∙◌, arith}
use Rattle.std.proofs.lemmas.List.{length-map}
use Rattle.std.specs.List.{insert}
use Rattle.json_grammar.specs.Tree.{list_trees}
use Rattle.json_patch.specs.Patch.{insert_at_index}
use Rattle.json_patch.specs.Pointer.{index_of_token}
use Rattle.json_value.specs.Denotes.{tree_of, list_in}
use Rattle.json_patch.proofs.Changes.{insert_before_within, insert_at_no_index, insert-map}
use Rattle.json_value.specs.declared.value.Value.{Array}
use Rattle.json_value.proofs.EditedValues.{array_touched}
use Rattle.json_patch.specs.Touched.{InsertsElement}
use Rattle.json_patch.proofs.change.insert_before.Goals as goal

pub returns-in_ok-insert-in-Some-clause-ok : goal.returns-in_ok-insert-in-Some-clause-ok
returns-in_ok-insert-in-Some-clause-ok c =
    let xs = list_in c.args.array.now in
    let u = tree_of c.args.value in
    let items = c.in_ok-list.list.now.items in
    let i = c.in-Some.i in
    let same = c.in_ok-list.ensures.list in
    let fits : i ≤ length xs = omega (arith, c.in-Some.ensures.1, c.len.ensures, length-map items tree_of, ap length same) in
    ap (λ o. insert_at_index o u (list_trees xs)) c.in-Some.ensures.0 ∙ insert_before_within xs i u fits
    ∙ ap (λ ys. Ok (list_trees ys)) (sym (ap (map tree_of) c.in_ok-insert-in-Some.ensures.items ∙ insert-map tree_of items i c.args.value ∙ ap (λ ys. insert ys i u) same))

pub returns-in-None-clause-refused : goal.returns-in-None-clause-refused
returns-in-None-clause-refused c =
    let xs = list_in c.args.array.now in
    let items = c.in_ok-list.list.now.items in
    let past : (i : ℕ) → index_of_token c.args.token.now ≡ Some i → length xs < i = λ i e. omega (arith, c.in-None.ensures i e, c.len.ensures, length-map items tree_of, ap length c.in_ok-list.ensures.list) in
    rw c.from.ensures (insert_at_no_index (index_of_token c.args.token.now) xs (tree_of c.args.value) past)

pub returns-in_ok-insert-in-Some-clause-children : goal.returns-in_ok-insert-in-Some-clause-children
returns-in_ok-insert-in-Some-clause-children c =
    let a = c.args.array.now in
    array_touched (InsertsElement c.args.value) (Array a) a c.in_ok-list.list.now _ refl c.in_ok-list.ensures.list c.in_ok-list.ensures.children (inl (c.in-Some.i, c.in_ok-insert-in-Some.ensures.items))
