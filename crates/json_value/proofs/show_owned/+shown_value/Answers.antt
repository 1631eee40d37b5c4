use Rattle.std.proofs.Common.{◌+◌, [], ◌∷◌, map, drop, refl, sym, ap, arith}
use Rattle.std.proofs.lemmas.Result.{err_from_is_err_and}
use Rattle.json_grammar.specs.Sizes.{nodes}
use Rattle.json_model.specs.Print.{shown}
use Rattle.json_layout.proofs.ShownParts.{added_shows, Shows-first, Shows-then, Shows-same}
use Rattle.json_value.specs.Denotes.{tree_of, pair_of, text_bytes}
use Rattle.json_doc_print.proofs.ShownTrees.{elements_left, members_left, array_is, object_is, goes_first, goes_last, element_on, element_failed, member_on, key_failed, value_failed, there, none_there}
use Rattle.json_doc_print.proofs.TokensGiven.{element_within, value_within}
use Rattle.json_value.proofs.WholeTrees.{object_there, tree_of_item}
use Rattle.json_doc_print.proofs.Items.{item_there, items_end}
use Rattle.json_value.proofs.show_owned.+shown_value.Goals as goal

pub show_owned_element-returns-in_err-lead : goal.show_owned_element-returns-in_err-lead
show_owned_element-returns-in_err-lead g t c =
    let p = err_from_is_err_and c.from_residual.result c.from_residual.ensures.1 in rw (p.1, p.2) (Shows-first _ _ _ _ _ (added_shows _ _ _ _ c.in_err-lead.ensures))

pub show_owned_element-returns : goal.show_owned_element-returns
show_owned_element-returns g t c = Shows-then _ _ _ _ _ _ _ (added_shows _ _ _ _ c.in_ok-lead.ensures) c.show_value.ensures

pub show_value-show_owned_pairs-requires : goal.show_value-show_owned_pairs-requires
show_value-show_owned_pairs-requires g t c κs within =
    let e = object_there _ c.in-Object.object _ c.in-Object.is c.in-Owned-form.is in
    (omega (arith, ap nodes e), within)

pub show_value-returns-in-Owned-form : goal.show_value-returns-in-Owned-form
show_value-returns-in-Owned-form g t c =
    Shows-same _ _ _ _ _ (ap (shown (g.L.Layout.indent c.args.layout) c.args.level) (sym (object_there _ c.in-Object.object _ c.in-Object.is c.in-Owned-form.is))) c.show_owned_pairs.ensures

pub show_values-returns-in_err-show_piece : goal.show_values-returns-in_err-show_piece
show_values-returns-in_err-show_piece g t c =
    let p = err_from_is_err_and c.from_residual.result c.from_residual.ensures.1 in
    rw (p.1, p.2) (Shows-same _ _ _ _ _ (array_is (g.L.Layout.indent c.args.layout) c.args.level (map tree_of c.args.values.now.items)) (Shows-first _ _ (91 ∷ []) _ _ (added_shows _ _ _ _ c.in_err-show_piece.ensures)))

pub show_values-loop-value-init : goal.show_values-loop-value-init
show_values-loop-value-init g t c = goes_first c.args.level _ _ 91 _ _ _ c.in_ok-show_piece.ensures (array_is (g.L.Layout.indent c.args.layout) c.args.level (map tree_of c.args.values.now.items))

pub show_values-show_owned_element-requires : goal.show_values-show_owned_element-requires
show_values-show_owned_element-requires g t c κs within =
    let xs = c.args.values.now.items in let i = c.loop-value.value-index in let u = tree_of c.value-item.result in
    let e = item_there tree_of _ xs i c.value-item.result c.deref-value-items.ensures.value c.loop-value-test.true c.value-item.is in
    (omega (arith, element_within (map tree_of xs) i u e), within)

pub show_values-returns-in_err-show_owned_element : goal.show_values-returns-in_err-show_owned_element
show_values-returns-in_err-show_owned_element g t c =
    let p = err_from_is_err_and c.from_residual-in_err-show_owned_element.result c.from_residual-in_err-show_owned_element.ensures.1 in
    let xs = c.args.values.now.items in let i = c.loop-value.value-index in let u = tree_of c.value-item.result in
    let e = item_there tree_of _ xs i c.value-item.result c.deref-value-items.ensures.value c.loop-value-test.true c.value-item.is in
    rw (p.1, p.2) (element_failed _ _ _ (g.L.Layout.indent c.args.layout) c.args.level (c.args.level + 1) c.loop-value.first u u _ (drop (i + 1) (map tree_of xs)) _ _ c.loop-value.invariant (there (map tree_of xs) i u e) refl c.in_err-show_owned_element.ensures)

pub show_values-loop-value-preserved : goal.show_values-loop-value-preserved
show_values-loop-value-preserved g t c =
    let xs = c.args.values.now.items in let i = c.loop-value.value-index in let u = tree_of c.value-item.result in
    let e = item_there tree_of _ xs i c.value-item.result c.deref-value-items.ensures.value c.loop-value-test.true c.value-item.is in
    element_on _ _ _ (g.L.Layout.indent c.args.layout) c.args.level (c.args.level + 1) c.loop-value.first u u _ (drop (i + 1) (map tree_of xs)) _ _ c.loop-value.invariant (there (map tree_of xs) i u e) refl c.in_ok-show_owned_element.ensures

pub show_values-returns : goal.show_values-returns
show_values-returns g t c =
    let xs = c.args.values.now.items in let i = c.loop-value.value-index in
    let e = none_there (map tree_of xs) i (items_end tree_of _ xs i c.deref-value-items.ensures.value c.loop-value-test.false) in
    goes_last c.args.level (c.args.level + 1) _ _ _ _ _ _ _ c.loop-value.invariant (sym (ap (elements_left (g.L.Layout.indent c.args.layout) c.args.level (c.args.level + 1) c.loop-value.first) e)) c.close.ensures

pub show_owned_pairs-returns-in_err-show_piece : goal.show_owned_pairs-returns-in_err-show_piece
show_owned_pairs-returns-in_err-show_piece g t c =
    let p = err_from_is_err_and c.from_residual.result c.from_residual.ensures.1 in
    rw (p.1, p.2) (Shows-same _ _ _ _ _ (object_is (g.L.Layout.indent c.args.layout) c.args.level (map pair_of c.args.values.now.items)) (Shows-first _ _ (123 ∷ []) _ _ (added_shows _ _ _ _ c.in_err-show_piece.ensures)))

pub show_owned_pairs-loop-pair-init : goal.show_owned_pairs-loop-pair-init
show_owned_pairs-loop-pair-init g t c = goes_first c.args.level _ _ 123 _ _ _ c.in_ok-show_piece.ensures (object_is (g.L.Layout.indent c.args.layout) c.args.level (map pair_of c.args.values.now.items))

pub show_owned_pairs-returns-in_err-show_key : goal.show_owned_pairs-returns-in_err-show_key
show_owned_pairs-returns-in_err-show_key g t c =
    let p = err_from_is_err_and c.from_residual-in_err-show_key.result c.from_residual-in_err-show_key.ensures.1 in
    let xs = c.args.values.now.items in let i = c.loop-pair.pair-index in let k = text_bytes c.pair-item.result.key in let u = tree_of c.pair-item.result.value in
    let e = item_there pair_of _ xs i c.pair-item.result c.deref-pair-items.ensures.value c.loop-pair-test.true c.pair-item.is in
    rw (p.1, p.2) (key_failed _ _ _ (g.L.Layout.indent c.args.layout) c.args.level (c.args.level + 1) c.loop-pair.first k u _ (drop (i + 1) (map pair_of xs)) _ _ c.loop-pair.invariant (there (map pair_of xs) i (pair_of c.pair-item.result) e) c.in_err-show_key.ensures)

pub show_owned_pairs-show_value-requires : goal.show_owned_pairs-show_value-requires
show_owned_pairs-show_value-requires g t c κs within =
    let xs = c.args.values.now.items in let ps = map pair_of xs in let i = c.loop-pair.pair-index in let u = tree_of c.pair-item.result.value in
    let e = item_there pair_of _ xs i c.pair-item.result c.deref-pair-items.ensures.value c.loop-pair-test.true c.pair-item.is in
    (omega (arith, value_within ps i u (tree_of_item ps i c.pair-item.result e)), within)

pub show_owned_pairs-returns-in_err-show_value : goal.show_owned_pairs-returns-in_err-show_value
show_owned_pairs-returns-in_err-show_value g t c =
    let p = err_from_is_err_and c.from_residual-in_err-show_value.result c.from_residual-in_err-show_value.ensures.1 in
    let xs = c.args.values.now.items in let i = c.loop-pair.pair-index in let k = text_bytes c.pair-item.result.key in let u = tree_of c.pair-item.result.value in
    let e = item_there pair_of _ xs i c.pair-item.result c.deref-pair-items.ensures.value c.loop-pair-test.true c.pair-item.is in
    rw (p.1, p.2) (value_failed _ _ _ _ (g.L.Layout.indent c.args.layout) c.args.level (c.args.level + 1) c.loop-pair.first k u u _ (drop (i + 1) (map pair_of xs)) _ _ _ c.loop-pair.invariant (there (map pair_of xs) i (pair_of c.pair-item.result) e) refl c.in_ok-show_key.ensures c.in_err-show_value.ensures)

pub show_owned_pairs-loop-pair-preserved : goal.show_owned_pairs-loop-pair-preserved
show_owned_pairs-loop-pair-preserved g t c =
    let xs = c.args.values.now.items in let i = c.loop-pair.pair-index in let k = text_bytes c.pair-item.result.key in let u = tree_of c.pair-item.result.value in
    let e = item_there pair_of _ xs i c.pair-item.result c.deref-pair-items.ensures.value c.loop-pair-test.true c.pair-item.is in
    member_on _ _ _ _ (g.L.Layout.indent c.args.layout) c.args.level (c.args.level + 1) c.loop-pair.first k u u _ (drop (i + 1) (map pair_of xs)) _ _ _ c.loop-pair.invariant (there (map pair_of xs) i (pair_of c.pair-item.result) e) refl c.in_ok-show_key.ensures c.in_ok-show_value.ensures

pub show_owned_pairs-returns : goal.show_owned_pairs-returns
show_owned_pairs-returns g t c =
    let xs = c.args.values.now.items in let i = c.loop-pair.pair-index in
    let e = none_there (map pair_of xs) i (items_end pair_of _ xs i c.deref-pair-items.ensures.value c.loop-pair-test.false) in
    goes_last c.args.level (c.args.level + 1) _ _ _ _ _ _ _ c.loop-pair.invariant (sym (ap (members_left (g.L.Layout.indent c.args.layout) c.args.level (c.args.level + 1) c.loop-pair.first) e)) c.close.ensures
