use Rattle.std.proofs.Common.{◌≡◌, ◌+◌, ◌<◌, [], ◌∷◌, ℕ, List, length, get_or, map, drop, refl, sym, ap, subst, ◌∙◌, arith}
use Rattle.std.proofs.lemmas.Result.{err_from_is_err_and}
use Rattle.json_grammar.specs.Sizes.{nodes}
use Rattle.json_grammar.specs.Tree.{Tree}
use Rattle.json_model.specs.Print.{shown}
use Rattle.json_model.specs.Sort.{sorted}
use Rattle.json_layout.specs.Showing.{key_shown}
use Rattle.json_layout.proofs.ShownParts.{added_shows, Adds-same, Shows-first, Shows-then, Shows-same}
use Rattle.json_value.specs.Denotes.{tree_of, pair_of, text_bytes}
use Rattle.json_doc_print.specs.KeyOrder.{IsKeyOrder, numbers_in}
use Rattle.json_value.specs.OwnedKeys.{numbers_from, owned_key}
use Rattle.json_doc_print.specs.declared.key_order.IndexedMember.{IndexedMember}
use Rattle.json_value.specs.declared.pair.Keyed.{Keyed}
use Rattle.json_value.specs.declared.value.Value.{Value}
use Rattle.json_doc_print.proofs.KeyFronts.{number_of, entry_there, entries_end}
use Rattle.json_value.proofs.OwnedEntries.{entry_within, entry_value}
use Rattle.json_doc_print.proofs.KeyOrders.{paired, sorted_at, sorted_pair, in_place}
use Rattle.json_value.proofs.OwnedOrders.{owned_tree, item_at, numbers_sorted}
use Rattle.json_doc_print.proofs.ShownTrees.{elements_left, members_left, goes_from, goes_last, element_on, element_failed, member_on, key_failed, value_failed, there, none_there}
use Rattle.json_doc_print.proofs.SortedTrees.{sorted_array_is, sorted_object_is}
use Rattle.json_doc_print.proofs.TokensGiven.{value_within, element_within}
use Rattle.json_value.proofs.WholeTrees.{array_there, object_there, tree_of_item}
use Rattle.json_doc_print.proofs.Items.{item_there, items_end}
use Rattle.json_value.proofs.show_sorted.+shown_sorted_value.Goals as goal

-- the member of a number, with its value sorted
abbrev member_in : List (Keyed Value) → ℕ → List ℕ × Tree
member_in xs = paired (owned_key xs) (sorted_at (owned_tree xs))

abbrev members_in : List (Keyed Value) → List IndexedMember → List (List ℕ × Tree)
members_in xs es = map (member_in xs) (numbers_in es)

-- those from an entry on
entry_left : (xs : List (Keyed Value)) (es : List IndexedMember) (i : ℕ) (p : Keyed Value) → IsKeyOrder (owned_key xs) (numbers_from 0 (length xs)) (numbers_in es) → i < length es → p ≡ get_or xs (number_of es i) p
    → drop i (members_in xs es) ≡ sorted_pair (pair_of p) ∷ drop (i + 1) (members_in xs es)
entry_left xs es i p is l e =
    there (members_in xs es) i (member_in xs (number_of es i)) (entry_there (member_in xs) es i l) ∙ ap (λ q. sorted_pair q ∷ drop (i + 1) (members_in xs es)) (item_at xs (number_of es i) p (entry_within xs es is i l) e)

-- ---- a value

pub show_sorted_value-show_sorted_values-requires : goal.show_sorted_value-show_sorted_values-requires
show_sorted_value-show_sorted_values-requires g t c κs within =
    let e = array_there _ c.in-Array.array _ c.in-Array.is c.in-Owned.is in
    (omega (arith, ap nodes e), within)

pub show_sorted_value-returns-in-Owned : goal.show_sorted_value-returns-in-Owned
show_sorted_value-returns-in-Owned g t c =
    Shows-same _ _ _ _ _ (ap (λ u. shown (g.L.Layout.indent c.args.layout.inner) c.args.level (sorted u)) (sym (array_there _ c.in-Array.array _ c.in-Array.is c.in-Owned.is))) c.show_sorted_values.ensures

pub show_sorted_value-show_sorted_pairs-requires : goal.show_sorted_value-show_sorted_pairs-requires
show_sorted_value-show_sorted_pairs-requires g t c κs within =
    let e = object_there _ c.in-Object.object _ c.in-Object.is c.in-Owned-form.is in
    (omega (arith, ap nodes e), within)

pub show_sorted_value-returns-in-Owned-form : goal.show_sorted_value-returns-in-Owned-form
show_sorted_value-returns-in-Owned-form g t c =
    Shows-same _ _ _ _ _ (ap (λ u. shown (g.L.Layout.indent c.args.layout.inner) c.args.level (sorted u)) (sym (object_there _ c.in-Object.object _ c.in-Object.is c.in-Owned-form.is))) c.show_sorted_pairs.ensures

-- ---- an element

pub show_sorted_item-returns-in_err-lead : goal.show_sorted_item-returns-in_err-lead
show_sorted_item-returns-in_err-lead g t c =
    let p = err_from_is_err_and c.from_residual.result c.from_residual.ensures.1 in rw (p.1, p.2) (Shows-first _ _ _ _ _ (added_shows _ _ _ _ c.in_err-lead.ensures))

pub show_sorted_item-returns : goal.show_sorted_item-returns
show_sorted_item-returns g t c = Shows-then _ _ _ _ _ _ _ (added_shows _ _ _ _ c.in_ok-lead.ensures) c.show_sorted_value.ensures

-- ---- an array

pub show_sorted_values-returns-in_err-show_piece : goal.show_sorted_values-returns-in_err-show_piece
show_sorted_values-returns-in_err-show_piece g t c =
    let p = err_from_is_err_and c.from_residual.result c.from_residual.ensures.1 in
    rw (p.1, p.2) (Shows-same _ _ _ _ _ (sorted_array_is (g.L.Layout.indent c.args.layout.inner) c.args.level (map tree_of c.args.values.now.items)) (Shows-first _ _ (91 ∷ []) _ _ (added_shows _ _ _ _ c.in_err-show_piece.ensures)))

pub show_sorted_values-loop-value-init : goal.show_sorted_values-loop-value-init
show_sorted_values-loop-value-init g t c = goes_from _ _ _ 91 _ _ _ c.in_ok-show_piece.ensures (sorted_array_is (g.L.Layout.indent c.args.layout.inner) c.args.level (map tree_of c.args.values.now.items))

pub show_sorted_values-show_sorted_item-requires : goal.show_sorted_values-show_sorted_item-requires
show_sorted_values-show_sorted_item-requires g t c κs within =
    let xs = c.args.values.now.items in let i = c.loop-value.value-index in let u = tree_of c.value-item.result in
    let e = item_there tree_of _ xs i c.value-item.result c.deref-value-items.ensures.value c.loop-value-test.true c.value-item.is in
    (omega (arith, element_within (map tree_of xs) i u e), within)

pub show_sorted_values-returns-in_err-show_sorted_item : goal.show_sorted_values-returns-in_err-show_sorted_item
show_sorted_values-returns-in_err-show_sorted_item g t c =
    let p = err_from_is_err_and c.from_residual-in_err-show_sorted_item.result c.from_residual-in_err-show_sorted_item.ensures.1 in
    let xs = c.args.values.now.items in let i = c.loop-value.value-index in let u = tree_of c.value-item.result in
    let e = item_there tree_of _ xs i c.value-item.result c.deref-value-items.ensures.value c.loop-value-test.true c.value-item.is in
    rw (p.1, p.2) (element_failed _ _ _ (g.L.Layout.indent c.args.layout.inner) c.args.level (c.args.level + 1) c.loop-value.first (sorted u) (sorted u) _ (map sorted (drop (i + 1) (map tree_of xs))) _ _ c.loop-value.invariant (ap (map sorted) (there (map tree_of xs) i u e)) refl c.in_err-show_sorted_item.ensures)

pub show_sorted_values-loop-value-preserved : goal.show_sorted_values-loop-value-preserved
show_sorted_values-loop-value-preserved g t c =
    let xs = c.args.values.now.items in let i = c.loop-value.value-index in let u = tree_of c.value-item.result in
    let e = item_there tree_of _ xs i c.value-item.result c.deref-value-items.ensures.value c.loop-value-test.true c.value-item.is in
    element_on _ _ _ (g.L.Layout.indent c.args.layout.inner) c.args.level (c.args.level + 1) c.loop-value.first (sorted u) (sorted u) _ (map sorted (drop (i + 1) (map tree_of xs))) _ _ c.loop-value.invariant (ap (map sorted) (there (map tree_of xs) i u e)) refl c.in_ok-show_sorted_item.ensures

pub show_sorted_values-returns : goal.show_sorted_values-returns
show_sorted_values-returns g t c =
    let xs = c.args.values.now.items in let i = c.loop-value.value-index in
    let e = none_there (map tree_of xs) i (items_end tree_of _ xs i c.deref-value-items.ensures.value c.loop-value-test.false) in
    goes_last _ _ _ _ _ _ _ _ _ c.loop-value.invariant (sym (ap (λ ts. elements_left (g.L.Layout.indent c.args.layout.inner) c.args.level (c.args.level + 1) c.loop-value.first (map sorted ts)) e)) c.close.ensures

-- ---- an object whose keys are in order

pub show_in_place-returns-in_err-show_piece : goal.show_in_place-returns-in_err-show_piece
show_in_place-returns-in_err-show_piece g t c =
    let p = err_from_is_err_and c.from_residual.result c.from_residual.ensures.1 in let ps = map pair_of c.args.values.now.items in
    rw (p.1, p.2) (Shows-same _ _ _ _ _ (sorted_object_is (g.L.Layout.indent c.args.layout.inner) c.args.level ps (map sorted_pair ps) (in_place ps c.requires)) (Shows-first _ _ (123 ∷ []) _ _ (added_shows _ _ _ _ c.in_err-show_piece.ensures)))

pub show_in_place-loop-pair-init : goal.show_in_place-loop-pair-init
show_in_place-loop-pair-init g t c =
    let ps = map pair_of c.args.values.now.items in
    goes_from _ _ _ 123 _ _ _ c.in_ok-show_piece.ensures (sorted_object_is (g.L.Layout.indent c.args.layout.inner) c.args.level ps (map sorted_pair ps) (in_place ps c.requires))

pub show_in_place-returns-in_err-show_key : goal.show_in_place-returns-in_err-show_key
show_in_place-returns-in_err-show_key g t c =
    let p = err_from_is_err_and c.from_residual-in_err-show_key.result c.from_residual-in_err-show_key.ensures.1 in
    let xs = c.args.values.now.items in let ps = map pair_of xs in let i = c.loop-pair.pair-index in let k = text_bytes c.pair-item.result.key in let u = tree_of c.pair-item.result.value in
    let e = item_there pair_of _ xs i c.pair-item.result c.deref-pair-items.ensures.value c.loop-pair-test.true c.pair-item.is in
    rw (p.1, p.2) (key_failed _ _ _ (g.L.Layout.indent c.args.layout.inner) c.args.level (c.args.level + 1) c.loop-pair.first k (sorted u) _ (map sorted_pair (drop (i + 1) ps)) _ _ c.loop-pair.invariant (ap (map sorted_pair) (there ps i (pair_of c.pair-item.result) e)) c.in_err-show_key.ensures)

pub show_in_place-show_sorted_value-requires : goal.show_in_place-show_sorted_value-requires
show_in_place-show_sorted_value-requires g t c κs within =
    let xs = c.args.values.now.items in let ps = map pair_of xs in let i = c.loop-pair.pair-index in let u = tree_of c.pair-item.result.value in
    let e = item_there pair_of _ xs i c.pair-item.result c.deref-pair-items.ensures.value c.loop-pair-test.true c.pair-item.is in
    (omega (arith, value_within ps i u (tree_of_item ps i c.pair-item.result e)), within)

pub show_in_place-returns-in_err-show_sorted_value : goal.show_in_place-returns-in_err-show_sorted_value
show_in_place-returns-in_err-show_sorted_value g t c =
    let p = err_from_is_err_and c.from_residual-in_err-show_sorted_value.result c.from_residual-in_err-show_sorted_value.ensures.1 in
    let xs = c.args.values.now.items in let ps = map pair_of xs in let i = c.loop-pair.pair-index in let k = text_bytes c.pair-item.result.key in let u = sorted (tree_of c.pair-item.result.value) in
    let e = item_there pair_of _ xs i c.pair-item.result c.deref-pair-items.ensures.value c.loop-pair-test.true c.pair-item.is in
    rw (p.1, p.2) (value_failed _ _ _ _ (g.L.Layout.indent c.args.layout.inner) c.args.level (c.args.level + 1) c.loop-pair.first k u u _ (map sorted_pair (drop (i + 1) ps)) _ _ _ c.loop-pair.invariant (ap (map sorted_pair) (there ps i (pair_of c.pair-item.result) e)) refl c.in_ok-show_key.ensures c.in_err-show_sorted_value.ensures)

pub show_in_place-loop-pair-preserved : goal.show_in_place-loop-pair-preserved
show_in_place-loop-pair-preserved g t c =
    let xs = c.args.values.now.items in let ps = map pair_of xs in let i = c.loop-pair.pair-index in let k = text_bytes c.pair-item.result.key in let u = sorted (tree_of c.pair-item.result.value) in
    let e = item_there pair_of _ xs i c.pair-item.result c.deref-pair-items.ensures.value c.loop-pair-test.true c.pair-item.is in
    member_on _ _ _ _ (g.L.Layout.indent c.args.layout.inner) c.args.level (c.args.level + 1) c.loop-pair.first k u u _ (map sorted_pair (drop (i + 1) ps)) _ _ _ c.loop-pair.invariant (ap (map sorted_pair) (there ps i (pair_of c.pair-item.result) e)) refl c.in_ok-show_key.ensures c.in_ok-show_sorted_value.ensures

pub show_in_place-returns : goal.show_in_place-returns
show_in_place-returns g t c =
    let xs = c.args.values.now.items in let i = c.loop-pair.pair-index in
    let e = none_there (map pair_of xs) i (items_end pair_of _ xs i c.deref-pair-items.ensures.value c.loop-pair-test.false) in
    goes_last _ _ _ _ _ _ _ _ _ c.loop-pair.invariant (sym (ap (λ ps. members_left (g.L.Layout.indent c.args.layout.inner) c.args.level (c.args.level + 1) c.loop-pair.first (map sorted_pair ps)) e)) c.close.ensures

-- ---- an object by an index of its members

pub show_by_numbers-returns-in_err-show_piece : goal.show_by_numbers-returns-in_err-show_piece
show_by_numbers-returns-in_err-show_piece g t c =
    let p = err_from_is_err_and c.from_residual.result c.from_residual.ensures.1 in let xs = c.args.values.now.items in let ns = numbers_in c.in-Ok.order.items in
    rw (p.1, p.2) (Shows-same _ _ _ _ _ (sorted_object_is (g.L.Layout.indent c.args.layout.inner) c.args.level (map pair_of xs) (map (member_in xs) ns) (numbers_sorted xs ns c.in-Ok.ensures.order)) (Shows-first _ _ (123 ∷ []) _ _ (added_shows _ _ _ _ c.in_err-show_piece.ensures)))

pub show_by_numbers-loop-entry-init : goal.show_by_numbers-loop-entry-init
show_by_numbers-loop-entry-init g t c =
    let xs = c.args.values.now.items in let ns = numbers_in c.deref-entry-items.result.now in
    let is = subst (λ es. IsKeyOrder (owned_key xs) (numbers_from 0 (length xs)) (numbers_in es)) (sym c.deref-entry-items.ensures.value) c.in-Ok.ensures.order in
    goes_from _ _ _ 123 _ _ _ c.in_ok-show_piece.ensures (sorted_object_is (g.L.Layout.indent c.args.layout.inner) c.args.level (map pair_of xs) (map (member_in xs) ns) (numbers_sorted xs ns is))

pub show_by_numbers-index-pair-requires : goal.show_by_numbers-index-pair-requires
show_by_numbers-index-pair-requires g t c =
    let xs = c.args.values.now.items in let es = c.deref-entry-items.result.now in
    let is = subst (λ es. IsKeyOrder (owned_key xs) (numbers_from 0 (length xs)) (numbers_in es)) (sym c.deref-entry-items.ensures.value) c.in-Ok.ensures.order in
    omega (arith, entry_within xs es is c.loop-entry.entry-index c.loop-entry-test.true, c.args.values.now.ok.0)

pub show_by_numbers-returns-in_err-show_key : goal.show_by_numbers-returns-in_err-show_key
show_by_numbers-returns-in_err-show_key g t c =
    let p = err_from_is_err_and c.from_residual-in_err-show_key.result c.from_residual-in_err-show_key.ensures.1 in
    let xs = c.args.values.now.items in let es = c.deref-entry-items.result.now in let i = c.loop-entry.entry-index in let q = c.index-pair.result.now in
    let is = subst (λ es. IsKeyOrder (owned_key xs) (numbers_from 0 (length xs)) (numbers_in es)) (sym c.deref-entry-items.ensures.value) c.in-Ok.ensures.order in
    rw (p.1, p.2) (key_failed _ _ _ (g.L.Layout.indent c.args.layout.inner) c.args.level (c.args.level + 1) c.loop-entry.first (text_bytes q.key) (sorted (tree_of q.value)) _ (drop (i + 1) (members_in xs es)) _ _ c.loop-entry.invariant (entry_left xs es i q is c.loop-entry-test.true c.index-pair.ensures) c.in_err-show_key.ensures)

pub show_by_numbers-show_sorted_value-requires : goal.show_by_numbers-show_sorted_value-requires
show_by_numbers-show_sorted_value-requires g t c κs within =
    let xs = c.args.values.now.items in let es = c.deref-entry-items.result.now in let i = c.loop-entry.entry-index in let n = number_of es i in
    let is = subst (λ es. IsKeyOrder (owned_key xs) (numbers_from 0 (length xs)) (numbers_in es)) (sym c.deref-entry-items.ensures.value) c.in-Ok.ensures.order in
    let at = item_at xs n c.index-pair.result.now (entry_within xs es is i c.loop-entry-test.true) c.index-pair.ensures in
    let small = entry_value xs es is i c.loop-entry-test.true in
    (omega (arith, small, ap (λ (q : List ℕ × Tree). nodes q.1) at), within)

pub show_by_numbers-returns-in_err-show_sorted_value : goal.show_by_numbers-returns-in_err-show_sorted_value
show_by_numbers-returns-in_err-show_sorted_value g t c =
    let p = err_from_is_err_and c.from_residual-in_err-show_sorted_value.result c.from_residual-in_err-show_sorted_value.ensures.1 in
    let xs = c.args.values.now.items in let es = c.deref-entry-items.result.now in let i = c.loop-entry.entry-index in let q = c.index-pair.result.now in let u = sorted (tree_of q.value) in
    let is = subst (λ es. IsKeyOrder (owned_key xs) (numbers_from 0 (length xs)) (numbers_in es)) (sym c.deref-entry-items.ensures.value) c.in-Ok.ensures.order in
    rw (p.1, p.2) (value_failed _ _ _ _ (g.L.Layout.indent c.args.layout.inner) c.args.level (c.args.level + 1) c.loop-entry.first (text_bytes q.key) u u _ (drop (i + 1) (members_in xs es)) _ _ _ c.loop-entry.invariant (entry_left xs es i q is c.loop-entry-test.true c.index-pair.ensures) refl c.in_ok-show_key.ensures c.in_err-show_sorted_value.ensures)

pub show_by_numbers-loop-entry-preserved : goal.show_by_numbers-loop-entry-preserved
show_by_numbers-loop-entry-preserved g t c =
    let xs = c.args.values.now.items in let es = c.deref-entry-items.result.now in let i = c.loop-entry.entry-index in let q = c.index-pair.result.now in let u = sorted (tree_of q.value) in
    let is = subst (λ es. IsKeyOrder (owned_key xs) (numbers_from 0 (length xs)) (numbers_in es)) (sym c.deref-entry-items.ensures.value) c.in-Ok.ensures.order in
    member_on _ _ _ _ (g.L.Layout.indent c.args.layout.inner) c.args.level (c.args.level + 1) c.loop-entry.first (text_bytes q.key) u u _ (drop (i + 1) (members_in xs es)) _ _ _ c.loop-entry.invariant (entry_left xs es i q is c.loop-entry-test.true c.index-pair.ensures) refl c.in_ok-show_key.ensures c.in_ok-show_sorted_value.ensures

pub show_by_numbers-returns : goal.show_by_numbers-returns
show_by_numbers-returns g t c =
    let xs = c.args.values.now.items in let es = c.deref-entry-items.result.now in let i = c.loop-entry.entry-index in
    let e = none_there (members_in xs es) i (entries_end (member_in xs) es i c.loop-entry-test.false) in
    goes_last _ _ _ _ _ _ _ _ _ c.loop-entry.invariant (sym (ap (members_left (g.L.Layout.indent c.args.layout.inner) c.args.level (c.args.level + 1) c.loop-entry.first) e)) c.close.ensures
