use Rattle.std.proofs.Common.{◌+◌, ◌<◌, [], ◌∷◌, ◌++◌, true, ℕ, List, length, map, drop, refl, sym, ap, subst, ◌∙◌, arith}
use Rattle.std.proofs.lemmas.Result.{err_from_is_err_and}
use Rattle.json_grammar.specs.Sizes.{nodes, trees_nodes, pairs_nodes}
use Rattle.json_grammar.specs.Tree.{Tree, pairs, list_trees, list_pairs}
use Rattle.json_model.specs.Print.{shown}
use Rattle.json_model.specs.Sort.{sorted, NeverFall}
use Rattle.json_doc.specs.Docs.{doc_cells, doc_tree}
use Rattle.json_doc.specs.Left.{children_left, pairs_doc, pairs_left, places_of_pairs}
use Rattle.json_doc.specs.Seen.{view_tree}
use Rattle.json_doc.specs.declared.children.DocChildren.{DocChildren}
use Rattle.json_doc.specs.declared.doc.Doc.{Doc}
use Rattle.json_doc.specs.declared.pairs.DocPairs.{DocPairs}
use Rattle.json_layout.specs.Showing.{lead, key_shown}
use Rattle.json_layout.proofs.ShownParts.{added_shows, Adds-same, Shows-first, Shows-then, Shows-same}
use Rattle.json_doc_print.specs.Readings.{members}
use Rattle.json_doc_print.specs.KeyOrder.{IsKeyOrder, numbers_in, key_before}
use Rattle.json_doc_print.proofs.KeyFronts.{number_of, entry_there, entries_end, entry_in, entry_tree}
use Rattle.json_doc_print.proofs.KeyOrders.{paired, sorted_at, sorted_pair, in_place, place_below, places_sorted}
use Rattle.json_doc_print.proofs.ShownTrees.{elements_left, members_left, goes_from, goes_last, element_on, element_failed, element_bound, member_on, key_failed, value_failed, member_bound, there, none_there}
use Rattle.json_doc_print.proofs.SortedTrees.{shows_anywhere, shows_scalar, sorted_array_is, sorted_object_is}
use Rattle.json_doc_print.proofs.TokensGiven.{list_seen, pairs_seen}
use Rattle.json_doc_print.proofs.show_sorted_packed.+shown_sorted.Goals as goal

-- the member of a place, with its value sorted
abbrev member_in : Doc → ℕ → List ℕ × Tree
member_in d = paired (key_before d) (sorted_at (doc_tree d))

-- ---- a value

pub show_sorted_member-show_sorted_children-requires : goal.show_sorted_member-show_sorted_children-requires
show_sorted_member-show_sorted_children-requires g t c κs within =
    let a = c.in-Array.ensures.tree in
    (omega (arith, ap nodes (list_seen (view_tree c.args.view) a.0 (children_left c.in-Array.children) a.1 a.2)), within)

pub show_sorted_member-returns-in-Array : goal.show_sorted_member-returns-in-Array
show_sorted_member-returns-in-Array g t c =
    let a = c.in-Array.ensures.tree in
    Shows-same _ _ _ _ _ (ap (λ u. shown (g.L.Layout.indent c.args.layout.inner) c.args.level (sorted u)) (list_seen (view_tree c.args.view) a.0 (children_left c.in-Array.children) a.1 a.2)) c.show_sorted_children.ensures

pub show_sorted_member-show_sorted_members-requires : goal.show_sorted_member-show_sorted_members-requires
show_sorted_member-show_sorted_members-requires g t c κs within =
    let o = c.in-Object.ensures.tree in let v = view_tree c.args.view in
    (omega (arith, ap nodes (pairs_seen v o.0 (members v) o.1 (ap members o.1))), within)

pub show_sorted_member-returns-in-Object : goal.show_sorted_member-returns-in-Object
show_sorted_member-returns-in-Object g t c =
    let o = c.in-Object.ensures.tree in let v = view_tree c.args.view in
    Shows-same _ _ _ _ _ (ap (λ u. shown (g.L.Layout.indent c.args.layout.inner) c.args.level (sorted u)) (pairs_seen v o.0 (members v) o.1 (ap members o.1))) c.show_sorted_members.ensures

pub show_sorted_member-returns-in_default : goal.show_sorted_member-returns-in_default
show_sorted_member-returns-in_default g t c =
    Shows-same _ _ _ _ _ (ap (λ u. shown (g.L.Layout.indent c.args.layout.inner) c.args.level u) (shows_scalar c.node.result (view_tree c.args.view) c.node.ensures.tree c.in_default.not-Array c.in_default.not-Object)) (shows_anywhere _ _ _ _ c.show_member.ensures)

-- ---- an element

pub show_sorted_element-returns-in_err-lead-in-Array : goal.show_sorted_element-returns-in_err-lead-in-Array
show_sorted_element-returns-in_err-lead-in-Array g t c =
    let p = err_from_is_err_and c.from_residual.result c.from_residual.ensures.1 in rw (p.1, p.2) (Shows-first _ _ _ _ _ (added_shows _ _ _ _ c.in_err-lead-in-Array.ensures))

pub show_sorted_element-show_sorted_children-requires : goal.show_sorted_element-show_sorted_children-requires
show_sorted_element-show_sorted_children-requires g t c κs within =
    let a = c.in-Array.ensures.tree in
    (omega (arith, ap nodes (list_seen (view_tree c.args.view) a.0 (children_left c.in-Array.children) a.1 a.2)), within)

pub show_sorted_element-returns-in_ok-lead-in-Array : goal.show_sorted_element-returns-in_ok-lead-in-Array
show_sorted_element-returns-in_ok-lead-in-Array g t c =
    let a = c.in-Array.ensures.tree in
    Shows-then _ _ _ _ _ _ _ (added_shows _ _ _ _ c.in_ok-lead-in-Array.ensures)
    (Shows-same _ _ _ _ _ (ap (λ u. shown (g.L.Layout.indent c.args.layout.inner) c.args.level (sorted u)) (list_seen (view_tree c.args.view) a.0 (children_left c.in-Array.children) a.1 a.2)) c.show_sorted_children.ensures)

pub show_sorted_element-returns-in_err-lead-in-Object : goal.show_sorted_element-returns-in_err-lead-in-Object
show_sorted_element-returns-in_err-lead-in-Object g t c =
    let p = err_from_is_err_and c.from_residual-in_err-lead-in-Object.result c.from_residual-in_err-lead-in-Object.ensures.1 in rw (p.1, p.2) (Shows-first _ _ _ _ _ (added_shows _ _ _ _ c.in_err-lead-in-Object.ensures))

pub show_sorted_element-show_sorted_members-requires : goal.show_sorted_element-show_sorted_members-requires
show_sorted_element-show_sorted_members-requires g t c κs within =
    let o = c.in-Object.ensures.tree in let v = view_tree c.args.view in
    (omega (arith, ap nodes (pairs_seen v o.0 (members v) o.1 (ap members o.1))), within)

pub show_sorted_element-returns-in_ok-lead-in-Object : goal.show_sorted_element-returns-in_ok-lead-in-Object
show_sorted_element-returns-in_ok-lead-in-Object g t c =
    let o = c.in-Object.ensures.tree in let v = view_tree c.args.view in
    Shows-then _ _ _ _ _ _ _ (added_shows _ _ _ _ c.in_ok-lead-in-Object.ensures)
    (Shows-same _ _ _ _ _ (ap (λ u. shown (g.L.Layout.indent c.args.layout.inner) c.args.level (sorted u)) (pairs_seen v o.0 (members v) o.1 (ap members o.1))) c.show_sorted_members.ensures)

pub show_sorted_element-returns-in_default : goal.show_sorted_element-returns-in_default
show_sorted_element-returns-in_default g t c =
    let i = g.L.Layout.indent c.args.layout.inner in
    Shows-same _ _ _ _ _ (ap (λ u. lead i c.args.level c.args.first ++ shown i c.args.level u) (shows_scalar c.node.result (view_tree c.args.view) c.node.ensures.tree c.in_default.not-Array c.in_default.not-Object)) (shows_anywhere _ _ _ _ c.show_element.ensures)

-- ---- an array

pub show_sorted_children-returns-in_err-show_piece : goal.show_sorted_children-returns-in_err-show_piece
show_sorted_children-returns-in_err-show_piece g t c =
    let p = err_from_is_err_and c.from_residual.result c.from_residual.ensures.1 in
    rw (p.1, p.2) (Shows-same _ _ _ _ _ (sorted_array_is (g.L.Layout.indent c.args.layout.inner) c.args.level (children_left c.args.children)) (Shows-first _ _ (91 ∷ []) _ _ (added_shows _ _ _ _ c.in_err-show_piece.ensures)))

pub show_sorted_children-loop-child-init : goal.show_sorted_children-loop-child-init
show_sorted_children-loop-child-init g t c =
    let i = g.L.Layout.indent c.args.layout.inner in let d = c.args.level in let e = c.into_iter-child-iterator.ensures.into_iter_gives in (
      tt,
      tt,
      omega (arith, ap (λ (s : DocChildren). trees_nodes (list_trees (children_left s))) e),
      goes_from _ _ _ 91 _ _ _ c.in_ok-show_piece.ensures (ap (λ (s : DocChildren). 91 ∷ elements_left i d (d + 1) true (map sorted (children_left s))) e ∙ sorted_array_is i d (children_left c.args.children)),
    )

pub show_sorted_children-show_sorted_element-requires : goal.show_sorted_children-show_sorted_element-requires
show_sorted_children-show_sorted_element-requires g t c κs within =
    let u = view_tree c.in-Some.child in let b = element_bound u u _ _ c.in-Some.ensures.steps.0 refl in
    (omega (arith, b, c.loop-child.invariant.2), within)

pub show_sorted_children-returns-in_err-show_sorted_element : goal.show_sorted_children-returns-in_err-show_sorted_element
show_sorted_children-returns-in_err-show_sorted_element g t c =
    let p = err_from_is_err_and c.from_residual-in_err-show_sorted_element.result c.from_residual-in_err-show_sorted_element.ensures.1 in let u = sorted (view_tree c.in-Some.child) in
    rw (p.1, p.2) (element_failed _ _ _ (g.L.Layout.indent c.args.layout.inner) c.args.level (c.args.level + 1) c.loop-child.first u u _ _ _ _ c.loop-child.invariant.3 (ap (map sorted) c.in-Some.ensures.steps.0) refl c.in_err-show_sorted_element.ensures)

pub show_sorted_children-loop-child-preserved : goal.show_sorted_children-loop-child-preserved
show_sorted_children-loop-child-preserved g t c =
    let v = view_tree c.in-Some.child in let u = sorted v in let b = element_bound v v _ _ c.in-Some.ensures.steps.0 refl in (
      tt,
      tt,
      omega (arith, b, c.loop-child.invariant.2),
      element_on _ _ _ (g.L.Layout.indent c.args.layout.inner) c.args.level (c.args.level + 1) c.loop-child.first u u _ _ _ _ c.loop-child.invariant.3 (ap (map sorted) c.in-Some.ensures.steps.0) refl c.in_ok-show_sorted_element.ensures,
    )

pub show_sorted_children-returns : goal.show_sorted_children-returns
show_sorted_children-returns g t c =
    goes_last _ _ _ _ _ _ _ _ _ c.loop-child.invariant.3 (sym (ap (λ ts. elements_left (g.L.Layout.indent c.args.layout.inner) c.args.level (c.args.level + 1) c.loop-child.first (map sorted ts)) c.in-None.ensures.steps.0.0)) c.close.ensures

-- ---- an object

pub show_sorted_members-show_packed_in_place-requires : goal.show_sorted_members-show_packed_in_place-requires
show_sorted_members-show_packed_in_place-requires g t c κs within =
    let o = c.in-Object.ensures.tree in let same = ap members o.1 ∙ sym o.2 in
    (omega (arith, ap (λ ps. pairs_nodes (list_pairs ps)) same), (within.0, (within.1, subst (λ ps. NeverFall (list_pairs ps)) same (c.keys_in_order.ensures c.if-keys_in_order.true))))

pub show_sorted_members-show_by_places-requires : goal.show_sorted_members-show_by_places-requires
show_sorted_members-show_by_places-requires g t c κs within =
    let o = c.in-Object.ensures.tree in
    (omega (arith, ap (λ ps. pairs_nodes (list_pairs ps)) (ap members o.1 ∙ sym o.2)), (within.0, (within.1, c.in-Object.ensures.doc ∙ sym c.doc.ensures)))

pub show_sorted_members-returns-then-keys_in_order : goal.show_sorted_members-returns-then-keys_in_order
show_sorted_members-returns-then-keys_in_order g t c =
    let o = c.in-Object.ensures.tree in
    Shows-same _ _ _ _ _ (ap (λ ps. shown (g.L.Layout.indent c.args.layout.inner) c.args.level (sorted (pairs (list_pairs ps)))) (o.2 ∙ sym (ap members o.1))) c.show_packed_in_place.ensures

pub show_sorted_members-returns-else-keys_in_order : goal.show_sorted_members-returns-else-keys_in_order
show_sorted_members-returns-else-keys_in_order g t c =
    let o = c.in-Object.ensures.tree in
    Shows-same _ _ _ _ _ (ap (λ ps. shown (g.L.Layout.indent c.args.layout.inner) c.args.level (sorted (pairs (list_pairs ps)))) (o.2 ∙ sym (ap members o.1))) c.show_by_places.ensures

-- ---- an object whose keys are in order

pub show_packed_in_place-returns-in_err-show_piece : goal.show_packed_in_place-returns-in_err-show_piece
show_packed_in_place-returns-in_err-show_piece g t c =
    let p = err_from_is_err_and c.from_residual.result c.from_residual.ensures.1 in let ps = pairs_left c.args.members in
    rw (p.1, p.2) (Shows-same _ _ _ _ _ (sorted_object_is (g.L.Layout.indent c.args.layout.inner) c.args.level ps (map sorted_pair ps) (in_place ps c.requires)) (Shows-first _ _ (123 ∷ []) _ _ (added_shows _ _ _ _ c.in_err-show_piece.ensures)))

pub show_packed_in_place-loop-key-init : goal.show_packed_in_place-loop-key-init
show_packed_in_place-loop-key-init g t c =
    let i = g.L.Layout.indent c.args.layout.inner in let d = c.args.level in let e = c.into_iter-key-iterator.ensures.into_iter_gives in let ps = pairs_left c.args.members in (
      tt,
      tt,
      omega (arith, ap (λ (s : DocPairs). pairs_nodes (list_pairs (pairs_left s))) e),
      goes_from _ _ _ 123 _ _ _ c.in_ok-show_piece.ensures (ap (λ (s : DocPairs). 123 ∷ members_left i d (d + 1) true (map sorted_pair (pairs_left s))) e ∙ sorted_object_is i d ps (map sorted_pair ps) (in_place ps c.requires)),
    )

pub show_packed_in_place-returns-in_err-key : goal.show_packed_in_place-returns-in_err-key
show_packed_in_place-returns-in_err-key g t c =
    let p = err_from_is_err_and c.from_residual-in_err-key.result c.from_residual-in_err-key.ensures.1 in
    rw (p.1, p.2) (key_failed _ _ _ (g.L.Layout.indent c.args.layout.inner) c.args.level (c.args.level + 1) c.loop-key.first c.in-Some.key.now (sorted (view_tree c.in-Some.value)) _ _ _ _ c.loop-key.invariant.3 (ap (map sorted_pair) c.in-Some.ensures.steps.0) c.in_err-key.ensures)

pub show_packed_in_place-show_sorted_member-requires : goal.show_packed_in_place-show_sorted_member-requires
show_packed_in_place-show_sorted_member-requires g t c κs within =
    let u = view_tree c.in-Some.value in let b = member_bound c.in-Some.key.now u u _ _ c.in-Some.ensures.steps.0 refl in
    (omega (arith, b, c.loop-key.invariant.2), within)

pub show_packed_in_place-returns-in_err-show_sorted_member : goal.show_packed_in_place-returns-in_err-show_sorted_member
show_packed_in_place-returns-in_err-show_sorted_member g t c =
    let p = err_from_is_err_and c.from_residual-in_err-show_sorted_member.result c.from_residual-in_err-show_sorted_member.ensures.1 in let u = sorted (view_tree c.in-Some.value) in
    rw (p.1, p.2) (value_failed _ _ _ _ (g.L.Layout.indent c.args.layout.inner) c.args.level (c.args.level + 1) c.loop-key.first c.in-Some.key.now u u _ _ _ _ _ c.loop-key.invariant.3 (ap (map sorted_pair) c.in-Some.ensures.steps.0) refl c.in_ok-key.ensures c.in_err-show_sorted_member.ensures)

pub show_packed_in_place-loop-key-preserved : goal.show_packed_in_place-loop-key-preserved
show_packed_in_place-loop-key-preserved g t c =
    let v = view_tree c.in-Some.value in let u = sorted v in let b = member_bound c.in-Some.key.now v v _ _ c.in-Some.ensures.steps.0 refl in (
      tt,
      tt,
      omega (arith, b, c.loop-key.invariant.2),
      member_on _ _ _ _ (g.L.Layout.indent c.args.layout.inner) c.args.level (c.args.level + 1) c.loop-key.first c.in-Some.key.now u u _ _ _ _ _ c.loop-key.invariant.3 (ap (map sorted_pair) c.in-Some.ensures.steps.0) refl c.in_ok-key.ensures c.in_ok-show_sorted_member.ensures,
    )

pub show_packed_in_place-returns : goal.show_packed_in_place-returns
show_packed_in_place-returns g t c =
    goes_last _ _ _ _ _ _ _ _ _ c.loop-key.invariant.3 (sym (ap (λ ps. members_left (g.L.Layout.indent c.args.layout.inner) c.args.level (c.args.level + 1) c.loop-key.first (map sorted_pair ps)) c.in-None.ensures.steps.0.0)) c.close.ensures

-- ---- an object by an index of its members

pub show_by_places-returns-in_err-show_piece : goal.show_by_places-returns-in_err-show_piece
show_by_places-returns-in_err-show_piece g t c =
    let p = err_from_is_err_and c.from_residual.result c.from_residual.ensures.1 in
    let d = c.args.doc.now in let ns = numbers_in c.in-Ok.order.items in
    rw (p.1, p.2) (Shows-same _ _ _ _ _ (sorted_object_is (g.L.Layout.indent c.args.layout.inner) c.args.level (pairs_left c.args.members) (map (member_in d) ns) (places_sorted d (pairs_doc c.args.members) (places_of_pairs c.args.members) ns c.requires c.in-Ok.ensures.order))
    (Shows-first _ _ (123 ∷ []) _ _ (added_shows _ _ _ _ c.in_err-show_piece.ensures)))

pub show_by_places-loop-entry-init : goal.show_by_places-loop-entry-init
show_by_places-loop-entry-init g t c =
    let d = c.args.doc.now in let ns = numbers_in c.deref-entry-items.result.now in
    let is = subst (λ es. IsKeyOrder (key_before d) (places_of_pairs c.args.members) (numbers_in es)) (sym c.deref-entry-items.ensures.value) c.in-Ok.ensures.order in
    goes_from _ _ _ 123 _ _ _ c.in_ok-show_piece.ensures (sorted_object_is (g.L.Layout.indent c.args.layout.inner) c.args.level (pairs_left c.args.members) (map (member_in d) ns) (places_sorted d (pairs_doc c.args.members) (places_of_pairs c.args.members) ns c.requires is))

pub show_by_places-returns-in_err-key : goal.show_by_places-returns-in_err-key
show_by_places-returns-in_err-key g t c =
    let p = err_from_is_err_and c.from_residual-in_err-key.result c.from_residual-in_err-key.ensures.1 in
    let d = c.args.doc.now in let es = c.deref-entry-items.result.now in let i = c.loop-entry.entry-index in let n = number_of es i in let qs = map (member_in d) (numbers_in es) in
    rw (p.1, p.2) (key_failed _ _ _ (g.L.Layout.indent c.args.layout.inner) c.args.level (c.args.level + 1) c.loop-entry.first (key_before d n) (sorted (doc_tree d n)) _ (drop (i + 1) qs) _ _ c.loop-entry.invariant (there qs i (member_in d n) (entry_there (member_in d) es i c.loop-entry-test.true))
    (Adds-same _ _ _ _ _ (ap (key_shown (g.L.Layout.indent c.args.layout.inner) (c.args.level + 1) c.loop-entry.first) c.key-key.ensures) c.in_err-key.ensures))

pub show_by_places-overflow_cast-entry : goal.show_by_places-overflow_cast-entry
show_by_places-overflow_cast-entry g t c =
    let d = c.args.doc.now in let p = c.args.members in let es = c.deref-entry-items.result.now in
    let is = subst (λ es. IsKeyOrder (key_before d) (places_of_pairs p) (numbers_in es)) (sym c.deref-entry-items.ensures.value) c.in-Ok.ensures.order in
    let below = place_below (doc_cells (pairs_doc p)) 1 (p.next + 1) p.left _ p.inside (entry_in d (pairs_doc p) (places_of_pairs p) es c.requires is c.loop-entry.entry-index c.loop-entry-test.true) in
    omega (arith, below, (pairs_doc p).small)

pub show_by_places-view_at-requires : goal.show_by_places-view_at-requires
show_by_places-view_at-requires g t c =
    let d = c.args.doc.now in let p = c.args.members in let es = c.deref-entry-items.result.now in
    let is = subst (λ es. IsKeyOrder (key_before d) (places_of_pairs p) (numbers_in es)) (sym c.deref-entry-items.ensures.value) c.in-Ok.ensures.order in
    subst (λ x. number_of es c.loop-entry.entry-index < length (doc_cells x)) c.requires
    (place_below (doc_cells (pairs_doc p)) 1 (p.next + 1) p.left _ p.inside (entry_in d (pairs_doc p) (places_of_pairs p) es c.requires is c.loop-entry.entry-index c.loop-entry-test.true))

pub show_by_places-show_sorted_member-requires : goal.show_by_places-show_sorted_member-requires
show_by_places-show_sorted_member-requires g t c κs within =
    let d = c.args.doc.now in let p = c.args.members in let es = c.deref-entry-items.result.now in
    let is = subst (λ es. IsKeyOrder (key_before d) (places_of_pairs p) (numbers_in es)) (sym c.deref-entry-items.ensures.value) c.in-Ok.ensures.order in
    let small = entry_tree d (pairs_doc p) (places_of_pairs p) es c.requires is c.loop-entry.entry-index c.loop-entry-test.true in
    (omega (arith, small, ap nodes c.view_at.ensures.tree), within)

pub show_by_places-returns-in_err-show_sorted_member : goal.show_by_places-returns-in_err-show_sorted_member
show_by_places-returns-in_err-show_sorted_member g t c =
    let p = err_from_is_err_and c.from_residual-in_err-show_sorted_member.result c.from_residual-in_err-show_sorted_member.ensures.1 in let l = g.L.Layout.indent c.args.layout.inner in let e = c.args.level + 1 in
    let d = c.args.doc.now in let es = c.deref-entry-items.result.now in let i = c.loop-entry.entry-index in let n = number_of es i in let qs = map (member_in d) (numbers_in es) in
    rw (p.1, p.2) (value_failed _ _ _ _ l c.args.level e c.loop-entry.first (key_before d n) (sorted (view_tree c.view_at.result)) (sorted (doc_tree d n)) _ (drop (i + 1) qs) _ _ _ c.loop-entry.invariant
    (there qs i (member_in d n) (entry_there (member_in d) es i c.loop-entry-test.true)) (ap sorted c.view_at.ensures.tree) (Adds-same _ _ _ _ _ (ap (key_shown l e c.loop-entry.first) c.key-key.ensures) c.in_ok-key.ensures) c.in_err-show_sorted_member.ensures)

pub show_by_places-loop-entry-preserved : goal.show_by_places-loop-entry-preserved
show_by_places-loop-entry-preserved g t c =
    let l = g.L.Layout.indent c.args.layout.inner in let e = c.args.level + 1 in
    let d = c.args.doc.now in let es = c.deref-entry-items.result.now in let i = c.loop-entry.entry-index in let n = number_of es i in let qs = map (member_in d) (numbers_in es) in
    member_on _ _ _ _ l c.args.level e c.loop-entry.first (key_before d n) (sorted (view_tree c.view_at.result)) (sorted (doc_tree d n)) _ (drop (i + 1) qs) _ _ _ c.loop-entry.invariant
    (there qs i (member_in d n) (entry_there (member_in d) es i c.loop-entry-test.true)) (ap sorted c.view_at.ensures.tree) (Adds-same _ _ _ _ _ (ap (key_shown l e c.loop-entry.first) c.key-key.ensures) c.in_ok-key.ensures) c.in_ok-show_sorted_member.ensures

pub show_by_places-returns : goal.show_by_places-returns
show_by_places-returns g t c =
    let es = c.deref-entry-items.result.now in let i = c.loop-entry.entry-index in
    let e = none_there (map (member_in c.args.doc.now) (numbers_in es)) i (entries_end (member_in c.args.doc.now) es i c.loop-entry-test.false) in
    goes_last _ _ _ _ _ _ _ _ _ c.loop-entry.invariant (sym (ap (members_left (g.L.Layout.indent c.args.layout.inner) c.args.level (c.args.level + 1) c.loop-entry.first) e)) c.close.ensures
