-- What the view of an array or of an object tells of the nodes that are selected of it.
use Rattle.std.proofs.Common.{◌≡◌, ◌≢◌, ℕ, zero, suc, ◌+◌, ◌<◌, ℤ, pos, length, slice_get, option_map, option_and_then, option_to_list, List, [], ◌∷◌, ◌++◌, Bool, true, false, cond, bytes_eq, Option, Some, None, refl, sym, ap, ap₂, ◌∙◌, append_assoc, append-nil, arith, flat_map, map}
use Rattle.std.specs.List.{enumerate_from}
use Rattle.std.proofs.lemmas.List.{length-map, map-append}
use Rattle.std.proofs.lemmas.List.FromFn.{length-enumerate_from}
use Rattle.json_grammar.specs.Sizes.{nodes, trees_nodes, pairs_nodes}
use Rattle.json_grammar.specs.Tree.{Tree, null, boolean, num, text, list, pairs, Trees, no_trees, tree_and, Pairs, no_pairs, pair_and, trees_list, pairs_list, list_trees, list_pairs}
use Rattle.json_model.proofs.Members.{key_itself}
use Rattle.json_doc.specs.Readings.{elements}
use Rattle.json_doc.specs.Seen.{view_doc, view_place, view_tree}
use Rattle.json_doc_print.specs.Readings.{members}
use Rattle.json_value.specs.Denotes.{tree_of, pair_of}
use Rattle.json_value.specs.Left.{elements_left, elements_targets_left, members_left, members_targets_left}
use Rattle.json_value.specs.Seen.{seen, list_of, object_pairs, elements_seen, members_seen, array_form_seen, object_form_seen}
use Rattle.json_value.specs.TargetParts.{child_target, pair_target, target_elements, target_members, elements_targets, members_targets, array_form_targets, object_form_targets}
use Rattle.json_value.specs.ViewTargets.{ViewTarget, whole_value, doc_held, view_target}
use Rattle.json_value.specs.declared.array_view.ArrayForm.{ArrayForm}
use Rattle.json_value.specs.declared.array_view.ArrayForm.TheVariants as array
use Rattle.json_value.specs.declared.array_view.ArrayIter.{ArrayIter}
use Rattle.json_value.specs.declared.array_view.ArrayView.{ArrayView}
use Rattle.json_value.specs.declared.object_view.Iter.{Iter}
use Rattle.json_value.specs.declared.object_view.ObjectForm.{ObjectForm}
use Rattle.json_value.specs.declared.object_view.ObjectForm.TheVariants as object
use Rattle.json_value.specs.declared.object_view.ObjectView.{ObjectView}
use Rattle.json_value.specs.declared.pair.Keyed.{Keyed}
use Rattle.json_value.specs.declared.value.Value.{Value}
use Rattle.json_value.specs.declared.view.View.{View}
use Rattle.json_value.proofs.SameViews.{array_seen, object_seen}
use Rattle.json_query.specs.Locations.{value_if_named, target_at}
use Rattle.json_query.specs.Nodes.{element_at, member_at, elements_from, members_from, named_from, elements_below, children_below, named_below}
use Rattle.json_query.specs.Query.{Selector, child_segment, descendant_segment, name_selector, wildcard_selector, index_selector, slice_selector}
use Rattle.json_query.specs.Slices.{normalized, item_at, slice_items}
use Rattle.json_query.specs.ViewedNodes.{ViewedValue, viewed_value, viewed, node_viewed, nodes_viewed, selector_viewed, segment_viewed, with_targets, members_with_targets, elements_viewed, members_viewed, member_values, with_name}
use Rattle.json_query.proofs.Appending.{item_after, one_longer}
use Rattle.json_query.proofs.ItemValues.{items_at-map, slice_items-map, item_at-is, item_at-past, item_at-none, slice_items-none}
use Rattle.json_query.proofs.NodesViewed.{descended}

-- ---- elements and what their views are of: as many

as_many : (f : ArrayForm) → length (array_form_targets f) ≡ length (array_form_seen f)
as_many (array.Packed p) =
    let ts = elements (view_tree p.view) in
    length-map (enumerate_from 0 ts) (λ (q : ℕ × Tree). child_target (view_doc p.view) (doc_held p.holder) (view_place p.view) q.0) ∙ length-enumerate_from 0 ts
as_many (array.Whole vs) = length-map vs.now whole_value ∙ sym (length-map vs.now tree_of)

with_targets_length : (ss : List ViewTarget) (ts : List Tree) → length ss ≡ length ts → length (with_targets ss ts) ≡ length ts
with_targets_length [] [] e = refl
with_targets_length [] (t ∷ ts) e = e
with_targets_length (s ∷ ss) [] e = refl
with_targets_length (s ∷ ss) (t ∷ ts) e = ap suc (with_targets_length ss ts (omega (arith, e)))

pub elements_viewed_length : (a : ArrayView) → length (elements_viewed a) ≡ length (elements_seen a)
elements_viewed_length a = with_targets_length (elements_targets a) (elements_seen a) (as_many a.form)

-- ---- members and what their views are of: of the same names

numbered_names : (f : ℕ → ViewTarget) (n : ℕ) (ps : List (List ℕ × Tree)) → map (λ (m : List ℕ × ViewTarget). m.0) (map (λ (q : ℕ × (List ℕ × Tree)). (q.1.0, f q.0)) (enumerate_from n ps)) ≡ map (λ (m : List ℕ × Tree). m.0) ps
numbered_names f n [] = refl
numbered_names f n (p ∷ ps) = ap (λ ks. p.0 ∷ ks) (numbered_names f (n + 1) ps)

pair_names : (ms : List (Keyed Value)) → map (λ (m : List ℕ × ViewTarget). m.0) (map pair_target ms) ≡ map (λ (m : List ℕ × Tree). m.0) (map pair_of ms)
pair_names [] = refl
pair_names (m ∷ ms) = ap (λ ks. (pair_target m).0 ∷ ks) (pair_names ms)

same_names : (f : ObjectForm) → map (λ (m : List ℕ × ViewTarget). m.0) (object_form_targets f) ≡ map (λ (m : List ℕ × Tree). m.0) (object_form_seen f)
same_names (object.Packed p) = numbered_names (child_target (view_doc p.view) (doc_held p.holder) (view_place p.view)) 0 (members (view_tree p.view))
same_names (object.Whole ps) = pair_names ps.now

-- ---- the children of what a view is of

-- the element of the index i, if it comes after these
element_target : (s : ViewTarget) (before after : List ViewTarget) (i : ℕ) (u : ViewTarget) → target_elements s ≡ Some (before ++ u ∷ after) → length before ≡ i → target_at (element_at i ∷ []) s ≡ Some u
element_target s before after i u e n =
    ap (λ o. option_and_then (target_at []) (option_and_then (λ ts. slice_get ts i) o)) e ∙ ap (option_and_then (target_at [])) (item_after before u after i n)

member_target : (s : ViewTarget) (before after : List (List ℕ × ViewTarget)) (i : ℕ) (k : List ℕ) (m : List ℕ × ViewTarget) → target_members s ≡ Some (before ++ m ∷ after) → length before ≡ i → m.0 ≡ k → target_at (member_at i k ∷ []) s ≡ Some m.1
member_target s before after i k m e n same =
    ap (λ o. option_and_then (target_at []) (option_and_then (λ ms. value_if_named k (slice_get ms i)) o)) e
    ∙ ap (λ o. option_and_then (target_at []) (value_if_named k o)) (item_after before m after i n)
    ∙ ap (λ b. option_and_then (target_at []) (cond b (Some m.1) None)) (ap (λ j. bytes_eq j k) same ∙ key_itself k)

elements_there : (s : ViewTarget) (before ss : List ViewTarget) (i : ℕ) (ts : Trees) → target_elements s ≡ Some (before ++ ss) → length before ≡ i → length ss ≡ length (trees_list ts) → nodes_viewed (Some s) (elements_from [] i ts) ≡ with_targets ss (trees_list ts)
elements_there s before [] i no_trees e n l = refl
elements_there s before (u ∷ ss) i no_trees e n l = refl
elements_there s before [] i (tree_and t ts) e n l = absurd (omega (arith, l))
elements_there s before (u ∷ ss) i (tree_and t ts) e n l =
    ap₂ (λ (o : Option ViewTarget) (vs : List ViewedValue). viewed_value o t ∷ vs) (element_target s before ss i u e n)
    (elements_there s (before ++ u ∷ []) ss (suc i) ts (e ∙ ap Some (sym (append_assoc before (u ∷ []) ss))) (one_longer before u i n) (omega (arith, l)))

members_there : (s : ViewTarget) (before ms : List (List ℕ × ViewTarget)) (i : ℕ) (ps : Pairs) → target_members s ≡ Some (before ++ ms) → length before ≡ i → map (λ (m : List ℕ × ViewTarget). m.0) ms ≡ map (λ (m : List ℕ × Tree). m.0) (pairs_list ps)
    → nodes_viewed (Some s) (members_from [] i ps) ≡ member_values (members_with_targets ms (pairs_list ps))
members_there s before [] i no_pairs e n l = refl
members_there s before (m ∷ ms) i no_pairs e n l = refl
members_there s before [] i (pair_and k t ps) e n l = absurd (cc)
members_there s before (m ∷ ms) i (pair_and k t ps) e n l =
    let same : m.0 ≡ k = cc in
    let others : map (λ (m : List ℕ × ViewTarget). m.0) ms ≡ map (λ (m : List ℕ × Tree). m.0) (pairs_list ps) = cc in
    ap₂ (λ (o : Option ViewTarget) (vs : List ViewedValue). viewed_value o t ∷ vs) (member_target s before ms i k m e n same)
    (members_there s (before ++ m ∷ []) ms (suc i) ps (e ∙ ap Some (sym (append_assoc before (m ∷ []) ms))) (one_longer before m i n) others)

named_there : (name : List ℕ) (s : ViewTarget) (before ms : List (List ℕ × ViewTarget)) (i : ℕ) (ps : Pairs) → target_members s ≡ Some (before ++ ms) → length before ≡ i → map (λ (m : List ℕ × ViewTarget). m.0) ms ≡ map (λ (m : List ℕ × Tree). m.0) (pairs_list ps)
    → nodes_viewed (Some s) (named_from name [] i ps) ≡ member_values (with_name name (members_with_targets ms (pairs_list ps)))
named_there name s before [] i no_pairs e n l = refl
named_there name s before (m ∷ ms) i no_pairs e n l = refl
named_there name s before [] i (pair_and k t ps) e n l = absurd (cc)
named_there name s before (m ∷ ms) i (pair_and k t ps) e n l =
    let same : m.0 ≡ k = cc in
    let others : map (λ (m : List ℕ × ViewTarget). m.0) ms ≡ map (λ (m : List ℕ × Tree). m.0) (pairs_list ps) = cc in
    by (bytes_eq k name) (member_target s before ms i k m e n same) (named_there name s (before ++ m ∷ []) ms (suc i) ps (e ∙ ap Some (sym (append_assoc before (m ∷ []) ms))) (one_longer before m i n) others)
  where
    rest : List (List ℕ × ViewedValue)
    rest = with_name name (members_with_targets ms (pairs_list ps))

    by : (b : Bool) → target_at (member_at i k ∷ []) s ≡ Some m.1 → nodes_viewed (Some s) (named_from name [] (suc i) ps) ≡ member_values rest
        → nodes_viewed (Some s) (cond b (record { location = member_at i k ∷ []; value = t } ∷ named_from name [] (suc i) ps) (named_from name [] (suc i) ps)) ≡ member_values (cond b ((k, viewed_value (Some m.1) t) ∷ rest) rest)
    by true o h = ap₂ (λ (o : Option ViewTarget) (vs : List ViewedValue). viewed_value o t ∷ vs) o h
    by false o h = h

-- ---- the nodes that are selected of a view

-- the elements of an array
array_elements : (v : View) (a : ArrayView) → Some (elements_seen a) ≡ list_of (seen v) → Some (elements_targets a) ≡ target_elements (view_target v) → nodes_viewed (Some (view_target v)) (elements_below [] (seen v)) ≡ elements_viewed a
array_elements v a e f = by (seen v) e
  where
    by : (t : Tree) → Some (elements_seen a) ≡ list_of t → nodes_viewed (Some (view_target v)) (elements_below [] t) ≡ elements_viewed a
    by (list ts) g =
        let is : elements_seen a ≡ trees_list ts = cc in
        elements_there (view_target v) [] (elements_targets a) 0 ts (sym f) refl (as_many a.form ∙ ap length is) ∙ ap (with_targets (elements_targets a)) (sym is)
    by _ g = absurd (cc)

no_elements : (t : Tree) → None ≡ list_of t → elements_below [] t ≡ []
no_elements null e = refl
no_elements (boolean b) e = refl
no_elements (num l) e = refl
no_elements (text s) e = refl
no_elements (list ts) e = absurd (cc)
no_elements (pairs ps) e = refl

-- all children: of an array, of an object and of any other value
array_children : (v : View) (a : ArrayView) → Some (elements_seen a) ≡ list_of (seen v) → Some (elements_targets a) ≡ target_elements (view_target v) → nodes_viewed (Some (view_target v)) (children_below [] (seen v)) ≡ elements_viewed a
array_children v a e f = by (seen v) e (array_elements v a e f)
  where
    by : (t : Tree) → Some (elements_seen a) ≡ list_of t → nodes_viewed (Some (view_target v)) (elements_below [] t) ≡ elements_viewed a → nodes_viewed (Some (view_target v)) (children_below [] t) ≡ elements_viewed a
    by (list ts) g h = h
    by _ g h = absurd (cc)

object_children : (v : View) (o : ObjectView) → Some (members_seen o) ≡ object_pairs (seen v) → Some (members_targets o) ≡ target_members (view_target v) → nodes_viewed (Some (view_target v)) (children_below [] (seen v)) ≡ member_values (members_viewed o)
object_children v o e f = by (seen v) e
  where
    by : (t : Tree) → Some (members_seen o) ≡ object_pairs t → nodes_viewed (Some (view_target v)) (children_below [] t) ≡ member_values (members_viewed o)
    by (pairs ps) g =
        let is : members_seen o ≡ pairs_list ps = cc in
        members_there (view_target v) [] (members_targets o) 0 ps (sym f) refl (same_names o.form ∙ ap (map (λ (m : List ℕ × Tree). m.0)) is) ∙ ap (λ ms. member_values (members_with_targets (members_targets o) ms)) (sym is)
    by _ g = absurd (cc)

no_children : (t : Tree) → None ≡ list_of t → None ≡ object_pairs t → children_below [] t ≡ []
no_children null a o = refl
no_children (boolean b) a o = refl
no_children (num l) a o = refl
no_children (text s) a o = refl
no_children (list ts) a o = absurd (cc)
no_children (pairs ps) a o = absurd (cc)

pub array_wildcard : (v : View) (a : ArrayView) → Some (elements_seen a) ≡ list_of (seen v) → Some (elements_targets a) ≡ target_elements (view_target v) → selector_viewed wildcard_selector (viewed v) ≡ elements_viewed a
array_wildcard v a e f = array_children v a e f

pub object_wildcard : (v : View) (o : ObjectView) → Some (members_seen o) ≡ object_pairs (seen v) → Some (members_targets o) ≡ target_members (view_target v) → selector_viewed wildcard_selector (viewed v) ≡ member_values (members_viewed o)
object_wildcard v o e f = object_children v o e f

pub no_wildcard : (v : View) → None ≡ list_of (seen v) → None ≡ object_pairs (seen v) → selector_viewed wildcard_selector (viewed v) ≡ []
no_wildcard v a o = ap (nodes_viewed (Some (view_target v))) (no_children (seen v) a o)

-- the members of a name
pub object_named : (k : List ℕ) (v : View) (o : ObjectView) → Some (members_seen o) ≡ object_pairs (seen v) → Some (members_targets o) ≡ target_members (view_target v) → selector_viewed (name_selector k) (viewed v) ≡ member_values (with_name k (members_viewed o))
object_named k v o e f = by (seen v) e
  where
    by : (t : Tree) → Some (members_seen o) ≡ object_pairs t → nodes_viewed (Some (view_target v)) (named_below k [] t) ≡ member_values (with_name k (members_viewed o))
    by (pairs ps) g =
        let is : members_seen o ≡ pairs_list ps = cc in
        named_there k (view_target v) [] (members_targets o) 0 ps (sym f) refl (same_names o.form ∙ ap (map (λ (m : List ℕ × Tree). m.0)) is) ∙ ap (λ ms. member_values (with_name k (members_with_targets (members_targets o) ms))) (sym is)
    by _ g = absurd (cc)

pub no_named : (k : List ℕ) (v : View) → None ≡ object_pairs (seen v) → selector_viewed (name_selector k) (viewed v) ≡ []
no_named k v e = by (seen v) e
  where
    by : (t : Tree) → None ≡ object_pairs t → nodes_viewed (Some (view_target v)) (named_below k [] t) ≡ []
    by null g = refl
    by (boolean b) g = refl
    by (num l) g = refl
    by (text s) g = refl
    by (list ts) g = refl
    by (pairs ps) g = absurd (cc)

-- the element of an index
pub array_index : (i : ℤ) (v : View) (a : ArrayView) → Some (elements_seen a) ≡ list_of (seen v) → Some (elements_targets a) ≡ target_elements (view_target v) → selector_viewed (index_selector i) (viewed v) ≡ option_to_list (item_at i (elements_viewed a))
array_index i v a e f =
    items_at-map (node_viewed (Some (view_target v))) i (elements_below [] (seen v)) ∙ ap (λ vs. option_to_list (item_at i vs)) (array_elements v a e f)

pub no_index : (i : ℤ) (v : View) → None ≡ list_of (seen v) → selector_viewed (index_selector i) (viewed v) ≡ []
no_index i v e =
    items_at-map (node_viewed (Some (view_target v))) i (elements_below [] (seen v))
    ∙ ap (λ ns. option_to_list (item_at i (nodes_viewed (Some (view_target v)) ns))) (no_elements (seen v) e)
    ∙ ap option_to_list (item_at-none {X = ViewedValue} i)

-- the elements of a slice
pub array_slice : (start end : Option ℤ) (step : ℤ) (v : View) (a : ArrayView) → Some (elements_seen a) ≡ list_of (seen v) → Some (elements_targets a) ≡ target_elements (view_target v)
    → selector_viewed (slice_selector start end step) (viewed v) ≡ slice_items start end step (elements_viewed a)
array_slice start end step v a e f =
    slice_items-map (node_viewed (Some (view_target v))) start end step (elements_below [] (seen v)) ∙ ap (slice_items start end step) (array_elements v a e f)

pub no_slice : (start end : Option ℤ) (step : ℤ) (v : View) → None ≡ list_of (seen v) → selector_viewed (slice_selector start end step) (viewed v) ≡ []
no_slice start end step v e =
    slice_items-map (node_viewed (Some (view_target v))) start end step (elements_below [] (seen v))
    ∙ ap (λ ns. slice_items start end step (nodes_viewed (Some (view_target v)) ns)) (no_elements (seen v) e)
    ∙ slice_items-none {X = ViewedValue} start end step

-- ---- a value and all that is below it

-- what is selected of the value, and then what is selected of its children and all that is below them
descended_into : (ss : List Selector) (v : View) (parts old mid new : List ViewedValue) → nodes_viewed (Some (view_target v)) (children_below [] (seen v)) ≡ parts → mid ≡ old ++ segment_viewed (child_segment ss) (viewed v)
    → new ≡ mid ++ flat_map (segment_viewed (descendant_segment ss)) parts → new ≡ old ++ segment_viewed (descendant_segment ss) (viewed v)
descended_into ss v parts old mid new is e g =
    let all = flat_map (segment_viewed (descendant_segment ss)) parts in
    let own = segment_viewed (child_segment ss) (viewed v) in
    g
    ∙ ap (λ r. r ++ all) e
    ∙ append_assoc old own all
    ∙ ap (λ ps. old ++ (own ++ flat_map (segment_viewed (descendant_segment ss)) ps)) (sym is)
    ∙ ap (λ r. old ++ r) (sym (descended ss (Some (view_target v)) (seen v)))

pub below_array : (ss : List Selector) (v : View) (a : ArrayView) (old mid new : List ViewedValue) → Some (elements_seen a) ≡ list_of (seen v) → Some (elements_targets a) ≡ target_elements (view_target v) → mid ≡ old ++ segment_viewed (child_segment ss) (viewed v)
    → new ≡ mid ++ flat_map (segment_viewed (descendant_segment ss)) (elements_viewed a) → new ≡ old ++ segment_viewed (descendant_segment ss) (viewed v)
below_array ss v a old mid new e f g h = descended_into ss v (elements_viewed a) old mid new (array_children v a e f) g h

pub below_object : (ss : List Selector) (v : View) (o : ObjectView) (old mid new : List ViewedValue) → Some (members_seen o) ≡ object_pairs (seen v) → Some (members_targets o) ≡ target_members (view_target v) → mid ≡ old ++ segment_viewed (child_segment ss) (viewed v)
    → new ≡ mid ++ flat_map (segment_viewed (descendant_segment ss)) (member_values (members_viewed o)) → new ≡ old ++ segment_viewed (descendant_segment ss) (viewed v)
below_object ss v o old mid new e f g h = descended_into ss v (member_values (members_viewed o)) old mid new (object_children v o e f) g h

pub below_scalar : (ss : List Selector) (v : View) (old mid : List ViewedValue) → None ≡ list_of (seen v) → None ≡ object_pairs (seen v) → mid ≡ old ++ segment_viewed (child_segment ss) (viewed v) → mid ≡ old ++ segment_viewed (descendant_segment ss) (viewed v)
below_scalar ss v old mid a o e =
    descended_into ss v [] old mid mid (ap (nodes_viewed (Some (view_target v))) (no_children (seen v) a o)) e (sym (append-nil mid))

-- ---- sizes

pub array_nodes : (t : Tree) (xs : List Tree) → Some xs ≡ list_of t → trees_nodes (list_trees xs) < nodes t
array_nodes t xs e = omega (arith, ap nodes (array_seen t xs e))

pub object_nodes : (t : Tree) (xs : List (List ℕ × Tree)) → Some xs ≡ object_pairs t → pairs_nodes (list_pairs xs) < nodes t
object_nodes t xs e = omega (arith, ap nodes (object_seen t xs e))

-- the first of the elements left, and the others
pub elements_nodes : (t : Tree) (all left : List Tree) → all ≡ t ∷ left → trees_nodes (list_trees all) ≡ nodes t + trees_nodes (list_trees left)
elements_nodes t all left s = ap (λ us. trees_nodes (list_trees us)) s

pub members_nodes : (m : List ℕ × Tree) (all left : List (List ℕ × Tree)) → all ≡ m ∷ left → pairs_nodes (list_pairs all) ≡ suc (nodes m.1 + pairs_nodes (list_pairs left))
members_nodes m all left s = ap (λ us. pairs_nodes (list_pairs us)) s

-- ---- iterators

-- the elements that an iterator has still to give, and the members
abbrev pub elements_to_view : ArrayIter → List ViewedValue
elements_to_view s = with_targets (elements_targets_left s) (elements_left s)

abbrev pub members_to_view : Iter → List (List ℕ × ViewedValue)
members_to_view s = members_with_targets (members_targets_left s) (members_left s)

-- it gives the first of them
pub element_given : (s t : ArrayIter) (v : View) → elements_left s ≡ seen v ∷ elements_left t → elements_targets_left s ≡ view_target v ∷ elements_targets_left t → elements_to_view s ≡ viewed v ∷ elements_to_view t
element_given s t v e f = ap₂ (λ (ss : List ViewTarget) (ts : List Tree). with_targets ss ts) f e

pub member_given : (s t : Iter) (k : List ℕ) (v : View) → members_left s ≡ (k, seen v) ∷ members_left t → members_targets_left s ≡ (k, view_target v) ∷ members_targets_left t → members_to_view s ≡ (k, viewed v) ∷ members_to_view t
member_given s t k v e f = ap₂ (λ (ms : List (List ℕ × ViewTarget)) (ps : List (List ℕ × Tree)). members_with_targets ms ps) f e

-- ---- views that are appended

pub views_pushed : (old new : List View) (v : View) → new ≡ old ++ v ∷ [] → map viewed new ≡ map viewed old ++ viewed v ∷ []
views_pushed old new v e = ap (map viewed) e ∙ map-append viewed old (v ∷ [])

-- ---- the element of an index

listed : (o : Option View) → map viewed (option_to_list o) ≡ option_to_list (option_map viewed o)
listed None = refl
listed (Some v) = refl

got : (ss : List ViewTarget) (ts : List Tree) → length ss ≡ length ts → (j : ℕ) (o : Option View) → option_map seen o ≡ slice_get ts j → option_map view_target o ≡ slice_get ss j → option_map viewed o ≡ slice_get (with_targets ss ts) j
got [] [] l j None e f = refl
got [] [] l j (Some v) e f = absurd (cc)
got [] (t ∷ ts) l j o e f = absurd (omega (arith, l))
got (s ∷ ss) [] l j o e f = absurd (omega (arith, l))
got (s ∷ ss) (t ∷ ts) l zero None e f = absurd (cc)
got (s ∷ ss) (t ∷ ts) l zero (Some v) e f =
    let one : seen v ≡ t = cc in
    let other : view_target v ≡ s = cc in
    ap₂ (λ (u : ViewTarget) (w : Tree). Some (viewed_value (Some u) w)) other one
got (s ∷ ss) (t ∷ ts) l (suc j) o e f = got ss ts (omega (arith, l)) j o e f

-- it is there
pub element_viewed : (i : ℤ) (j n : ℕ) (a : ArrayView) (o : Option View) → n ≡ length (elements_seen a) → normalized i n ≡ pos j → option_map seen o ≡ slice_get (elements_seen a) j → option_map view_target o ≡ slice_get (elements_targets a) j
    → map viewed (option_to_list o) ≡ option_to_list (item_at i (elements_viewed a))
element_viewed i j n a o l e f g =
    let same : length (elements_viewed a) ≡ n = elements_viewed_length a ∙ sym l in
    listed o ∙ ap option_to_list (got (elements_targets a) (elements_seen a) (as_many a.form) j o f g ∙ sym (item_at-is i j (elements_viewed a) (ap (normalized i) same ∙ e)))

-- it is not
pub no_element_viewed : (i : ℤ) (n : ℕ) (a : ArrayView) → n ≡ length (elements_seen a) → ((j : ℕ) → j < n → normalized i n ≢ pos j) → [] ≡ option_to_list (item_at i (elements_viewed a))
no_element_viewed i n a l h =
    let same : length (elements_viewed a) ≡ n = elements_viewed_length a ∙ sym l in
    sym (ap option_to_list (item_at-past i (elements_viewed a) (λ j m e. h j (omega (arith, same, m)) (ap (normalized i) (sym same) ∙ e))))
