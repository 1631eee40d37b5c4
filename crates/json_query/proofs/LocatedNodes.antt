-- Each node that a query selects is located in the query argument.
use Rattle.std.proofs.Common.{◌≡◌, ℕ, zero, suc, ◌+◌, List, [], ◌∷◌, ◌++◌, map, filter, reverse, length, Bool, true, false, cond, Option, Some, None, refl, sym, ap, ◌∙◌, subst, append_assoc, bytes_eq, flat_map, slice_get, option_and_then, option_to_list, ℤ, pos, negsuc, int_lt, if◌then◌else◌}
use Rattle.std.proofs.lemmas.List.{reverse-append}
use Rattle.std.specs.List.{AllByRecursion, enumerate_from}
use Rattle.json_grammar.specs.Tree.{Tree, null, boolean, num, text, list, pairs, Trees, no_trees, tree_and, Pairs, no_pairs, pair_and, trees_list, pairs_list}
use Rattle.json_model.proofs.Members.{key_itself}
use Rattle.json_query.specs.Laws.{IsLocatedIn, NodesAreLocated}
use Rattle.json_query.specs.Locations.{value_if_named, value_at_step, value_at}
use Rattle.json_query.specs.Nodes.{Node, Nodelist, Location, LocationStep, node_at, element_at, member_at, root_of, elements_from, members_from, named_from, elements_below, children_below, named_below, visited_below, elements_visited, members_visited}
use Rattle.json_query.specs.Query.{Segment, child_segment, descendant_segment, Selector, name_selector, wildcard_selector, index_selector, slice_selector}
use Rattle.json_query.specs.Selecting.{segments_nodes, segment_nodes, selectors_nodes, selector_nodes}
use Rattle.json_query.specs.Slices.{normalized, item_from_start, item_at, items_from, slice_items, selects, slice_bounds}
use Rattle.json_query.proofs.Appending.{item_after, one_longer}

-- each node is located in r
abbrev Located : Tree → Nodelist → Type 0
Located r ns = AllByRecursion (IsLocatedIn r) ns

-- ---- lists of nodes

located_append : (r : Tree) (ms ns : Nodelist) → Located r ms → Located r ns → Located r (ms ++ ns)
located_append r [] ns g h = h
located_append r (m ∷ ms) ns g h = (g.0, located_append r ms ns g.1 h)

located_flat : (r : Tree) (f : Node → Nodelist) → ((n : Node) → IsLocatedIn r n → Located r (f n)) → (ns : Nodelist) → Located r ns → Located r (flat_map f ns)
located_flat r f g [] h = tt
located_flat r f g (n ∷ ns) h = located_append r (f n) (flat_map f ns) (g n h.0) (located_flat r f g ns h.1)

located_reverse : (r : Tree) (ns : Nodelist) → Located r ns → Located r (reverse ns)
located_reverse r [] h = tt
located_reverse r (n ∷ ns) h = subst (Located r) (sym (reverse-append (n ∷ []) ns)) (located_append r (reverse ns) (n ∷ []) (located_reverse r ns h.1) (h.0, tt))

located_items : (r : Tree) (test : ℕ → Bool) (i : ℕ) (ns : Nodelist) → Located r ns → Located r (items_from test i ns)
located_items r test i [] h = tt
located_items r test i (n ∷ ns) h = by (test i) (located_items r test (i + 1) ns h.1)
  where
    passing : List (ℕ × Node)
    passing = filter (λ (q : ℕ × Node). test q.0) (enumerate_from (i + 1) ns)

    by : (b : Bool) → Located r (items_from test (i + 1) ns) → Located r (map (λ (q : ℕ × Node). q.1) (cond b ((i, n) ∷ passing) passing))
    by true g = (h.0, g)
    by false g = g

located_slice : (r : Tree) (start end : Option ℤ) (step : ℤ) (ns : Nodelist) → Located r ns → Located r (slice_items start end step ns)
located_slice r start end step ns h = by (int_lt step (pos 0)) (located_items r (selects (slice_bounds start end step (length ns)) step) 0 ns h)
  where
    some : Nodelist
    some = items_from (selects (slice_bounds start end step (length ns)) step) 0 ns

    by : (b : Bool) → Located r some → Located r (if b then reverse some else some)
    by true g = located_reverse r some g
    by false g = g

located_item : (r : Tree) (i : ℤ) (ns : Nodelist) → Located r ns → Located r (option_to_list (item_at i ns))
located_item r i ns h = by (normalized i (length ns))
  where
    there : (ms : Nodelist) (j : ℕ) → Located r ms → Located r (option_to_list (slice_get ms j))
    there [] j g = tt
    there (m ∷ ms) zero g = (g.0, tt)
    there (m ∷ ms) (suc j) g = there ms j g.1

    by : (j : ℤ) → Located r (option_to_list (item_from_start j ns))
    by (pos j) = there ns j h
    by (negsuc j) = tt

-- ---- locations

value_at-append : (l m : Location) (t u : Tree) → value_at l t ≡ Some u → value_at (l ++ m) t ≡ value_at m u
value_at-append [] m t u e = let s : t ≡ u = cc in ap (value_at m) s
value_at-append (s ∷ l) m t u e = by (value_at_step s t) e (λ v g. value_at-append l m v u g)
  where
    by : (o : Option Tree) → option_and_then (value_at l) o ≡ Some u → ((v : Tree) → value_at l v ≡ Some u → value_at (l ++ m) v ≡ value_at m u) → option_and_then (value_at (l ++ m)) o ≡ value_at m u
    by None g k = absurd (cc)
    by (Some v) g k = k v g

-- one step more
below : (r : Tree) (l : Location) (s : LocationStep) (t u : Tree) → value_at l r ≡ Some t → value_at_step s t ≡ Some u → value_at (l ++ s ∷ []) r ≡ Some u
below r l s t u h e = value_at-append l (s ∷ []) r t h ∙ ap (option_and_then (value_at [])) e

-- the element t of the array all, after the elements us
element_there : (all : Trees) (us : List Tree) (t : Tree) (vs : List Tree) (i : ℕ) → trees_list all ≡ us ++ t ∷ vs → length us ≡ i → value_at_step (element_at i) (list all) ≡ Some t
element_there all us t vs i e n = ap (λ xs. slice_get xs i) e ∙ item_after us t vs i n

member_there : (all : Pairs) (us : List (List ℕ × Tree)) (k : List ℕ) (t : Tree) (vs : List (List ℕ × Tree)) (i : ℕ) → pairs_list all ≡ us ++ (k, t) ∷ vs → length us ≡ i → value_at_step (member_at i k) (pairs all) ≡ Some t
member_there all us k t vs i e n =
    ap (value_if_named k) (ap (λ xs. slice_get xs i) e ∙ item_after us (k, t) vs i n) ∙ ap (λ b. cond b (Some t) None) (key_itself k)

-- ---- children

elements_located : (r : Tree) (l : Location) (all : Trees) → value_at l r ≡ Some (list all) → (us : List Tree) (i : ℕ) (ts : Trees) → trees_list all ≡ us ++ trees_list ts → length us ≡ i → Located r (elements_from l i ts)
elements_located r l all h us i no_trees e n = tt
elements_located r l all h us i (tree_and t ts) e n = (
  below r l (element_at i) (list all) t h (element_there all us t (trees_list ts) i e n),
  elements_located r l all h (us ++ t ∷ []) (suc i) ts (e ∙ sym (append_assoc us (t ∷ []) (trees_list ts))) (one_longer us t i n),
)

members_located : (r : Tree) (l : Location) (all : Pairs) → value_at l r ≡ Some (pairs all) → (us : List (List ℕ × Tree)) (i : ℕ) (ps : Pairs) → pairs_list all ≡ us ++ pairs_list ps → length us ≡ i → Located r (members_from l i ps)
members_located r l all h us i no_pairs e n = tt
members_located r l all h us i (pair_and k t ps) e n = (
  below r l (member_at i k) (pairs all) t h (member_there all us k t (pairs_list ps) i e n),
  members_located r l all h (us ++ (k, t) ∷ []) (suc i) ps (e ∙ sym (append_assoc us ((k, t) ∷ []) (pairs_list ps))) (one_longer us (k, t) i n),
)

named_located : (r : Tree) (l : Location) (name : List ℕ) (all : Pairs) → value_at l r ≡ Some (pairs all) → (us : List (List ℕ × Tree)) (i : ℕ) (ps : Pairs) → pairs_list all ≡ us ++ pairs_list ps → length us ≡ i → Located r (named_from name l i ps)
named_located r l name all h us i no_pairs e n = tt
named_located r l name all h us i (pair_and k t ps) e n =
    by (bytes_eq k name) (named_located r l name all h (us ++ (k, t) ∷ []) (suc i) ps (e ∙ sym (append_assoc us ((k, t) ∷ []) (pairs_list ps))) (one_longer us (k, t) i n))
  where
    by : (b : Bool) → Located r (named_from name l (suc i) ps) → Located r (cond b (node_at (l ++ member_at i k ∷ []) t ∷ named_from name l (suc i) ps) (named_from name l (suc i) ps))
    by true g = (below r l (member_at i k) (pairs all) t h (member_there all us k t (pairs_list ps) i e n), g)
    by false g = g

elements_below_located : (r : Tree) (l : Location) (t : Tree) → value_at l r ≡ Some t → Located r (elements_below l t)
elements_below_located r l null h = tt
elements_below_located r l (boolean b) h = tt
elements_below_located r l (num b) h = tt
elements_below_located r l (text s) h = tt
elements_below_located r l (list ts) h = elements_located r l ts h [] 0 ts refl refl
elements_below_located r l (pairs ps) h = tt

children_located : (r : Tree) (l : Location) (t : Tree) → value_at l r ≡ Some t → Located r (children_below l t)
children_located r l null h = tt
children_located r l (boolean b) h = tt
children_located r l (num b) h = tt
children_located r l (text s) h = tt
children_located r l (list ts) h = elements_located r l ts h [] 0 ts refl refl
children_located r l (pairs ps) h = members_located r l ps h [] 0 ps refl refl

named_below_located : (r : Tree) (l : Location) (k : List ℕ) (t : Tree) → value_at l r ≡ Some t → Located r (named_below k l t)
named_below_located r l k null h = tt
named_below_located r l k (boolean b) h = tt
named_below_located r l k (num b) h = tt
named_below_located r l k (text s) h = tt
named_below_located r l k (list ts) h = tt
named_below_located r l k (pairs ps) h = named_located r l k ps h [] 0 ps refl refl

-- ---- descendants

mutual
  visited_located : (r : Tree) (l : Location) (t : Tree) → value_at l r ≡ Some t → Located r (visited_below l t)
  visited_located r l null h = (h, tt)
  visited_located r l (boolean b) h = (h, tt)
  visited_located r l (num b) h = (h, tt)
  visited_located r l (text s) h = (h, tt)
  visited_located r l (list ts) h = (h, elements_visited_located r l ts h [] 0 ts refl refl)
  visited_located r l (pairs ps) h = (h, members_visited_located r l ps h [] 0 ps refl refl)

  elements_visited_located : (r : Tree) (l : Location) (all : Trees) → value_at l r ≡ Some (list all) → (us : List Tree) (i : ℕ) (ts : Trees) → trees_list all ≡ us ++ trees_list ts → length us ≡ i → Located r (elements_visited l i ts)
  elements_visited_located r l all h us i no_trees e n = tt
  elements_visited_located r l all h us i (tree_and t ts) e n =
      located_append r (visited_below (l ++ element_at i ∷ []) t) (elements_visited l (suc i) ts)
      (visited_located r (l ++ element_at i ∷ []) t (below r l (element_at i) (list all) t h (element_there all us t (trees_list ts) i e n)))
      (elements_visited_located r l all h (us ++ t ∷ []) (suc i) ts (e ∙ sym (append_assoc us (t ∷ []) (trees_list ts))) (one_longer us t i n))

  members_visited_located : (r : Tree) (l : Location) (all : Pairs) → value_at l r ≡ Some (pairs all) → (us : List (List ℕ × Tree)) (i : ℕ) (ps : Pairs) → pairs_list all ≡ us ++ pairs_list ps → length us ≡ i → Located r (members_visited l i ps)
  members_visited_located r l all h us i no_pairs e n = tt
  members_visited_located r l all h us i (pair_and k t ps) e n =
      located_append r (visited_below (l ++ member_at i k ∷ []) t) (members_visited l (suc i) ps)
      (visited_located r (l ++ member_at i k ∷ []) t (below r l (member_at i k) (pairs all) t h (member_there all us k t (pairs_list ps) i e n)))
      (members_visited_located r l all h (us ++ (k, t) ∷ []) (suc i) ps (e ∙ sym (append_assoc us ((k, t) ∷ []) (pairs_list ps))) (one_longer us (k, t) i n))

-- ---- queries

selector_located : (s : Selector) (r : Tree) (n : Node) → IsLocatedIn r n → Located r (selector_nodes s n)
selector_located (name_selector k) r n h = named_below_located r n.location k n.value h
selector_located wildcard_selector r n h = children_located r n.location n.value h
selector_located (index_selector i) r n h = located_item r i (elements_below n.location n.value) (elements_below_located r n.location n.value h)
selector_located (slice_selector start end step) r n h = located_slice r start end step (elements_below n.location n.value) (elements_below_located r n.location n.value h)

selectors_located : (ss : List Selector) (r : Tree) (n : Node) → IsLocatedIn r n → Located r (selectors_nodes ss n)
selectors_located [] r n h = tt
selectors_located (s ∷ ss) r n h = located_append r (selector_nodes s n) (selectors_nodes ss n) (selector_located s r n h) (selectors_located ss r n h)

segment_located : (s : Segment) (r : Tree) (n : Node) → IsLocatedIn r n → Located r (segment_nodes s n)
segment_located (child_segment ss) r n h = selectors_located ss r n h
segment_located (descendant_segment ss) r n h = located_flat r (selectors_nodes ss) (selectors_located ss r) (visited_below n.location n.value) (visited_located r n.location n.value h)

segments_located : (ss : List Segment) (r : Tree) (ns : Nodelist) → Located r ns → Located r (segments_nodes ss ns)
segments_located [] r ns h = h
segments_located (s ∷ ss) r ns h = segments_located ss r (flat_map (segment_nodes s) ns) (located_flat r (segment_nodes s) (segment_located s r) ns h)

pub nodes_are_located : NodesAreLocated
nodes_are_located q t = segments_located q t (root_of t ∷ []) (refl, tt)
