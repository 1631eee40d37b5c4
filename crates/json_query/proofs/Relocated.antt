-- What is selected of a node is what is selected of its value, below the node's location.
use Rattle.std.proofs.Common.{◌≡◌, ℕ, suc, List, [], ◌∷◌, ◌++◌, map, Bool, true, false, cond, refl, sym, ap, ap₂, ◌∙◌, append_assoc, append-nil, bytes_eq, flat_map, option_to_list}
use Rattle.std.proofs.lemmas.List.{map-append}
use Rattle.json_grammar.specs.Tree.{Tree, null, boolean, num, text, list, pairs, Trees, no_trees, tree_and, Pairs, no_pairs, pair_and}
use Rattle.json_query.specs.Nodes.{Node, Nodelist, Location, node_at, element_at, member_at, root_of, elements_from, members_from, named_from, elements_below, children_below, named_below, visited_below, elements_visited, members_visited}
use Rattle.json_query.specs.Query.{Segment, child_segment, descendant_segment, Selector, name_selector, wildcard_selector, index_selector, slice_selector}
use Rattle.json_query.specs.Selecting.{segment_nodes, selectors_nodes, selector_nodes}
use Rattle.json_query.specs.Slices.{item_at, slice_items}
use Rattle.json_query.proofs.ItemValues.{items_at-map, slice_items-map}

-- the node, below the location l
abbrev pub under : Location → Node → Node
under l n = node_at (l ++ n.location) n.value

joined : (ms ns ms' ns' : Nodelist) (l : Location) → ms ≡ map (under l) ms' → ns ≡ map (under l) ns' → ms ++ ns ≡ map (under l) (ms' ++ ns')
joined ms ns ms' ns' l e f = ap₂ (λ (us vs : Nodelist). us ++ vs) e f ∙ sym (map-append (under l) ms' ns')

-- ---- children

elements_under : (l m : Location) (i : ℕ) (ts : Trees) → elements_from (l ++ m) i ts ≡ map (under l) (elements_from m i ts)
elements_under l m i no_trees = refl
elements_under l m i (tree_and t ts) = ap₂ (λ (p : Location) (ns : Nodelist). node_at p t ∷ ns) (append_assoc l m (element_at i ∷ [])) (elements_under l m (suc i) ts)

members_under : (l m : Location) (i : ℕ) (ps : Pairs) → members_from (l ++ m) i ps ≡ map (under l) (members_from m i ps)
members_under l m i no_pairs = refl
members_under l m i (pair_and k t ps) = ap₂ (λ (p : Location) (ns : Nodelist). node_at p t ∷ ns) (append_assoc l m (member_at i k ∷ [])) (members_under l m (suc i) ps)

named_under : (k : List ℕ) (l m : Location) (i : ℕ) (ps : Pairs) → named_from k (l ++ m) i ps ≡ map (under l) (named_from k m i ps)
named_under k l m i no_pairs = refl
named_under k l m i (pair_and n t ps) = by (bytes_eq n k) (append_assoc l m (member_at i n ∷ [])) (named_under k l m (suc i) ps)
  where
    by : (b : Bool) → (l ++ m) ++ member_at i n ∷ [] ≡ l ++ (m ++ member_at i n ∷ []) → named_from k (l ++ m) (suc i) ps ≡ map (under l) (named_from k m (suc i) ps)
        → cond b (node_at ((l ++ m) ++ member_at i n ∷ []) t ∷ named_from k (l ++ m) (suc i) ps) (named_from k (l ++ m) (suc i) ps)
        ≡ map (under l) (cond b (node_at (m ++ member_at i n ∷ []) t ∷ named_from k m (suc i) ps) (named_from k m (suc i) ps))
    by true e h = ap₂ (λ (p : Location) (ns : Nodelist). node_at p t ∷ ns) e h
    by false e h = h

elements_below_under : (l m : Location) (t : Tree) → elements_below (l ++ m) t ≡ map (under l) (elements_below m t)
elements_below_under l m null = refl
elements_below_under l m (boolean b) = refl
elements_below_under l m (num b) = refl
elements_below_under l m (text s) = refl
elements_below_under l m (list ts) = elements_under l m 0 ts
elements_below_under l m (pairs ps) = refl

children_under : (l m : Location) (t : Tree) → children_below (l ++ m) t ≡ map (under l) (children_below m t)
children_under l m null = refl
children_under l m (boolean b) = refl
children_under l m (num b) = refl
children_under l m (text s) = refl
children_under l m (list ts) = elements_under l m 0 ts
children_under l m (pairs ps) = members_under l m 0 ps

named_below_under : (k : List ℕ) (l m : Location) (t : Tree) → named_below k (l ++ m) t ≡ map (under l) (named_below k m t)
named_below_under k l m null = refl
named_below_under k l m (boolean b) = refl
named_below_under k l m (num b) = refl
named_below_under k l m (text s) = refl
named_below_under k l m (list ts) = refl
named_below_under k l m (pairs ps) = named_under k l m 0 ps

-- ---- descendants

mutual
  visited_under : (l m : Location) (t : Tree) → visited_below (l ++ m) t ≡ map (under l) (visited_below m t)
  visited_under l m null = refl
  visited_under l m (boolean b) = refl
  visited_under l m (num b) = refl
  visited_under l m (text s) = refl
  visited_under l m (list ts) = ap (λ ns. node_at (l ++ m) (list ts) ∷ ns) (elements_visited_under l m 0 ts)
  visited_under l m (pairs ps) = ap (λ ns. node_at (l ++ m) (pairs ps) ∷ ns) (members_visited_under l m 0 ps)

  elements_visited_under : (l m : Location) (i : ℕ) (ts : Trees) → elements_visited (l ++ m) i ts ≡ map (under l) (elements_visited m i ts)
  elements_visited_under l m i no_trees = refl
  elements_visited_under l m i (tree_and t ts) =
      joined (visited_below ((l ++ m) ++ element_at i ∷ []) t) (elements_visited (l ++ m) (suc i) ts) (visited_below (m ++ element_at i ∷ []) t) (elements_visited m (suc i) ts) l
      (ap (λ p. visited_below p t) (append_assoc l m (element_at i ∷ [])) ∙ visited_under l (m ++ element_at i ∷ []) t)
      (elements_visited_under l m (suc i) ts)

  members_visited_under : (l m : Location) (i : ℕ) (ps : Pairs) → members_visited (l ++ m) i ps ≡ map (under l) (members_visited m i ps)
  members_visited_under l m i no_pairs = refl
  members_visited_under l m i (pair_and k t ps) =
      joined (visited_below ((l ++ m) ++ member_at i k ∷ []) t) (members_visited (l ++ m) (suc i) ps) (visited_below (m ++ member_at i k ∷ []) t) (members_visited m (suc i) ps) l
      (ap (λ p. visited_below p t) (append_assoc l m (member_at i k ∷ [])) ∙ visited_under l (m ++ member_at i k ∷ []) t)
      (members_visited_under l m (suc i) ps)

-- ---- selectors and segments

selector_under : (s : Selector) (l : Location) (n : Node) → selector_nodes s (under l n) ≡ map (under l) (selector_nodes s n)
selector_under (name_selector k) l n = named_below_under k l n.location n.value
selector_under wildcard_selector l n = children_under l n.location n.value
selector_under (index_selector i) l n =
    ap (λ ns. option_to_list (item_at i ns)) (elements_below_under l n.location n.value) ∙ sym (items_at-map (under l) i (elements_below n.location n.value))
selector_under (slice_selector start end step) l n =
    ap (slice_items start end step) (elements_below_under l n.location n.value) ∙ sym (slice_items-map (under l) start end step (elements_below n.location n.value))

selectors_under : (ss : List Selector) (l : Location) (n : Node) → selectors_nodes ss (under l n) ≡ map (under l) (selectors_nodes ss n)
selectors_under [] l n = refl
selectors_under (s ∷ ss) l n =
    joined (selector_nodes s (under l n)) (selectors_nodes ss (under l n)) (selector_nodes s n) (selectors_nodes ss n) l (selector_under s l n) (selectors_under ss l n)

-- what is selected of each node
flat_under : (f : Node → Nodelist) (l : Location) → ((n : Node) → f (under l n) ≡ map (under l) (f n)) → (ns : Nodelist) → flat_map f (map (under l) ns) ≡ map (under l) (flat_map f ns)
flat_under f l h [] = refl
flat_under f l h (n ∷ ns) = joined (f (under l n)) (flat_map f (map (under l) ns)) (f n) (flat_map f ns) l (h n) (flat_under f l h ns)

segment_under : (s : Segment) (l : Location) (n : Node) → segment_nodes s (under l n) ≡ map (under l) (segment_nodes s n)
segment_under (child_segment ss) l n = selectors_under ss l n
segment_under (descendant_segment ss) l n =
    ap (flat_map (selectors_nodes ss)) (visited_under l n.location n.value) ∙ flat_under (selectors_nodes ss) l (selectors_under ss l) (visited_below n.location n.value)

-- what a segment selects of a node
pub segment_of_value : (s : Segment) (n : Node) → segment_nodes s n ≡ map (under n.location) (segment_nodes s (root_of n.value))
segment_of_value s n = ap (λ l. segment_nodes s (node_at l n.value)) (sym (append-nil n.location)) ∙ segment_under s n.location (root_of n.value)
