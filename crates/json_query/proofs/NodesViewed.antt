-- What is selected of a node, as views show it, is what is selected of what is viewed there.
use Rattle.std.proofs.Common.{◌≡◌, ℕ, suc, List, [], ◌∷◌, ◌++◌, map, Option, Some, None, refl, sym, ap, ap₂, ◌∙◌, append_assoc, flat_map, option_and_then}
use Rattle.std.proofs.lemmas.List.{map-append}
use Rattle.std.proofs.lemmas.Grind.{flat_map-append}
use Rattle.std.proofs.lemmas.Simd.{map-map}
use Rattle.json_grammar.specs.Tree.{Tree, null, boolean, num, text, list, pairs, Trees, no_trees, tree_and, Pairs, no_pairs, pair_and}
use Rattle.json_value.specs.Seen.{seen}
use Rattle.json_value.specs.ViewTargets.{ViewTarget, view_target}
use Rattle.json_value.specs.declared.view.View.{View}
use Rattle.json_query.specs.Locations.{target_at_step, target_at, node_targets}
use Rattle.json_query.specs.Models.{selector_of, children_by}
use Rattle.json_query.specs.Nodes.{Node, Nodelist, Location, element_at, member_at, node_values, root_of, elements_from, members_from, children_below, visited, visited_below, elements_visited, members_visited}
use Rattle.json_query.specs.Query.{Query, Segment, child_segment, descendant_segment, Selector}
use Rattle.json_query.specs.Selecting.{selected, segments_nodes, segment_nodes, selectors_nodes, selector_nodes}
use Rattle.json_query.specs.ViewedNodes.{ViewedValue, viewed_value, viewed, node_viewed, nodes_viewed, selector_viewed, segment_viewed, segments_viewed}
use Rattle.json_query.specs.declared.query.Selector.{Selector as SelectorValue}
use Rattle.json_query.proofs.Relocated.{under, segment_of_value}

-- ---- locations

-- a location in two parts
target_at-append : (l m : Location) (s : ViewTarget) → target_at (l ++ m) s ≡ option_and_then (target_at m) (target_at l s)
target_at-append [] m s = refl
target_at-append (x ∷ l) m s = by (target_at_step x s) (λ u. target_at-append l m u)
  where
    by : (o : Option ViewTarget) → ((u : ViewTarget) → target_at (l ++ m) u ≡ option_and_then (target_at m) (target_at l u)) → option_and_then (target_at (l ++ m)) o ≡ option_and_then (target_at m) (option_and_then (target_at l) o)
    by None h = refl
    by (Some u) h = h u

there : (l m : Location) (s : Option ViewTarget) → option_and_then (target_at (l ++ m)) s ≡ option_and_then (target_at m) (option_and_then (target_at l) s)
there l m None = refl
there l m (Some s) = target_at-append l m s

-- nodes below a location
viewed_under : (s : Option ViewTarget) (l : Location) (ns : Nodelist) → nodes_viewed s (map (under l) ns) ≡ nodes_viewed (option_and_then (target_at l) s) ns
viewed_under s l [] = refl
viewed_under s l (n ∷ ns) = ap₂ (λ (u : Option ViewTarget) (vs : List ViewedValue). viewed_value u n.value ∷ vs) (there l n.location s) (viewed_under s l ns)

-- ---- segments

segment_there : (g : Segment) (s : Option ViewTarget) (n : Node) → nodes_viewed s (segment_nodes g n) ≡ segment_viewed g (node_viewed s n)
segment_there g s n = ap (nodes_viewed s) (segment_of_value g n) ∙ viewed_under s n.location (segment_nodes g (root_of n.value))

-- what a segment selects of nodes, and one segment after another
segment_of_nodes : (g : Segment) (s : Option ViewTarget) (ns : Nodelist) → nodes_viewed s (flat_map (segment_nodes g) ns) ≡ flat_map (segment_viewed g) (nodes_viewed s ns)
segment_of_nodes g s [] = refl
segment_of_nodes g s (n ∷ ns) =
    map-append (node_viewed s) (segment_nodes g n) (flat_map (segment_nodes g) ns) ∙ ap₂ (λ (us vs : List ViewedValue). us ++ vs) (segment_there g s n) (segment_of_nodes g s ns)

segments_of_nodes : (gs : List Segment) (s : Option ViewTarget) (ns : Nodelist) → nodes_viewed s (segments_nodes gs ns) ≡ segments_viewed gs (nodes_viewed s ns)
segments_of_nodes [] s ns = refl
segments_of_nodes (g ∷ gs) s ns = segments_of_nodes gs s (flat_map (segment_nodes g) ns) ∙ ap (segments_viewed gs) (segment_of_nodes g s ns)

-- what a query selects of a view
selected_viewed : (q : Query) (v : View) → segments_viewed q (viewed v ∷ []) ≡ nodes_viewed (Some (view_target v)) (selected q (seen v))
selected_viewed q v = sym (segments_of_nodes q (Some (view_target v)) (root_of (seen v) ∷ []))

-- one more of the selectors of a segment
pub selectors_more : (v : ViewedValue) (so_far next whole : List ViewedValue) (x : SelectorValue) (all left : List SelectorValue) → so_far ++ segment_viewed (children_by all) v ≡ whole → all ≡ x ∷ left → next ≡ so_far ++ selector_viewed (selector_of x) v
    → next ++ segment_viewed (children_by left) v ≡ whole
selectors_more v so_far next whole x all left h s e =
    ap (λ r. r ++ segment_viewed (children_by left) v) e
    ∙ append_assoc so_far (selector_viewed (selector_of x) v) (segment_viewed (children_by left) v)
    ∙ ap (λ r. so_far ++ r) (sym (map-append (node_viewed v.target) (selector_nodes (selector_of x) (root_of v.value)) (selectors_nodes (map selector_of left) (root_of v.value))))
    ∙ ap (λ ss. so_far ++ segment_viewed (children_by ss) v) (sym s)
    ∙ h

-- ---- what is seen, and what the views are of

pub selected_values : (q : Query) (v : View) (vs : List View) → map viewed vs ≡ segments_viewed q (viewed v ∷ []) → map seen vs ≡ node_values (selected q (seen v))
selected_values q v vs e =
    let value = λ (u : ViewedValue). u.value in
    sym (map-map value viewed vs) ∙ ap (map value) (e ∙ selected_viewed q v) ∙ map-map value (node_viewed (Some (view_target v))) (selected q (seen v))

pub selected_targets : (q : Query) (v : View) (vs : List View) → map viewed vs ≡ segments_viewed q (viewed v ∷ []) → map (λ (w : View). Some (view_target w)) vs ≡ node_targets (view_target v) (selected q (seen v))
selected_targets q v vs e =
    let target = λ (u : ViewedValue). u.target in
    sym (map-map target viewed vs) ∙ ap (map target) (e ∙ selected_viewed q v) ∙ map-map target (node_viewed (Some (view_target v))) (selected q (seen v))

-- ---- descendants

elements_descend : (f : Node → Nodelist) (l : Location) (i : ℕ) (ts : Trees) → flat_map f (elements_visited l i ts) ≡ flat_map (λ n. flat_map f (visited n)) (elements_from l i ts)
elements_descend f l i no_trees = refl
elements_descend f l i (tree_and t ts) =
    let first = visited_below (l ++ element_at i ∷ []) t in flat_map-append f first (elements_visited l (suc i) ts) ∙ ap (λ r. flat_map f first ++ r) (elements_descend f l (suc i) ts)

members_descend : (f : Node → Nodelist) (l : Location) (i : ℕ) (ps : Pairs) → flat_map f (members_visited l i ps) ≡ flat_map (λ n. flat_map f (visited n)) (members_from l i ps)
members_descend f l i no_pairs = refl
members_descend f l i (pair_and k t ps) =
    let first = visited_below (l ++ member_at i k ∷ []) t in flat_map-append f first (members_visited l (suc i) ps) ∙ ap (λ r. flat_map f first ++ r) (members_descend f l (suc i) ps)

-- of a value itself, and then of each child and all that is below it
descend : (f : Node → Nodelist) (t : Tree) → flat_map f (visited (root_of t)) ≡ f (root_of t) ++ flat_map (λ n. flat_map f (visited n)) (children_below [] t)
descend f null = refl
descend f (boolean b) = refl
descend f (num b) = refl
descend f (text s) = refl
descend f (list ts) = ap (λ r. f (root_of (list ts)) ++ r) (elements_descend f [] 0 ts)
descend f (pairs ps) = ap (λ r. f (root_of (pairs ps)) ++ r) (members_descend f [] 0 ps)

pub descended : (ss : List Selector) (s : Option ViewTarget) (t : Tree) → segment_viewed (descendant_segment ss) (viewed_value s t)
    ≡ segment_viewed (child_segment ss) (viewed_value s t) ++ flat_map (segment_viewed (descendant_segment ss)) (nodes_viewed s (children_below [] t))
descended ss s t =
    ap (nodes_viewed s) (descend (selectors_nodes ss) t)
    ∙ map-append (node_viewed s) (selectors_nodes ss (root_of t)) (flat_map (segment_nodes (descendant_segment ss)) (children_below [] t))
    ∙ ap (λ r. segment_viewed (child_segment ss) (viewed_value s t) ++ r) (segment_of_nodes (descendant_segment ss) s (children_below [] t))
