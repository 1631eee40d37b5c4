-- Nodes as views show them: what a view of the node is of, and its value.
use Rattle.std.specs.Prelude.{◌≡◌, ℕ, List, [], ◌∷◌, ◌++◌, map, filter, flat_map, bytes_eq, Option, Some, option_and_then}
use Rattle.json_grammar.specs.Tree.{Tree}
use Rattle.json_value.specs.Seen.{seen, elements_seen, members_seen}
use Rattle.json_value.specs.TargetParts.{elements_targets, members_targets}
use Rattle.json_value.specs.ViewTargets.{ViewTarget, view_target}
use Rattle.json_value.specs.declared.array_view.ArrayView.{ArrayView}
use Rattle.json_value.specs.declared.object_view.ObjectView.{ObjectView}
use Rattle.json_value.specs.declared.view.View.{View}
use Rattle.json_query.specs.Locations.{target_at}
use Rattle.json_query.specs.Nodes.{Node, Nodelist, root_of}
use Rattle.json_query.specs.Query.{Segment, Selector}
use Rattle.json_query.specs.Selecting.{selector_nodes, segment_nodes}

-- what a view is of, if there is one, and the value that is seen
pub record ViewedValue : Type 0 where
  pub target : Option ViewTarget
  pub value : Tree

abbrev pub viewed_value : Option ViewTarget → Tree → ViewedValue
viewed_value s t = record { target = s; value = t }

abbrev pub viewed : View → ViewedValue
viewed v = viewed_value (Some (view_target v)) (seen v)

-- the new views are the old ones, and then views of these
abbrev pub Appends : List View → List View → List ViewedValue → Type 0
Appends old new vs = map viewed new ≡ map viewed old ++ vs

-- a node below what a view is of
abbrev pub node_viewed : Option ViewTarget → Node → ViewedValue
node_viewed s n = viewed_value (option_and_then (target_at n.location) s) n.value

abbrev pub nodes_viewed : Option ViewTarget → Nodelist → List ViewedValue
nodes_viewed s ns = map (node_viewed s) ns

-- what a selector, a segment and one segment after another select of what is viewed
abbrev pub selector_viewed : Selector → ViewedValue → List ViewedValue
selector_viewed s v = nodes_viewed v.target (selector_nodes s (root_of v.value))

abbrev pub segment_viewed : Segment → ViewedValue → List ViewedValue
segment_viewed s v = nodes_viewed v.target (segment_nodes s (root_of v.value))

abbrev pub segments_viewed : List Segment → List ViewedValue → List ViewedValue
segments_viewed [] vs = vs
segments_viewed (s ∷ ss) vs = segments_viewed ss (flat_map (segment_viewed s) vs)

-- trees, each with what its view is of
abbrev pub with_targets : List ViewTarget → List Tree → List ViewedValue
with_targets [] ts = []
with_targets (s ∷ ss) [] = []
with_targets (s ∷ ss) (t ∷ ts) = viewed_value (Some s) t ∷ with_targets ss ts

-- so members, each with its name
abbrev pub members_with_targets : List (List ℕ × ViewTarget) → List (List ℕ × Tree) → List (List ℕ × ViewedValue)
members_with_targets [] ps = []
members_with_targets (m ∷ ms) [] = []
members_with_targets (m ∷ ms) (p ∷ ps) = (p.0, viewed_value (Some m.1) p.1) ∷ members_with_targets ms ps

-- the elements of an array that is viewed, and the members of an object
abbrev pub elements_viewed : ArrayView → List ViewedValue
elements_viewed a = with_targets (elements_targets a) (elements_seen a)

abbrev pub members_viewed : ObjectView → List (List ℕ × ViewedValue)
members_viewed o = members_with_targets (members_targets o) (members_seen o)

-- what members have, without their names
abbrev pub member_values : {X : Type 0} → List (List ℕ × X) → List X
member_values {X} ps = map (λ (p : List ℕ × X). p.1) ps

-- the members whose name is k
abbrev pub with_name : {X : Type 0} → List ℕ → List (List ℕ × X) → List (List ℕ × X)
with_name {X} k ps = filter (λ (p : List ℕ × X). bytes_eq p.0 k) ps
