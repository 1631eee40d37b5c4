-- Nodes and nodelists (RFC 9535, section 1.1). Members are visited in the order of the text, and
-- each that has a repeated name is a node.
use Rattle.std.specs.Prelude.{ℕ, suc, List, [], ◌∷◌, ◌++◌, map, cond, bytes_eq}
use Rattle.json_grammar.specs.Tree.{Tree, null, boolean, num, text, list, pairs, Trees, no_trees, tree_and, Pairs, no_pairs, pair_and}

-- a step down: to the element of an index, or to the member of an index and its name, since a name
-- may repeat
pub data LocationStep : Type 0 where
  element_at : ℕ → LocationStep
  member_at : ℕ → List ℕ → LocationStep

-- the steps from the root to a value
abbrev pub Location : Type 0
Location = List LocationStep

-- a value, with its location within the query argument
pub record Node : Type 0 where
  pub location : Location
  pub value : Tree

abbrev pub Nodelist : Type 0
Nodelist = List Node

-- the values of nodes
abbrev pub node_values : Nodelist → List Tree
node_values ns = map (λ (n : Node). n.value) ns

abbrev pub node_at : Location → Tree → Node
node_at l t = record { location = l; value = t }

-- the root node of the query argument (section 2.2)
abbrev pub root_of : Tree → Node
root_of t = node_at [] t

-- ---- children

-- elements below l as nodes, the first of the index i
abbrev pub elements_from : Location → ℕ → Trees → Nodelist
elements_from l i no_trees = []
elements_from l i (tree_and t ts) = node_at (l ++ element_at i ∷ []) t ∷ elements_from l (suc i) ts

-- members below l as nodes, the first of the index i
abbrev pub members_from : Location → ℕ → Pairs → Nodelist
members_from l i no_pairs = []
members_from l i (pair_and k t ps) = node_at (l ++ member_at i k ∷ []) t ∷ members_from l (suc i) ps

-- those of these members whose name is k
abbrev pub named_from : List ℕ → Location → ℕ → Pairs → Nodelist
named_from k l i no_pairs = []
named_from k l i (pair_and n t ps) = cond (bytes_eq n k) (node_at (l ++ member_at i n ∷ []) t ∷ named_from k l (suc i) ps) (named_from k l (suc i) ps)

abbrev pub elements_below : Location → Tree → Nodelist
elements_below l (list ts) = elements_from l 0 ts
elements_below l _ = []

abbrev pub children_below : Location → Tree → Nodelist
children_below l (list ts) = elements_from l 0 ts
children_below l (pairs ps) = members_from l 0 ps
children_below l _ = []

abbrev pub named_below : List ℕ → Location → Tree → Nodelist
named_below k l (pairs ps) = named_from k l 0 ps
named_below k l _ = []

-- the elements of an array; a node of another kind has none
abbrev pub elements : Node → Nodelist
elements n = elements_below n.location n.value

-- the elements of an array or the members of an object; a node of another kind has no children
-- (section 1.1)
abbrev pub children : Node → Nodelist
children n = children_below n.location n.value

-- the members of an object whose name is k
abbrev pub named : List ℕ → Node → Nodelist
named k n = named_below k n.location n.value

-- ---- descendants

abbrev mutual
  -- the node itself, and then each child with all that is below it, one child after another
  -- (section 2.5.2.2)
  pub visited_below : Location → Tree → Nodelist
  visited_below l null = node_at l null ∷ []
  visited_below l (boolean b) = node_at l (boolean b) ∷ []
  visited_below l (num b) = node_at l (num b) ∷ []
  visited_below l (text s) = node_at l (text s) ∷ []
  visited_below l (list ts) = node_at l (list ts) ∷ elements_visited l 0 ts
  visited_below l (pairs ps) = node_at l (pairs ps) ∷ members_visited l 0 ps

  pub elements_visited : Location → ℕ → Trees → Nodelist
  elements_visited l i no_trees = []
  elements_visited l i (tree_and t ts) = visited_below (l ++ element_at i ∷ []) t ++ elements_visited l (suc i) ts

  pub members_visited : Location → ℕ → Pairs → Nodelist
  members_visited l i no_pairs = []
  members_visited l i (pair_and k t ps) = visited_below (l ++ member_at i k ∷ []) t ++ members_visited l (suc i) ps

abbrev pub visited : Node → Nodelist
visited n = visited_below n.location n.value
