-- Queries, as examples write them, and what is said of them.
use Rattle.std.specs.Prelude.{◌≡◌, ℕ, List, [], ◌∷◌, map, codes}
use Prim.Native.String.{String}
use Rattle.json_grammar.specs.Tree.{Tree}
use Rattle.json_query.specs.NormalizedPaths.{normalized_path}
use Rattle.json_query.specs.Nodes.{Node}
use Rattle.json_query.specs.Query.{Query, Segment, child_segment, descendant_segment, Selector, name_selector}
use Rattle.json_query.specs.Selecting.{selected}

-- `.name`, `[..]` and `..[..]`
abbrev pub dot : String → Segment
dot k = child_segment (name_selector (codes k) ∷ [])

abbrev pub brackets : List Selector → Segment
brackets ss = child_segment ss

abbrev pub dots : List Selector → Segment
dots ss = descendant_segment ss

-- `'name'`
abbrev pub quoted : String → Selector
quoted k = name_selector (codes k)

-- the path of a node, and its value
abbrev pub located : Node → List ℕ × Tree
located n = (normalized_path n.location, n.value)

-- the query selects these nodes, in this order: each by its normalized path, with its value
abbrev pub Finds : Tree → Query → List (String × Tree) → Type 0
Finds t q rows = map located (selected q t) ≡ map (λ (r : String × Tree). (codes r.0, r.1)) rows

-- the query selects nodes of these normalized paths, in this order
abbrev pub FindsPaths : Tree → Query → List String → Type 0
FindsPaths t q paths = map (λ (n : Node). normalized_path n.location) (selected q t) ≡ map codes paths
