-- Laws of queries.
use Rattle.std.specs.Prelude.{◌≡◌, [], ◌∷◌, Some}
use Rattle.std.specs.List.{AllByRecursion}
use Rattle.json_grammar.specs.Repeated.{RepeatsKey}
use Rattle.json_grammar.specs.Tree.{Tree}
use Rattle.json_query.specs.Locations.{value_at}
use Rattle.json_query.specs.Nodes.{Node}
use Rattle.json_query.specs.NormalizedPaths.{path_query}
use Rattle.json_query.specs.Query.{Query}
use Rattle.json_query.specs.Selecting.{selected}

-- the node's value is the value at its location
abbrev pub IsLocatedIn : Tree → Node → Type 0
IsLocatedIn t n = value_at n.location t ≡ Some n.value

-- each node that a query selects is located in the query argument
abbrev pub NodesAreLocated : Type 0
NodesAreLocated = (q : Query) (t : Tree) → AllByRecursion (IsLocatedIn t) (selected q t)

-- the normalized path of the node, as a query, selects the node alone (section 2.7)
abbrev pub IsSelectedByItsPath : Tree → Node → Type 0
IsSelectedByItsPath t n = selected (path_query n.location) t ≡ n ∷ []

-- so does that of each node that a query selects, if no name repeats
abbrev pub PathsSelectTheirNodes : Type 0
PathsSelectTheirNodes = (q : Query) (t : Tree) → ¬ (RepeatsKey t) → AllByRecursion (IsSelectedByItsPath t) (selected q t)
