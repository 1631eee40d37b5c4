-- What a query makes of a tree (RFC 9535).
use Rattle.std.specs.Prelude.{length, decimal}
use Rattle.json_grammar.specs.Tree.{Tree, num, list, list_trees}
use Rattle.json_query.specs.Nodes.{node_values}
use Rattle.json_query.specs.Query.{Query}
use Rattle.json_query.specs.Selecting.{selected}

-- the array of the values that the query selects, in the order of the nodelist
abbrev pub values_selected : Query → Tree → Tree
values_selected q tree = list (list_trees (node_values (selected q tree)))

-- how many nodes it selects
abbrev pub count_selected : Query → Tree → Tree
count_selected q tree = num (decimal (length (selected q tree)))
