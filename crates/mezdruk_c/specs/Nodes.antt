-- What a node shows.
use Rattle.std.specs.Prelude.{◌≡◌}
use Rattle.json_grammar.specs.Tree.{Tree}
use Rattle.json_doc.specs.Kinds.{type_number}
use Rattle.json_doc.specs.Readings.{type_of, bool_of, integer_in_tree}
use Rattle.mezdruk_c.specs.declared.node.Node.{Node}
use Rattle.mezdruk_c.specs.Trees.{boolean_number, integer_shown, length_shown}

-- it shows the kind of a tree, its boolean, its integer, and how many bytes, elements or members it has
pub record ShowsTree (n : Node) (t : Tree) : Type 0 where
  pub kind : n.kind ≡ type_number (type_of t)
  pub boolean : n.boolean ≡ boolean_number (bool_of t)
  pub integer : integer_shown n.form n.natural n.negative ≡ integer_in_tree t
  pub length : n.length ≡ length_shown t
