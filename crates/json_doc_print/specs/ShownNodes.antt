-- What is shown of a place of a document.
use Rattle.json_grammar.specs.Tree.{Tree, null, boolean, num, text, list, list_trees, pairs, list_pairs}
use Rattle.json_number.specs.Numbers.{text_of_number}
use Rattle.json_doc.specs.Left.{children_left, pairs_left}
use Rattle.json_doc.specs.declared.node.DocNode.{DocNode}
use Rattle.json_doc.specs.declared.node.DocNode.TheVariants as node

-- the tree of the node
abbrev pub node_tree : DocNode → Tree
node_tree node.Null = null
node_tree (node.Boolean b) = boolean b
node_tree (node.Number n) = num (text_of_number n)
node_tree (node.Raw l) = num l.now
node_tree (node.String s) = text s.now
node_tree (node.Array c) = list (list_trees (children_left c))
node_tree (node.Object p) = pairs (list_pairs (pairs_left p))
