-- What a node says of its place.
use Rattle.std.specs.Prelude.{◌≡◌, ℕ, ◌<◌, length, slice_get, Some, None, ⊤}
use Rattle.json_grammar.specs.Tree.{Tree, null, boolean, num, text, list, pairs, Trees, Pairs, trees_list, pairs_list}
use Rattle.json_grammar.specs.Grammar.{number}
use Rattle.json_number.specs.Integers.{integer_in}
use Rattle.json_number.specs.Numbers.{text_of_number}
use Rattle.json_doc.specs.declared.doc.Doc.{Doc}
use Rattle.json_doc.specs.Seen.{child_place}
use Rattle.json_doc.specs.Left.{children_doc, children_places, children_left, pairs_doc, places_of_pairs, pairs_left}
use Rattle.json_doc.specs.declared.node.DocNode.{DocNode}
use Rattle.json_doc.specs.declared.node.DocNode.TheVariants as node

-- it is the node of a tree: of the same kind, with the same content
abbrev pub NodeOf : DocNode → Tree → Type 0
NodeOf node.Null t = t ≡ null
NodeOf (node.Boolean b) t = t ≡ boolean b
NodeOf (node.Number n) t = t ≡ num (text_of_number n)
NodeOf (node.Raw l) t = t ≡ num l.now
NodeOf (node.String s) t = t ≡ text s.now
NodeOf (node.Array c) t = (ts : Trees) × (t ≡ list ts) × (children_left c ≡ trees_list ts)
NodeOf (node.Object p) t = (ps : Pairs) × (t ≡ pairs ps) × (pairs_left p ≡ pairs_list ps)

-- where it has a literal, that is a number (RFC 8259, section 6) and no integer by value
abbrev pub NodeIsNumber : DocNode → Type 0
NodeIsNumber (node.Raw l) = number l.now × (integer_in l.now ≡ None)
NodeIsNumber _ = ⊤

-- what it goes over is of a document
abbrev pub NodeIn : DocNode → Doc → Type 0
NodeIn (node.Array c) d = children_doc c ≡ d
NodeIn (node.Object p) d = pairs_doc p ≡ d
NodeIn _ d = ⊤

-- it goes over the children of a place: elements, or the values of pairs
abbrev pub NodeAt : DocNode → Doc → ℕ → Type 0
NodeAt (node.Array c) d at = (i : ℕ) → i < length (children_left c) → slice_get (children_places c) i ≡ Some (child_place d at i)
NodeAt (node.Object p) d at = (i : ℕ) → i < length (pairs_left p) → slice_get (places_of_pairs p) i ≡ Some (child_place d at i)
NodeAt _ d at = ⊤
