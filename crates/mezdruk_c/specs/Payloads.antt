-- The trees of what C holds.
use Rattle.std.specs.Prelude.{◌≡◌, ℕ, List, Bool, true, false, Option, Some, None, length, nat_lt, slice_get}
use Rattle.std.specs.Option.{option_and_then}
use Rattle.json_grammar.specs.Tree.{Tree}
use Rattle.json_doc.specs.Docs.{doc_cells, doc_tree}
use Rattle.json_doc.specs.Places.{place_after}
use Rattle.json_doc.specs.Readings.{elements, object_keys, values}
use Rattle.json_doc.specs.Seen.{child_place}
use Rattle.json_doc.specs.declared.doc.Doc.{Doc}
use Rattle.mezdruk_c.specs.declared.payload.Payload.{Payload}
use Rattle.mezdruk_c.specs.declared.payload.Payload.TheVariants.{Document as a_document}
use Rattle.mezdruk_c.specs.Trees.{text_or_literal}

-- a tree, on a condition
abbrev pub tree_if : Bool → Tree → Option Tree
tree_if true t = Some t
tree_if false t = None

-- the tree at a node of a document
abbrev pub tree_at_node : Doc → ℕ → Option Tree
tree_at_node d node = tree_if (nat_lt node (length (doc_cells d))) (doc_tree d node)

-- the bytes of the string at a node, or the literal of a number that is no integer of 64 bits
abbrev pub node_text : Doc → ℕ → Option (List ℕ)
node_text d node = option_and_then text_or_literal (tree_at_node d node)

-- the document that is owned
abbrev pub document_owned : Option Payload → Option Doc
document_owned (Some (a_document p)) = Some p.doc.value
document_owned owned = None

-- the tree at a node of a payload
abbrev pub tree_in : Payload → ℕ → Option Tree
tree_in (a_document p) node = tree_at_node p.doc.value node
tree_in p node = None

-- the nodes are counted in the order of the text: the child at an index of the value at a node is this one, an element or the value of a member
abbrev pub IsChildIn : Payload → ℕ → ℕ → ℕ → Type 0
IsChildIn (a_document p) node i child = child ≡ child_place p.doc.value node i
IsChildIn p node i child = ⊥

-- the node after the value at a node and all that is below it
abbrev pub IsAfterIn : Payload → ℕ → ℕ → Type 0
IsAfterIn (a_document p) node after = after ≡ place_after (doc_cells p.doc.value) node
IsAfterIn p node after = ⊥

-- the element at an index of an array
abbrev pub element_tree : Option Tree → ℕ → Option Tree
element_tree t i = option_and_then (λ u. slice_get (elements u) i) t

-- the value of the member at an index of an object
abbrev pub member_tree : Option Tree → ℕ → Option Tree
member_tree t i = option_and_then (λ u. slice_get (values u) i) t

-- the name of that member
abbrev pub member_name : Option Tree → ℕ → Option (List ℕ)
member_name t i = option_and_then (λ u. slice_get (object_keys u) i) t
