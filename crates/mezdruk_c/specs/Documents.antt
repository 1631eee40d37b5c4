-- The trees of a document that C holds.
use Rattle.std.specs.Prelude.{◌≡◌, ℕ, List, Option, Some, None, Float}
use Rattle.std.specs.Option.{option_and_then}
use Rattle.json_grammar.specs.Tree.{Tree}
use Rattle.json_value.specs.Doubles.{double_in}
use Rattle.mezdruk_c.specs.declared.payload.Payload.{Payload}
use Rattle.mezdruk_c.specs.declared.document.Document.{Document}
use Rattle.mezdruk_c.specs.Owned.{owned_payload}
use Rattle.mezdruk_c.specs.Payloads.{tree_in, member_name, IsChildIn, IsAfterIn}
use Rattle.mezdruk_c.specs.Trees.{text_or_literal}

-- the tree at a node of what is owned
abbrev pub tree_owned : Option Payload → ℕ → Option Tree
tree_owned (Some p) node = tree_in p node
tree_owned None node = None

-- the tree at a node of a document
abbrev pub document_node_tree : Document → ℕ → Option Tree
document_node_tree d node = tree_owned (owned_payload d.owner) node

-- the bytes of the string at a node, or the literal of a number that is no integer of 64 bits
abbrev pub document_node_text : Document → ℕ → Option (List ℕ)
document_node_text d node = option_and_then text_or_literal (document_node_tree d node)

-- the name of the member at an index of the object at a node
abbrev pub name_at : Document → ℕ → ℕ → Option (List ℕ)
name_at d node i = member_name (document_node_tree d node) i

-- the double nearest to the number at a node, if it is finite
abbrev pub real_at : Document → ℕ → Option Float
real_at d node = option_and_then double_in (document_node_tree d node)

-- a document is as it was: the same root, and the same nodes
abbrev pub IsSameDocument : Document → Document → Type 0
IsSameDocument old new = (new.root ≡ old.root) × (owned_payload new.owner ≡ owned_payload old.owner)

-- the child at an index of the value at a node, in the order of the text, is this node
abbrev pub IsChildOwned : Option Payload → ℕ → ℕ → ℕ → Type 0
IsChildOwned (Some held) node i child = IsChildIn held node i child
IsChildOwned None node i child = ⊥

abbrev pub IsChildNode : Document → ℕ → ℕ → ℕ → Type 0
IsChildNode d node i child = IsChildOwned (owned_payload d.owner) node i child

-- the node after the value at a node and all that is below it is this one
abbrev pub IsAfterOwned : Option Payload → ℕ → ℕ → Type 0
IsAfterOwned (Some held) node after = IsAfterIn held node after
IsAfterOwned None node after = ⊥

abbrev pub IsAfterNode : Document → ℕ → ℕ → Type 0
IsAfterNode d node after = IsAfterOwned (owned_payload d.owner) node after
