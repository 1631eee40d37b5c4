-- The position of a value in a document, if it is a place of one.
use Rattle.std.specs.Prelude.{◌≡◌, ◌==◌, ◌-◌, ℕ, ℤ, List, [], Option, Some, None, IfSome, cond, option_and_then, slice_get}
use Rattle.json_grammar.specs.Tree.{Tree, null, boolean, num, text, list, pairs, no_trees, tree_and, no_pairs, pair_and}
use Rattle.json_number.specs.Integers.{integer_in}
use Rattle.json_doc.specs.Docs.{doc_cells, doc_text, doc_tree}
use Rattle.json_doc.specs.Kinds.{type_number}
use Rattle.json_doc.specs.Readings.{type_of}
use Rattle.json_doc.specs.Seen.{child_place, key_place}
use Rattle.json_doc.specs.Trees.{tree_at_cell}
use Rattle.json_doc.specs.declared.cell.Cell.{Cell}
use Rattle.json_doc.specs.declared.doc.Doc.{Doc}
use Rattle.json_doc.specs.declared.json_type.JsonType.{JsonType}
use Rattle.json_doc.specs.declared.json_type.JsonType.TheVariants as kind
use Rattle.json_value.specs.declared.place.DocumentPosition.{DocumentPosition}
use Rattle.json_value.specs.declared.literal.Literal.{Literal}
use Rattle.json_value.specs.declared.literal.LiteralForm.{LiteralForm}
use Rattle.json_value.specs.declared.literal.LiteralForm.TheVariants as literal
use Rattle.json_value.specs.declared.text.Text.{Text}
use Rattle.json_value.specs.declared.text.TextForm.{TextForm}
use Rattle.json_value.specs.declared.text.TextForm.TheVariants as form
use Rattle.json_value.specs.declared.container.Container.{Container}
use Rattle.json_value.specs.declared.container.Form.{Form}
use Rattle.json_value.specs.declared.container.Form.TheVariants.{Empty, Owned, Packed}
use Rattle.json_value.specs.declared.pair.Keyed.{Keyed}
use Rattle.json_value.specs.declared.value.Value.{Value, out-Value}
use Rattle.json_value.specs.declared.value.Value.TheOpen.{Value-F}

-- the cells and the text of a document, and a cell of it
pub record CellRef : Type 0 where
  pub cells : List Cell
  pub bytes : List ℕ
  pub at : ℕ

-- a place of a document
abbrev pub position_in : Doc → ℕ → CellRef
position_in d at = record { cells = doc_cells d; bytes = doc_text d; at = at }

-- the tree at that position
abbrev pub position_tree : CellRef → Tree
position_tree s = tree_at_cell s.cells s.bytes s.at

-- that position, if the value there is of this kind
abbrev pub kind_position : JsonType → CellRef → Option CellRef
kind_position k s = cond (type_number (type_of (position_tree s)) == type_number k) (Some s) None

abbrev pub literal_form_position : LiteralForm → Option CellRef
literal_form_position (literal.Copied s) = None
literal_form_position (literal.Packed p) = Some (position_in p.doc.value p.at)

abbrev pub text_form_position : TextForm → Option CellRef
text_form_position (form.Static s) = None
text_form_position (form.Copied s) = None
text_form_position (form.Packed p) = Some (position_in p.doc.value p.at)

-- the position of a literal, and of a text
abbrev pub literal_position : Literal → Option CellRef
literal_position l = literal_form_position l.form

abbrev pub text_position : Text → Option CellRef
text_position t = text_form_position t.form

abbrev pub form_position : {T : Type 0} → Form T → Option CellRef
form_position Empty = None
form_position (Owned v) = None
form_position (Packed p) = Some (position_in p.doc.value p.at)

abbrev pub level_position : Value-F Value → Option CellRef
level_position Value-F.Null = None
level_position (Value-F.Bool b) = None
level_position (Value-F.Number n) = None
level_position (Value-F.Raw l) = option_and_then (kind_position kind.Number) (literal_form_position l.form)
level_position (Value-F.Text t) = option_and_then (kind_position kind.String) (text_form_position t.form)
level_position (Value-F.Array a) = option_and_then (kind_position kind.Array) (form_position a.form)
level_position (Value-F.Object o) = option_and_then (kind_position kind.Object) (form_position o.form)

-- the position of a value, by its kind; none for one that is no place
abbrev pub doc_position : Value → Option CellRef
doc_position v = level_position (out-Value v)

-- so a number: an integer by value is a value of its own
abbrev pub kept_number : Option ℤ → CellRef → Option CellRef
kept_number (Some n) s = None
kept_number None s = Some s

-- whether a value with this tree is a place, if it is read from there: null, the booleans, integers by value and empty containers are values of their own
abbrev pub kept_position : Tree → CellRef → Option CellRef
kept_position null s = None
kept_position (boolean b) s = None
kept_position (num l) s = kept_number (integer_in l) s
kept_position (text c) s = Some s
kept_position (list no_trees) s = None
kept_position (list (tree_and t ts)) s = Some s
kept_position (pairs no_pairs) s = None
kept_position (pairs (pair_and k t ps)) s = Some s

-- the position of a value that is read from a place of a document
abbrev pub read_position : Doc → ℕ → Option CellRef
read_position d at = kept_position (doc_tree d at) (position_in d at)

-- the positions of the key and the value of a member
abbrev pub member_positions : Keyed Value → Option CellRef × Option CellRef
member_positions m = (text_position m.key, doc_position m.value)

-- the positions of both, read from the place of a value in a packed object and of its key before it
abbrev pub read_member_positions : Doc → ℕ → Option CellRef × Option CellRef
read_member_positions d at = (Some (position_in d (at - 1)), read_position d at)

-- the container is a place of a document
abbrev pub IsPacked : {T : Type 0} → Form T → Type 0
IsPacked Empty = ⊥
IsPacked (Owned v) = ⊥
IsPacked (Packed p) = Unit {0}

abbrev pub IsPlace : {T : Type 0} → Container T → Type 0
IsPlace c = IsPacked c.form

-- the value is an array or an object whose container is a place of a document
abbrev pub LevelIsPlace : Value-F Value → Type 0
LevelIsPlace (Value-F.Array a) = IsPlace a
LevelIsPlace (Value-F.Object o) = IsPlace o
LevelIsPlace _ = ⊥

abbrev pub ContainerIsPlace : Value → Type 0
ContainerIsPlace v = LevelIsPlace (out-Value v)

-- each of these is read from the place of the element that it is in a packed array
abbrev pub PlaceElements : DocumentPosition → List Value → Type 0
PlaceElements p items = (i : ℕ) → IfSome (slice_get items i) (λ v. doc_position v ≡ read_position p.doc.value (child_place p.doc.value p.at i))

-- what a first write makes of an array: an owned list stays, and each element of a packed one is read from its place
abbrev pub FirstList : Form Value → List Value → Type 0
FirstList Empty items = items ≡ []
FirstList (Owned v) items = items ≡ v.items
FirstList (Packed p) items = PlaceElements p items

-- each of these is the member that it is in a packed object: its key is the place of that string, and its value is read from its place
abbrev pub PlaceMembers : DocumentPosition → List (Keyed Value) → Type 0
PlaceMembers p items = (i : ℕ) → IfSome (slice_get items i) (λ m. (text_position m.key ≡ Some (position_in p.doc.value (key_place p.doc.value p.at i))) × (doc_position m.value ≡ read_position p.doc.value (child_place p.doc.value p.at i)))

-- so of an object
abbrev pub FirstPairs : Form (Keyed Value) → List (Keyed Value) → Type 0
FirstPairs Empty items = items ≡ []
FirstPairs (Owned v) items = items ≡ v.items
FirstPairs (Packed p) items = PlaceMembers p items
