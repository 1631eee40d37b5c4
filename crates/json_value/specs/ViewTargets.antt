-- What a view is of.
use Rattle.std.specs.Prelude.{ℕ, List, Option, None, Some, option_map}
use Rattle.std.specs.Borrow.{Bor}
use Rattle.std.specs.declared.alloc.Global.{Global}
use Rattle.std.specs.declared.rc.Rc.{Rc}
use Rattle.json_grammar.specs.Tree.{Tree, null}
use Rattle.json_doc.specs.Docs.{doc_tree}
use Rattle.json_doc.specs.Seen.{view_doc, view_place}
use Rattle.json_doc.specs.declared.doc.Doc.{Doc}
use Rattle.json_value.specs.Denotes.{tree_of}
use Rattle.json_value.specs.Places.{places_in}
use Rattle.json_value.specs.Positions.{CellRef, position_in, doc_position, read_position}
use Rattle.json_value.specs.declared.value.Value.{Value}
use Rattle.json_value.specs.declared.view.View.{View}
use Rattle.json_value.specs.declared.view.ViewForm.{ViewForm}
use Rattle.json_value.specs.declared.view.ViewForm.TheVariants as whole

-- a whole value; a place of a document, with the document that a value holds, if one does; or null,
-- which has no position
pub data ViewTarget : Type 0 where
  whole_value : Value → ViewTarget
  place_of : Doc → Option Doc → ℕ → ViewTarget
  nowhere : ViewTarget

-- the tree there
abbrev pub target_tree : ViewTarget → Tree
target_tree (whole_value v) = tree_of v
target_tree (place_of d held at) = doc_tree d at
target_tree nowhere = null

-- its position; none for a value that is no place
abbrev pub target_position : ViewTarget → Option CellRef
target_position (whole_value v) = doc_position v
target_position (place_of d held at) = Some (position_in d at)
target_position nowhere = None

-- the position of a value that is read from a place of the document which a value holds; none if no
-- value holds it
abbrev pub kept_at : Option Doc → ℕ → Option CellRef
kept_at None at = None
kept_at (Some d) at = read_position d at

-- the position of a value made of it
abbrev pub target_value_position : ViewTarget → Option CellRef
target_value_position (whole_value v) = doc_position v
target_value_position (place_of d held at) = kept_at held at
target_value_position nowhere = None

-- the positions of the parts of a value made of it, if it is a whole value
abbrev pub target_places : ViewTarget → Option (List (Option CellRef))
target_places (whole_value v) = Some (places_in v)
target_places (place_of d held at) = None
target_places nowhere = None

-- the document that a value holds, if one does
abbrev pub doc_held : Option (Bor (Rc Doc Global)) → Option Doc
doc_held holder = option_map (λ d. d.now.value) holder

abbrev pub form_target : ViewForm → ViewTarget
form_target (whole.Packed p) = place_of (view_doc p.view) (doc_held p.holder) (view_place p.view)
form_target (whole.Whole v) = whole_value v.now
form_target whole.Absent = nowhere

-- what the view is of
abbrev pub view_target : View → ViewTarget
view_target v = form_target v.form
