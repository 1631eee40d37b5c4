-- The position of what is seen in a document, and of what is made of it.
use Rattle.std.specs.Prelude.{ℕ, List, Option}
use Rattle.std.specs.Borrow.{Bor}
use Rattle.std.specs.declared.alloc.Global.{Global}
use Rattle.std.specs.declared.rc.Rc.{Rc}
use Rattle.json_doc.specs.declared.doc.Doc.{Doc}
use Rattle.json_value.specs.ViewTargets.{kept_at, doc_held, view_target, target_position, target_value_position, target_places}
use Rattle.json_value.specs.Positions.{CellRef}
use Rattle.json_value.specs.declared.view.View.{View}

-- the position of what is seen; none for a value that is no place
abbrev pub view_position : View → Option CellRef
view_position v = target_position (view_target v)

-- the position of a value that is read from a place of a document which a value holds; none if no
-- value holds it
abbrev pub held_position : Option (Bor (Rc Doc Global)) → ℕ → Option CellRef
held_position holder at = kept_at (doc_held holder) at

-- the position of a value made of what is seen: that of the whole value, or of one that is read
-- from a place of a value; none for one of a document alone
abbrev pub view_value_position : View → Option CellRef
view_value_position v = target_value_position (view_target v)

-- the positions of the parts of a value made of what is seen, if a whole value is seen: those of
-- its parts
abbrev pub places_kept : View → Option (List (Option CellRef))
places_kept v = target_places (view_target v)
