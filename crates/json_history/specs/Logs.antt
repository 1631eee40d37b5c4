-- The change log that a value, its changes and its edits to redo represent.
use Rattle.std.specs.Prelude.{List, map, reverse}
use Rattle.json_value.specs.Denotes.{tree_of}
use Rattle.json_value.specs.Edits.{edit_of}
use Rattle.json_value.specs.declared.value.Value.{Value}
use Rattle.json_history.specs.Change.{TreeChange}
use Rattle.json_history.specs.ChangeTrees.{tree_change_of}
use Rattle.json_history.specs.History.{ChangeLog, TreeRedo}
use Rattle.json_history.specs.declared.change.Change.{Change}
use Rattle.json_history.specs.declared.redo.Redo.{Redo}

-- an edit to redo, with the change that undoes it again
abbrev pub redo_of : Redo → TreeRedo
redo_of r = (edit_of r.edit, tree_change_of r.change)

-- the changes of a list, whose last one is the latest
abbrev pub changes_of : List Change → List TreeChange
changes_of cs = reverse (map tree_change_of cs)

-- the edits to redo of a list, whose last one is the next
abbrev pub redos_of : List Redo → List TreeRedo
redos_of rs = reverse (map redo_of rs)

-- the log of a value, of changes with the oldest first, and of edits to redo with the next last
abbrev pub log_in : Value → List Change → List Redo → ChangeLog
log_in v cs rs = record { value = tree_of v; changes = changes_of cs; redos = redos_of rs }
