-- The change log that a history represents.
use Rattle.std.specs.Prelude.{List}
use Rattle.json_value.specs.declared.value.Value.{Value}
use Rattle.json_history.specs.History.{ChangeLog}
use Rattle.json_history.specs.Logs.{log_in}
use Rattle.json_history.specs.declared.change.Change.{Change}
use Rattle.json_history.specs.declared.history.History.{History}
use Rattle.json_history.specs.declared.redo.Redo.{Redo}

-- its current tree, its changes with the latest first, and its edits to redo with the next first
abbrev pub log_of : History → ChangeLog
log_of h = log_in h.value h.changes.items h.redos.items

-- its value, its changes with the latest last, and its edits to redo with the next last
abbrev pub history_value : History → Value
history_value h = h.value

abbrev pub changes_in : History → List Change
changes_in h = h.changes.items

abbrev pub redos_in : History → List Redo
redos_in h = h.redos.items
