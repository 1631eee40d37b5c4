-- The edits of a change.
use Rattle.std.specs.Prelude.{List, map}
use Rattle.json_model.specs.Edit.{Edit}
use Rattle.json_value.specs.Edits.{edit_of}
use Rattle.mezdruk_files.specs.declared.edit_all.EditAll.{EditAll}

abbrev pub listed_edits : EditAll → List Edit
listed_edits change = map edit_of change.edits.now
