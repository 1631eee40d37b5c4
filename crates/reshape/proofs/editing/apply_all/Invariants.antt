use Rattle.std.proofs.Common.{◌≡◌, map, take, Ok}
use Rattle.json_model.specs.Edit.{edited}
use Rattle.json_value.specs.Denotes.{tree_of}
use Rattle.json_value.specs.Edits.{edit_of}
use Rattle.reshape.proofs.editing.apply_all.Given as goal

abbrev pub invariant-loop-edit : goal.invariant-loop-edit
invariant-loop-edit l = (edited (map edit_of (take l.edit-index l.edits)) (tree_of l.fn.value) ≡ Ok (tree_of l.value)) × (l.number ≡ l.edit-index)
