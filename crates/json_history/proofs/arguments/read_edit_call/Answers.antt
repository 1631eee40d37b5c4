use Rattle.std.proofs.Common.{sym, ap, ◌∙◌}
use Rattle.std.specs.Prelude.{option_map}
use Rattle.json_value.specs.Denotes.{tree_of}
use Rattle.json_value.specs.Edits.{edit_of}
use Rattle.json_value.specs.EditTrees.{edit_in}
use Rattle.json_history.specs.History.{edit}
use Rattle.json_history.proofs.CallWords.{edit_in_read}
use Rattle.json_history.proofs.arguments.read_edit_call.Goals as goal

pub returns-in-Ok-clause-ok : goal.returns-in-Ok-clause-ok
returns-in-Ok-clause-ok c =
    ap (λ t. option_map (λ x. edit x) (edit_in t)) (sym c.in_ok-value.ensures.tree)
    ∙ edit_in_read (tree_of c.in_ok-value.value) (edit_of c.in-Ok.edit) c.in-Ok.ensures.ok
