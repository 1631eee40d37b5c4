use Rattle.std.proofs.Common.{◌∙◌, ap, map}
use Rattle.json_history.specs.ChangeTrees.{tree_change_of}
use Rattle.json_history.specs.Logs.{redo_of}
use Rattle.json_history.proofs.CopiedHistories.{valid_copied}
use Rattle.json_history.proofs.history.History.clone.Goals as goal

pub invariant_of-result : goal.invariant_of-result
invariant_of-result c =
    let h = c.args.self.now in
    let changes = c.in_ok-changes.ensures.changes ∙ ap (map tree_change_of) c.changes.ensures.list in
    let redos = c.in_ok-redos.ensures.redos ∙ ap (map redo_of) c.as_slice.ensures.value in
    record { valid = valid_copied h.value c.in_ok-current.current h.changes.items c.in_ok-changes.changes.items h.redos.items c.in_ok-redos.redos.items c.in_ok-current.ensures.tree changes redos h.valid }
