use Rattle.std.proofs.Common.{◌∙◌}
use Rattle.json_history.proofs.CopiedHistories.{past_count}
use Rattle.json_history.proofs.history.History.undo_count.Goals as goal

pub returns-clause-history : goal.returns-clause-history
returns-clause-history c =
    let h = c.args.self.now in
    c.len.ensures ∙ h.changes.ok.0 ∙ past_count h.value h.changes.items h.redos.items h.valid
