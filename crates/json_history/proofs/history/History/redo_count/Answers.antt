use Rattle.std.proofs.Common.{◌∙◌}
use Rattle.json_history.proofs.CopiedHistories.{future_count}
use Rattle.json_history.proofs.history.History.redo_count.Goals as goal

pub returns-clause-history : goal.returns-clause-history
returns-clause-history c =
    let h = c.args.self.now in
    c.len.ensures ∙ h.redos.ok.0 ∙ future_count h.value h.changes.items h.redos.items h.valid
