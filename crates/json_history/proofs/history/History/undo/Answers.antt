use Rattle.std.proofs.lemmas.Result.{on_ok_weaker}
use Rattle.json_history.specs.History.{undo as call}
use Rattle.json_history.specs.Logs.{log_in}
use Rattle.json_history.proofs.HistoryEquality.{valid_after_result, history_after_call}
use Rattle.json_history.proofs.history.History.undo.Goals as goal

pub invariant_of-self : goal.invariant_of-self
invariant_of-self c =
    let h = c.args.self.now in
    let n = c.undo_last.new in
    record { valid = valid_after_result c.undo_last.result (log_in h.value h.changes.items h.redos.items) (log_in n.value n.changes.items n.redos.items) call c.undo_last.ensures.ok c.undo_last.ensures.kept h.valid }

pub returns-clause-history : goal.returns-clause-history
returns-clause-history c =
    let h = c.args.self.now in
    let n = c.undo_last.new in
    on_ok_weaker c.undo_last.result (history_after_call (log_in h.value h.changes.items h.redos.items) (log_in n.value n.changes.items n.redos.items) call h.valid) c.undo_last.ensures.ok
