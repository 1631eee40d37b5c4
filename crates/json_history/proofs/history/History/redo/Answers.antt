use Rattle.std.proofs.lemmas.Result.{on_ok_weaker}
use Rattle.json_history.specs.History.{redo as call}
use Rattle.json_history.specs.Logs.{log_in}
use Rattle.json_history.proofs.HistoryEquality.{valid_after_result, history_after_call}
use Rattle.json_history.proofs.history.History.redo.Goals as goal

pub invariant_of-self : goal.invariant_of-self
invariant_of-self c =
    let h = c.args.self.now in
    let n = c.redo_next.new in
    record { valid = valid_after_result c.redo_next.result (log_in h.value h.changes.items h.redos.items) (log_in n.value n.changes.items n.redos.items) call c.redo_next.ensures.ok c.redo_next.ensures.kept h.valid }

pub returns-clause-history : goal.returns-clause-history
returns-clause-history c =
    let h = c.args.self.now in
    let n = c.redo_next.new in
    on_ok_weaker c.redo_next.result (history_after_call (log_in h.value h.changes.items h.redos.items) (log_in n.value n.changes.items n.redos.items) call h.valid) c.redo_next.ensures.ok
