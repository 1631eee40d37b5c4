use Rattle.json_history.specs.Logs.{log_in}
use Rattle.json_history.proofs.LimitedHistories.{log_cleared, valid_after_clear, history_after_clear}
use Rattle.json_history.proofs.history.History.clear_redo.Goals as goal

pub invariant_of-self : goal.invariant_of-self
invariant_of-self c =
    let h = c.args.self.now in
    let qs = c.clear.new.self.items in
    record { valid = valid_after_clear (log_in h.value h.changes.items h.redos.items) (log_in h.value h.changes.items qs) (log_cleared h.value h.changes.items h.redos.items qs c.clear.ensures.items) h.valid }

pub returns-clause-log : goal.returns-clause-log
returns-clause-log c =
    let h = c.args.self.now in
    log_cleared h.value h.changes.items h.redos.items c.clear.new.self.items c.clear.ensures.items

pub returns-clause-history : goal.returns-clause-history
returns-clause-history c =
    let h = c.args.self.now in
    let qs = c.clear.new.self.items in
    history_after_clear (log_in h.value h.changes.items h.redos.items) (log_in h.value h.changes.items qs) (log_cleared h.value h.changes.items h.redos.items qs c.clear.ensures.items) h.valid
