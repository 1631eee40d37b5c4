use Rattle.json_history.specs.Logs.{log_in}
use Rattle.json_history.proofs.LimitedHistories.{log_limited, valid_after_limit, history_after_limit}
use Rattle.json_history.proofs.history.History.limit.Goals as goal

pub invariant_of-self : goal.invariant_of-self
invariant_of-self c =
    let h = c.args.self.now in
    let ds = c.keep_last.new.list.items in
    record { valid = valid_after_limit c.args.max (log_in h.value h.changes.items h.redos.items) (log_in h.value ds h.redos.items) (log_limited c.args.max h.value h.changes.items ds h.redos.items c.keep_last.ensures) h.valid }

pub returns-clause-log : goal.returns-clause-log
returns-clause-log c =
    let h = c.args.self.now in
    log_limited c.args.max h.value h.changes.items c.keep_last.new.list.items h.redos.items c.keep_last.ensures

pub returns-clause-history : goal.returns-clause-history
returns-clause-history c =
    let h = c.args.self.now in
    let ds = c.keep_last.new.list.items in
    history_after_limit c.args.max (log_in h.value h.changes.items h.redos.items) (log_in h.value ds h.redos.items) (log_limited c.args.max h.value h.changes.items ds h.redos.items c.keep_last.ensures) h.valid
