use Rattle.std.proofs.lemmas.Result.{on_ok_weaker}
use Rattle.json_value.specs.Edits.{edit_of}
use Rattle.json_history.specs.History.{edit}
use Rattle.json_history.specs.Logs.{log_in}
use Rattle.json_history.proofs.HistoryEquality.{valid_after_result, history_after_call, log_edit_is_call}
use Rattle.json_history.proofs.history.History.apply.Goals as goal

pub invariant_of-self : goal.invariant_of-self
invariant_of-self c =
    let h = c.args.self.now in
    let n = c.apply_and_log.new in
    let k = log_in h.value h.changes.items h.redos.items in
    let m = log_in n.value n.changes.items n.redos.items in
    record { valid = valid_after_result c.apply_and_log.result k m (edit (edit_of c.args.edit)) (on_ok_weaker c.apply_and_log.result (log_edit_is_call k m (edit_of c.args.edit)) c.apply_and_log.ensures.ok) c.apply_and_log.ensures.kept h.valid }

pub returns-clause-history : goal.returns-clause-history
returns-clause-history c =
    let h = c.args.self.now in
    let n = c.apply_and_log.new in
    let k = log_in h.value h.changes.items h.redos.items in
    let m = log_in n.value n.changes.items n.redos.items in
    on_ok_weaker c.apply_and_log.result (λ e. history_after_call k m (edit (edit_of c.args.edit)) h.valid (log_edit_is_call k m (edit_of c.args.edit) e)) c.apply_and_log.ensures.ok
