use Rattle.json_value.specs.Edits.{edit_of}
use Rattle.json_history.specs.LogOfHistory.{log_of}
use Rattle.json_rpc.proofs.ChangedDocuments.{edit_applied}
use Rattle.json_rpc.proofs.document_change.apply_edit.Goals as goal

pub returns-in-Ok-clause-ok : goal.returns-in-Ok-clause-ok
returns-in-Ok-clause-ok c = edit_applied (log_of c.args.history.now) (log_of c.apply.new.self) (edit_of c.args.edit) c.in-Ok.ensures.ok c.in-Ok.ensures.history
