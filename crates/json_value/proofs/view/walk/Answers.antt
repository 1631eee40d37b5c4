use Rattle.std.proofs.Common.{ap}
use Rattle.json_doc_print.specs.Emitting.{tree_given}
use Rattle.json_value.specs.Seen.{form_seen}
use Rattle.json_doc_print.proofs.Walking.{walks_one}
use Rattle.json_value.proofs.view.walk.Goals as goal

pub returns-in-Absent : goal.returns-in-Absent
returns-in-Absent g c = walks_one _ _ (ap (λ f. tree_given (form_seen f)) c.in-Absent.is) c.events_result.ensures c.null.ensures
