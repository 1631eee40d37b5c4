use Rattle.std.proofs.lemmas.Result.{on_ok_weaker}
use Rattle.json_value.specs.Denotes.{tree_of}
use Rattle.json_value.specs.Edits.{path_steps}
use Rattle.json_rpc.specs.Denoted.{tree_history}
use Rattle.json_rpc.proofs.ChangedDocuments.{root_replaced}
use Rattle.json_rpc.proofs.document_change.replace_document.Goals as goal

pub returns-clause-ok : goal.returns-clause-ok
returns-clause-ok c =
    on_ok_weaker c.apply.result (root_replaced (tree_history c.args.history.now) (tree_history c.apply.new.self) (path_steps c.new-path.result) (tree_of c.args.next) c.new-path.ensures) c.apply.ensures.history
