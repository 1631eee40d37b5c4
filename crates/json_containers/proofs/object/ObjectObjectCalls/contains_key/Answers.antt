use Rattle.std.proofs.Common.{sym, ap, ◌∙◌}
use Rattle.std.specs.Prelude.{is_some}
use Rattle.json_grammar.specs.Tree.{list_pairs}
use Rattle.json_model.specs.Edit.{has_key}
use Rattle.json_containers.proofs.Keys.{has_found}
use Rattle.json_containers.proofs.object.ObjectObjectCalls.contains_key.Goals as goal

pub returns-in-Some : goal.returns-in-Some
returns-in-Some c =
    let k = c.args.key.now in
    ap is_some c.in-Some.ensures.tree ∙ sym (has_found k _) ∙ ap (λ ps. has_key k (list_pairs ps)) c.view.ensures.trees

pub returns-in-None : goal.returns-in-None
returns-in-None c =
    let k = c.args.key.now in
    ap is_some c.in-None.ensures.tree ∙ sym (has_found k _) ∙ ap (λ ps. has_key k (list_pairs ps)) c.view.ensures.trees
