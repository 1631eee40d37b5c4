use Rattle.std.proofs.lemmas.Result.{IfOk-weaker}
use Rattle.json_value.specs.Denotes.{tree_of}
use Rattle.json_diff.proofs.DiffDocument.{leads_in, same_in, few_in}
use Rattle.json_diff.proofs.between.diff.Goals as goal

pub returns-clause-leads : goal.returns-clause-leads
returns-clause-leads c = IfOk-weaker c.between.result _ _ (λ p. leads_in (tree_of c.args.from.now) (tree_of c.args.to.now) (tree_of p)) c.between.ensures.ok

pub returns-clause-same : goal.returns-clause-same
returns-clause-same c = IfOk-weaker c.between.result _ _ (λ p. same_in (tree_of c.args.from.now) (tree_of c.args.to.now) (tree_of p)) c.between.ensures.ok

pub returns-clause-few : goal.returns-clause-few
returns-clause-few c = IfOk-weaker c.between.result _ _ (λ p. few_in (tree_of c.args.from.now) (tree_of c.args.to.now) (tree_of p)) c.between.ensures.ok
