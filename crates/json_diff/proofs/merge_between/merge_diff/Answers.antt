use Rattle.std.proofs.lemmas.Result.{IfOk-weaker}
use Rattle.json_value.specs.Denotes.{tree_of}
use Rattle.json_diff.proofs.MergeDiffViews.{leads_in, same_in, none_in}
use Rattle.json_diff.proofs.merge_between.merge_diff.Goals as goal

pub returns-clause-leads : goal.returns-clause-leads
returns-clause-leads c = IfOk-weaker c.between.result _ _ (leads_in (tree_of c.args.from.now) (tree_of c.args.to.now)) c.between.ensures.ok

pub returns-clause-same : goal.returns-clause-same
returns-clause-same c = IfOk-weaker c.between.result _ _ (same_in (tree_of c.args.from.now) (tree_of c.args.to.now)) c.between.ensures.ok

pub returns-clause-none : goal.returns-clause-none
returns-clause-none c = IfOk-weaker c.between.result _ _ (none_in (tree_of c.args.from.now) (tree_of c.args.to.now)) c.between.ensures.ok
