use Rattle.std.proofs.Common.{◌∙◌}
use Rattle.json_value.specs.Seen.{seen, elements_seen}
use Rattle.json_rpc.proofs.PositionalParams.{param_of_list, param_by_name}
use Rattle.json_rpc.proofs.params.param_at.Goals as goal

pub returns-in-Some : goal.returns-in-Some
returns-in-Some c = c.get.ensures.tree ∙ param_of_list (seen c.args.params) (elements_seen c.in-Some.array) c.args.position c.args.name.now c.in-Some.ensures.trees

pub returns-in-None : goal.returns-in-None
returns-in-None c = c.get-in-None.ensures.tree ∙ param_by_name (seen c.args.params) c.args.position c.args.name.now c.in-None.ensures.trees
