use Rattle.std.proofs.Common.{◌∙◌}
use Rattle.json_value.specs.Seen.{seen, elements_seen}
use Rattle.json_rpc.proofs.PositionalParams.{count_of_list, count_of_no_list}
use Rattle.json_rpc.proofs.params.param_count.Goals as goal

pub returns-in-Some : goal.returns-in-Some
returns-in-Some c = c.len.ensures ∙ count_of_list (seen c.args.params) (elements_seen c.in-Some.array) c.in-Some.ensures.trees

pub returns-in-None : goal.returns-in-None
returns-in-None c = c.member_count.ensures ∙ count_of_no_list (seen c.args.params) c.in-None.ensures.trees
