use Rattle.std.proofs.Common.{◌∙◌}
use Rattle.json_value.specs.Seen.{seen, members_seen}
use Rattle.json_rpc.proofs.PositionalParams.{count_of_object, count_of_no_object}
use Rattle.json_rpc.proofs.params.member_count.Goals as goal

pub returns-in-Some : goal.returns-in-Some
returns-in-Some c = c.len.ensures ∙ count_of_object (seen c.args.view) (members_seen c.in-Some.object) c.in-Some.ensures.trees

pub returns-in-None : goal.returns-in-None
returns-in-None c = count_of_no_object (seen c.args.view) c.in-None.ensures.trees
