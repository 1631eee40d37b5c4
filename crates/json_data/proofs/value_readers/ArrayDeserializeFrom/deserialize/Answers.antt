use Rattle.std.proofs.Common.{subst}
use Rattle.json_data.proofs.value_readers.ArrayDeserializeFrom.deserialize.Goals as goal

pub returns-clause-place : goal.returns-clause-place
returns-clause-place g c = c.peek.ensures.place _ (subst (g.T.Tokens.placed c.peek.new.self) c.in-Some.ensures.array c.in_ok-value.ensures.place)
