use Rattle.std.proofs.Common.{subst}
use Rattle.json_value.specs.Denotes.{tree_of, pairs_in}
use Rattle.json_tokens.proofs.Steps.{peek_tree}
use Rattle.json_data.proofs.ValueData.{object_read}
use Rattle.json_data.proofs.value_readers.ObjectDeserializeFrom.deserialize.Goals as goal

pub returns-clause-ok : goal.returns-clause-ok
returns-clause-ok g c = record {
  tree = tree_of c.in_ok-value.field-0;
  takes = peek_tree c.in_ok-peek.ensures.ok c.in_ok-peek.ensures.none c.in_ok-value.ensures.ok;
  answer = object_read (tree_of c.in_ok-value.field-0) (pairs_in c.in-Some.object) c.in-Some.ensures.pairs;
}

pub returns-clause-place : goal.returns-clause-place
returns-clause-place g c = c.peek.ensures.place _ (subst (g.T.Tokens.placed c.peek.new.self) c.in-Some.ensures.object c.in_ok-value.ensures.place)
