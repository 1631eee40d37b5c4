use Rattle.std.proofs.Common.{◌≡◌, [], map}
use Rattle.json_grammar.specs.Tree.{no_pairs, list_pairs}
use Rattle.json_value.specs.Denotes.{pair_of}
use Rattle.json_model.specs.Merged.{inserted_all}
use Rattle.json_value.specs.Merged.{with_members}
use Rattle.json_value.proofs.value.Value.from_pairs.Given as goal

abbrev pub invariant-loop-pair : goal.invariant-loop-pair
invariant-loop-pair l = record {
  trees : inserted_all (map pair_of l.yielded) no_pairs ≡ list_pairs (map pair_of l.members.items);
  members : with_members l.yielded [] ≡ l.members.items;
}
