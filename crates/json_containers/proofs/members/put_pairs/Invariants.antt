use Rattle.std.proofs.Common.{◌≡◌, ◌+◌, ◌≤◌, map, length}
use Rattle.std.specs.Vec.{vec_len, vec_capacity}
use Rattle.std.specs.Vec.Iter.{into_iter_items}
use Rattle.json_grammar.specs.Tree.{list_pairs}
use Rattle.json_value.specs.Denotes.{pair_of}
use Rattle.json_model.specs.Merged.{inserted_all}
use Rattle.json_value.specs.Merged.{with_members}
use Rattle.json_containers.proofs.members.put_pairs.Given as goal

abbrev pub invariant-loop-pair : goal.invariant-loop-pair
invariant-loop-pair l = record {
  done : inserted_all (map pair_of (into_iter_items l.pair-iterator)) (list_pairs (map pair_of l.pairs.items)) ≡ inserted_all (map pair_of l.fn.more.items) (list_pairs (map pair_of l.fn.pairs.items));
  members : with_members (into_iter_items l.pair-iterator) l.pairs.items ≡ with_members l.fn.more.items l.fn.pairs.items;
  room : vec_len l.pairs + length (into_iter_items l.pair-iterator) ≤ vec_capacity l.pairs;
}
