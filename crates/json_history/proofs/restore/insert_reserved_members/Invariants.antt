use Rattle.std.proofs.Common.{◌≡◌, ◌+◌, ◌≤◌, map, length}
use Rattle.std.specs.Vec.{vec_len, vec_capacity}
use Rattle.std.specs.Vec.Iter.{into_iter_items}
use Rattle.json_grammar.specs.Tree.{list_pairs}
use Rattle.json_value.specs.Denotes.{pair_of}
use Rattle.json_history.specs.Change.{insert_members}
use Rattle.json_history.specs.ChangeTrees.{removed_member}
use Rattle.json_history.specs.Restores.{with_restored_members}
use Rattle.json_history.proofs.restore.insert_reserved_members.Given as goal

abbrev pub invariant-loop-index : goal.invariant-loop-index
invariant-loop-index l = record {
  done : insert_members (map removed_member (into_iter_items l.index-iterator)) (list_pairs (map pair_of l.pairs.items)) ≡ insert_members (map removed_member l.fn.members.items) (list_pairs (map pair_of l.fn.pairs.items));
  items : with_restored_members (into_iter_items l.index-iterator) l.pairs.items ≡ with_restored_members l.fn.members.items l.fn.pairs.items;
  room : vec_len l.pairs + length (into_iter_items l.index-iterator) ≤ vec_capacity l.pairs;
}
