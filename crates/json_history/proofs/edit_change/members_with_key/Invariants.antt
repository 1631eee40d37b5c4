use Rattle.std.proofs.Common.{◌≡◌, ◌≤◌, ◌-◌, ◌++◌, drop, length, map}
use Rattle.std.specs.List.{All}
use Rattle.json_grammar.specs.Tree.{list_pairs}
use Rattle.json_value.specs.Left.{members_left, members_targets_left}
use Rattle.json_value.specs.Seen.{members_seen}
use Rattle.json_value.specs.TargetParts.{members_targets}
use Rattle.json_history.specs.Change.{members_named}
use Rattle.json_history.specs.ChangeTrees.{removed_member}
use Rattle.json_history.specs.SharedParts.{MemberShares}
use Rattle.json_history.proofs.edit_change.members_with_key.Given as goal

abbrev pub invariant-loop-name : goal.invariant-loop-name
invariant-loop-name l = record {
  again : (goal.iterator-loop-name).can_next l.name-iterator;
  ends : (goal.iterator-loop-name).is_finite l.name-iterator;
  count : l.left ≡ length (members_left l.name-iterator);
  below : l.left ≤ l.len;
  members : map removed_member l.list.items ++ members_named (l.len - l.left) l.key (list_pairs (members_left l.name-iterator)) ≡ members_named 0 l.key (list_pairs (members_seen l.fn.object));
  targets : members_targets_left l.name-iterator ≡ drop (l.len - l.left) (members_targets l.fn.object);
  shares : All (MemberShares (members_targets l.fn.object)) l.list.items;
}
