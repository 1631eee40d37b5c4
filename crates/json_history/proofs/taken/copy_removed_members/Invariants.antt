use Rattle.std.proofs.Common.{◌≡◌, take, map}
use Rattle.json_history.specs.ChangeTrees.{removed_member}
use Rattle.json_history.specs.Restores.{member_origin}
use Rattle.json_history.proofs.taken.copy_removed_members.Given as goal

abbrev pub invariant-loop-member : goal.invariant-loop-member
invariant-loop-member l = record {
  members : map removed_member l.copies.items ≡ map removed_member (take l.member-index l.taken.list.items);
  origins : map member_origin l.copies.items ≡ map member_origin (take l.member-index l.taken.list.items);
}
