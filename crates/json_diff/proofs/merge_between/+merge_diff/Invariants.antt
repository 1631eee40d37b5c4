use Rattle.std.proofs.Common.{◌≡◌, ◌+◌, ◌*◌, ◌≤◌, map, Some}
use Rattle.json_grammar.specs.Sizes.{nodes, pairs_nodes}
use Rattle.json_grammar.specs.Tree.{list_pairs}
use Rattle.json_diff.specs.MergeDiff.{appended, changes}
use Rattle.json_diff.specs.MergeDiffViews.{members_in}
use Rattle.json_value.specs.Denotes.{pair_of}
use Rattle.json_value.specs.Left.{members_left}
use Rattle.json_value.specs.Seen.{seen, members_seen}
use Rattle.json_diff.proofs.merge_between.+merge_diff.Given as goal

abbrev pub decreases-changed_member : goal.decreases-changed_member
decreases-changed_member l = 5 * nodes (seen l.new)

abbrev pub decreases-object_patch : goal.decreases-object_patch
decreases-object_patch l = 5 * pairs_nodes (list_pairs (members_seen l.to)) + 4

abbrev pub decreases-members_between : goal.decreases-members_between
decreases-members_between l = 5 * pairs_nodes (list_pairs (members_seen l.to)) + 3

abbrev pub decreases-push_changes : goal.decreases-push_changes
decreases-push_changes l = 5 * pairs_nodes (list_pairs (members_seen l.to)) + 2

abbrev pub decreases-push_change : goal.decreases-push_change
decreases-push_change l = 5 * nodes (seen l.new) + 1

-- the changes so far, and those of the members left
abbrev pub invariant-push_changes-members : goal.invariant-push_changes-members
invariant-push_changes-members l =
    let qs = members_seen l.fn.to in let left = members_left l.key-iterator in
    (appended (Some (map pair_of l.fn.members.items)) (changes (members_in l.fn.from) (list_pairs qs)) ≡ appended (Some (map pair_of l.members.items)) (changes (members_in l.fn.from) (list_pairs left)))
    × (pairs_nodes (list_pairs left) ≤ pairs_nodes (list_pairs qs))
