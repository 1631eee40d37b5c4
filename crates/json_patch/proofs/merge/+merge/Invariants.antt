use Rattle.std.proofs.Common.{◌≡◌, ◌+◌, ◌*◌, ◌≤◌, map}
use Rattle.json_grammar.specs.Sizes.{nodes, pairs_nodes}
use Rattle.json_grammar.specs.Tree.{list_pairs}
use Rattle.json_patch.specs.KeyIndex.{HasStarts}
use Rattle.json_patch.specs.Merge.{pairs_merged}
use Rattle.json_value.specs.Denotes.{pair_of}
use Rattle.json_value.specs.Left.{members_left}
use Rattle.json_value.specs.Seen.{seen, members_seen}
use Rattle.json_patch.proofs.merge.+merge.Given as goal

abbrev pub decreases-merge_in : goal.decreases-merge_in
decreases-merge_in l = 5 * nodes (seen l.patch)

abbrev pub decreases-merge_object_in : goal.decreases-merge_object_in
decreases-merge_object_in l = 5 * pairs_nodes (list_pairs (members_seen l.members)) + 4

abbrev pub decreases-merge_object : goal.decreases-merge_object
decreases-merge_object l = 5 * pairs_nodes (list_pairs (members_seen l.members)) + 3

abbrev pub decreases-merge_members : goal.decreases-merge_members
decreases-merge_members l = 5 * pairs_nodes (list_pairs (members_seen l.members)) + 2

abbrev pub decreases-merge_member : goal.decreases-merge_member
decreases-merge_member l = 5 * nodes (seen l.value) + 2

abbrev pub decreases-merge_value : goal.decreases-merge_value
decreases-merge_value l = 5 * nodes (seen l.value) + 1

-- the members left are merged into the pairs so far
abbrev pub invariant-merge_members-members : goal.invariant-merge_members-members
invariant-merge_members-members l =
    let qs = members_seen l.fn.members in let left = members_left l.key-iterator in
    (pairs_merged (list_pairs (map pair_of l.fn.pairs.items)) (list_pairs qs) ≡ pairs_merged (list_pairs (map pair_of l.pairs.items)) (list_pairs left))
    × (pairs_nodes (list_pairs left) ≤ pairs_nodes (list_pairs qs))
    × HasStarts l.index l.pairs.items
