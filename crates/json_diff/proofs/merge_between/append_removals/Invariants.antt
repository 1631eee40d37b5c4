use Rattle.std.proofs.Common.{◌≡◌, ◌++◌, map}
use Rattle.json_grammar.specs.Tree.{list_pairs}
use Rattle.json_diff.specs.MergeDiff.{removals}
use Rattle.json_value.specs.Denotes.{pair_of}
use Rattle.json_value.specs.Left.{members_left}
use Rattle.json_value.specs.Seen.{members_seen}
use Rattle.json_diff.proofs.merge_between.append_removals.Given as goal

-- the members so far, and those that the members left need
abbrev pub invariant-members : goal.invariant-members
invariant-members l = let qs = list_pairs (members_seen l.fn.to) in removals qs (list_pairs (members_seen l.fn.from)) ≡ map pair_of l.members.items ++ removals qs (list_pairs (members_left l.name-iterator))
