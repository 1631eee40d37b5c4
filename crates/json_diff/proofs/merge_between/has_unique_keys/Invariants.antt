use Rattle.std.proofs.Common.{◌≡◌}
use Rattle.json_grammar.specs.Tree.{list_pairs}
use Rattle.json_value.specs.Left.{members_left}
use Rattle.json_value.specs.Seen.{members_seen}
use Rattle.json_diff.proofs.UniqueKeys.{are_single}
use Rattle.json_diff.proofs.merge_between.has_unique_keys.Given as goal

-- the members so far have keys of their own
abbrev pub invariant-members : goal.invariant-members
invariant-members l = let qs = list_pairs (members_seen l.fn.object) in are_single qs qs ≡ are_single qs (list_pairs (members_left l.key-iterator))
