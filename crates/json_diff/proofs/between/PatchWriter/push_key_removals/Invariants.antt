use Rattle.json_grammar.specs.Tree.{list_pairs}
use Rattle.json_diff.specs.Diff.{key_removals}
use Rattle.json_value.specs.Left.{members_left}
use Rattle.json_value.specs.Seen.{members_seen}
use Rattle.json_diff.proofs.DiffWriting.{Remains}
use Rattle.json_diff.proofs.between.PatchWriter.push_key_removals.Given as goal

-- the operations for the members left
abbrev pub invariant-members : goal.invariant-members
invariant-members l = let qs = list_pairs (members_seen l.fn.to) in Remains l.fn.self l.self (key_removals qs (list_pairs (members_left l.key-iterator))) (key_removals qs (list_pairs (members_seen l.fn.from)))
