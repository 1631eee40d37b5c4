use Rattle.std.proofs.Common.{◌≡◌}
use Rattle.json_doc.specs.Left.{pairs_left}
use Rattle.json_value.specs.Seen.{first_of}
use Rattle.json_lines.proofs.paths.find_packed_member.Given as goal

abbrev pub invariant-loop-name : goal.invariant-loop-name
invariant-loop-name l =
    (goal.iterator-loop-name).can_next l.name-iterator × (goal.iterator-loop-name).is_finite l.name-iterator
    × (first_of l.key (pairs_left l.fn.members) ≡ first_of l.key (pairs_left l.name-iterator))
