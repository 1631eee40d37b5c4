use Rattle.std.proofs.Common.{◌≡◌, ◌++◌, length, map}
use Rattle.json_doc.specs.Left.{pairs_doc, places_of_pairs, pairs_left}
use Rattle.json_value.specs.Denotes.{pair_of}
use Rattle.json_value.specs.Positions.{member_positions, read_member_positions}
use Rattle.json_value.proofs.object.unpack_members.Given as goal

abbrev pub decreases-loop-key : goal.decreases-loop-key
decreases-loop-key l = length (pairs_left l.members)

abbrev pub invariant-loop-key : goal.invariant-loop-key
invariant-loop-key l =
    (pairs_doc l.members ≡ l.doc.value) × (map pair_of l.list.items ++ pairs_left l.members ≡ pairs_left l.fn.members)
    × (map member_positions l.list.items ++ map (read_member_positions l.doc.value) (places_of_pairs l.members) ≡ map (read_member_positions l.doc.value) (places_of_pairs l.fn.members))
