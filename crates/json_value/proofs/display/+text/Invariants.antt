use Rattle.std.proofs.Common.{◌≡◌, ◌+◌, ◌*◌, drop}
use Rattle.std.specs.Fmt.{HasWritten, IsPlainFormatter}
use Rattle.json_grammar.specs.Sizes.{nodes}
use Rattle.json_grammar.specs.Tree.{list, list_trees, pairs, list_pairs}
use Rattle.json_value.specs.Left.{elements_left, members_left}
use Rattle.json_value.specs.Seen.{seen, elements_seen, members_seen}
use Rattle.json_value.proofs.CompactTexts.{array_text, object_text}
use Rattle.json_value.proofs.display.+text.Given as goal

abbrev pub decreases-show : goal.decreases-show
decreases-show g l = 2 * nodes (seen l.view) + 1

abbrev pub decreases-display_elements : goal.decreases-display_elements
decreases-display_elements g l = 2 * nodes (list (list_trees (elements_seen l.array)))

abbrev pub decreases-display_members : goal.decreases-display_members
decreases-display_members g l = 2 * nodes (pairs (list_pairs (members_seen l.object)))

abbrev pub invariant-display_elements-elements : goal.invariant-display_elements-elements
invariant-display_elements-elements g l =
    (drop l.i (elements_seen l.fn.array) ≡ elements_left l.elements) × (IsPlainFormatter l.fn.f → HasWritten g.W.Write.write_str_gives l.fn.f (array_text (elements_seen l.fn.array) l.i) l.f)

abbrev pub invariant-display_members-members : goal.invariant-display_members-members
invariant-display_members-members g l =
    (drop l.i (members_seen l.fn.object) ≡ members_left l.members) × (IsPlainFormatter l.fn.f → HasWritten g.W.Write.write_str_gives l.fn.f (object_text (members_seen l.fn.object) l.i) l.f)
