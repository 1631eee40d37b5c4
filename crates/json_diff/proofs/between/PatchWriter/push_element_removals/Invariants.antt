use Rattle.std.proofs.Common.{map, drop}
use Rattle.json_diff.specs.Diff.{element_removals}
use Rattle.json_value.specs.Seen.{seen}
use Rattle.json_diff.proofs.DiffWriting.{Remains}
use Rattle.json_diff.proofs.between.PatchWriter.push_element_removals.Given as goal

-- the operations for the elements left
abbrev pub invariant-elements : goal.invariant-elements
invariant-elements l = Remains l.fn.self l.self (element_removals l.index (drop l._element-index (map seen l.elements))) (element_removals l.index (map seen l.elements))
