use Rattle.std.proofs.Common.{◌≡◌, ◌++◌, map}
use Rattle.json_value.specs.Left.{elements_left}
use Rattle.json_value.specs.Seen.{seen, elements_seen}
use Rattle.json_diff.proofs.between.collect_elements.Given as goal

-- the elements so far, and those left
abbrev pub invariant-elements : goal.invariant-elements
invariant-elements l = map seen l.elements.items ++ elements_left l.element-iterator ≡ elements_seen l.fn.array
