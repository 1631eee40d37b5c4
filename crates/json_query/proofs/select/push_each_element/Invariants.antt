use Rattle.std.proofs.Common.{◌≡◌, ◌++◌, map}
use Rattle.json_query.specs.ViewedNodes.{viewed, elements_viewed}
use Rattle.json_query.proofs.ViewedParts.{elements_to_view}
use Rattle.json_query.proofs.select.push_each_element.Given as goal

-- the elements so far, and those left
abbrev pub invariant-elements : goal.invariant-elements
invariant-elements l = map viewed l.found.items ++ elements_to_view l.element-iterator ≡ map viewed l.fn.found.items ++ elements_viewed l.fn.array
