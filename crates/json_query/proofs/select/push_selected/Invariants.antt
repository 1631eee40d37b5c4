use Rattle.std.proofs.Common.{◌≡◌, ◌++◌, map, drop}
use Rattle.json_query.specs.Models.{children_by}
use Rattle.json_query.specs.ViewedNodes.{viewed, segment_viewed}
use Rattle.json_query.proofs.select.push_selected.Given as goal

-- what is selected so far, and by the selectors left
abbrev pub invariant-loop-selector : goal.invariant-loop-selector
invariant-loop-selector l =
    map viewed l.found.items ++ segment_viewed (children_by (drop l.selector-index l.selectors)) (viewed l.fn.view) ≡ map viewed l.fn.found.items ++ segment_viewed (children_by l.selectors) (viewed l.fn.view)
