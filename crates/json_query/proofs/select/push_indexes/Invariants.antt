use Rattle.std.proofs.Common.{◌≡◌, ◌-◌, ◌≤◌, ◌++◌, map, length}
use Rattle.json_query.specs.Indexes.{is_index}
use Rattle.json_query.specs.Slices.{items_from}
use Rattle.json_query.specs.ViewedNodes.{viewed, elements_viewed}
use Rattle.json_query.proofs.ViewedParts.{elements_to_view}
use Rattle.json_query.proofs.select.push_indexes.Given as goal

-- the elements so far, and those left that have one of the indexes
abbrev pub invariant-elements : goal.invariant-elements
invariant-elements l = record {
  so_far : map viewed l.found.items ++ items_from (is_index l.fn.indexes) (l.len - l.left) (elements_to_view l.element-iterator) ≡ map viewed l.fn.found.items ++ items_from (is_index l.fn.indexes) 0 (elements_viewed l.fn.array);
  count : l.left ≡ length (elements_to_view l.element-iterator);
  within : l.left ≤ l.len;
}
