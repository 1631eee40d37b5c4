-- Queries without filters (RFC 9535, section 2), by their parts. A query is its segments, which
-- begin at `$`.
use Rattle.std.specs.Prelude.{ℕ, ℤ, List, Option}

-- a selector: a name, all children, an index, or a slice by its start, its end and its step
-- (section 2.3). A slice without a step has the step 1.
pub data Selector : Type 0 where
  name_selector : List ℕ → Selector
  wildcard_selector : Selector
  index_selector : ℤ → Selector
  slice_selector : Option ℤ → Option ℤ → ℤ → Selector

-- a segment selects of children, or of a node and all that is below it, by its selectors in their
-- order (section 2.5)
pub data Segment : Type 0 where
  child_segment : List Selector → Segment
  descendant_segment : List Selector → Segment

-- segments, one after another (section 2.1.1)
abbrev pub Query : Type 0
Query = List Segment
