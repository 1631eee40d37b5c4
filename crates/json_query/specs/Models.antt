-- Which query of the definitions a query of the code is.
use Rattle.std.specs.Prelude.{List, map, string_bytes}
use Rattle.json_query.specs.Query.{Query, Segment, child_segment, descendant_segment, Selector, name_selector, wildcard_selector, index_selector, slice_selector}
use Rattle.json_query.specs.declared.query.Query.{Query as QueryValue}
use Rattle.json_query.specs.declared.query.Segment.{Segment as SegmentValue}
use Rattle.json_query.specs.declared.query.Segment.TheVariants as segment
use Rattle.json_query.specs.declared.query.Selector.{Selector as SelectorValue}
use Rattle.json_query.specs.declared.query.Selector.TheVariants as selector

abbrev pub selector_of : SelectorValue → Selector
selector_of (selector.Name k) = name_selector (string_bytes k)
selector_of selector.Wildcard = wildcard_selector
selector_of (selector.Index i) = index_selector i
selector_of (selector.Slice s) = slice_selector s.start s.end s.step

-- the segment of these selectors that selects of children, and of all that is below
abbrev pub children_by : List SelectorValue → Segment
children_by ss = child_segment (map selector_of ss)

abbrev pub descendants_by : List SelectorValue → Segment
descendants_by ss = descendant_segment (map selector_of ss)

abbrev pub segment_of : SegmentValue → Segment
segment_of (segment.Child ss) = children_by ss.items
segment_of (segment.Descendant ss) = descendants_by ss.items

abbrev pub query_of : QueryValue → Query
query_of q = map segment_of q.segments.items
