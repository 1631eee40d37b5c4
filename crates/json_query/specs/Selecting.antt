-- What queries select: the nodelist of each part (RFC 9535, sections 2.1.2, 2.3 and 2.5).
use Rattle.std.specs.Prelude.{List, [], ◌∷◌, flat_map, option_to_list}
use Rattle.json_grammar.specs.Tree.{Tree}
use Rattle.json_query.specs.Nodes.{Node, Nodelist, root_of, elements, children, named, visited}
use Rattle.json_query.specs.Query.{Query, Segment, child_segment, descendant_segment, Selector, name_selector, wildcard_selector, index_selector, slice_selector}
use Rattle.json_query.specs.Slices.{item_at, slice_items}

-- the members of the name (section 2.3.1.2), all children (2.3.2.2), the element of the index
-- (2.3.3.2) or the elements of the slice (2.3.4.2)
abbrev pub selector_nodes : Selector → Node → Nodelist
selector_nodes (name_selector k) n = named k n
selector_nodes wildcard_selector n = children n
selector_nodes (index_selector i) n = option_to_list (item_at i (elements n))
selector_nodes (slice_selector start end step) n = slice_items start end step (elements n)

-- what the first selector selects, and then the others (section 2.5.1.2)
abbrev pub selectors_nodes : List Selector → Node → Nodelist
selectors_nodes ss n = flat_map (λ s. selector_nodes s n) ss

-- the selectors are applied to the node (section 2.5.1.2), or to it and each of its descendants
-- (section 2.5.2.2)
abbrev pub segment_nodes : Segment → Node → Nodelist
segment_nodes (child_segment ss) n = selectors_nodes ss n
segment_nodes (descendant_segment ss) n = flat_map (selectors_nodes ss) (visited n)

-- each segment is applied to each node that those before it select (section 2.1.2)
abbrev pub segments_nodes : List Segment → Nodelist → Nodelist
segments_nodes [] ns = ns
segments_nodes (s ∷ ss) ns = segments_nodes ss (flat_map (segment_nodes s) ns)

-- the nodelist that a query selects of a query argument (section 2.1.2)
abbrev pub selected : Query → Tree → Nodelist
selected q t = segments_nodes q (root_of t ∷ [])
