use Rattle.std.proofs.Common.{arith}
use Rattle.json_print.proofs.Members.{member_within, member_row}
use Rattle.json_print.proofs.sorted.SortedObject.row.Goals as goal

pub range-key-requires-clause-start_le_end : goal.range-key-requires-clause-start_le_end
range-key-requires-clause-start_le_end c = let w = member_within _ _ _ _ _ _ _ _ c.self.invariant c.self.view_is c.requires c.index-member.ensures in w.key_order

pub range-key-requires-clause-start_boundary : goal.range-key-requires-clause-start_boundary
range-key-requires-clause-start_boundary c = let w = member_within _ _ _ _ _ _ _ _ c.self.invariant c.self.view_is c.requires c.index-member.ensures in λ _. rw c.deref.ensures w.key_begins

pub range-key-requires-clause-end_boundary : goal.range-key-requires-clause-end_boundary
range-key-requires-clause-end_boundary c = let w = member_within _ _ _ _ _ _ _ _ c.self.invariant c.self.view_is c.requires c.index-member.ensures in rw c.deref.ensures w.key_ends

pub slice_bounds-text-count : goal.slice_bounds-text-count
slice_bounds-text-count c = let w = member_within _ _ _ _ _ _ _ _ c.self.invariant c.self.view_is c.requires c.index-member.ensures in omega (arith, w.text_order)

pub slice_bounds-text-start : goal.slice_bounds-text-start
slice_bounds-text-start c = let w = member_within _ _ _ _ _ _ _ _ c.self.invariant c.self.view_is c.requires c.index-member.ensures in omega (arith, w.text_order)

pub slice_bounds-text-end : goal.slice_bounds-text-end
slice_bounds-text-end c = let w = member_within _ _ _ _ _ _ _ _ c.self.invariant c.self.view_is c.requires c.index-member.ensures in omega (arith, w.text_within, c.deref-2.ensures.len)

pub returns : goal.returns
returns c = rw (c.range-key.ensures.value, c.deref.ensures, c.deref-2.ensures.value) (member_row _ _ _ _ _ _ _ _ c.self.view_is c.requires c.index-member.ensures)
