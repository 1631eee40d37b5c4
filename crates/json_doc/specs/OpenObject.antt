-- An object that is open in a builder of documents, with a key recorded last.
use Rattle.std.specs.Prelude.{◌≡◌, ℕ, ◌+◌, List, Some, length, slice_get}
use Rattle.json_grammar.specs.Tree.{Pairs}
use Rattle.json_doc.specs.Segment.{SegmentAt, text_cell, pairs_row}
use Rattle.json_doc.specs.declared.cell.Cell.{Cell}

-- the cell at a place names the bytes of a text
abbrev pub NamesText : List Cell → List ℕ → ℕ → List ℕ → Type 0
NamesText cells bytes at s = (c : Cell) × (slice_get cells at ≡ Some c) × text_cell bytes c s

-- these members are from a place up to an end
abbrev pub MembersAt : List Cell → List ℕ → ℕ → Pairs → ℕ → Type 0
MembersAt cells bytes at ps end = (cs : List Cell) × SegmentAt cells at cs × pairs_row bytes at cs ps × (at + length cs ≡ end)

-- and there a key
abbrev pub MembersThenKey : List Cell → List ℕ → ℕ → Pairs → ℕ → List ℕ → Type 0
MembersThenKey cells bytes at ps end s = MembersAt cells bytes at ps end × NamesText cells bytes end s
