-- What clauses see of a builder, and what an event does to it.
use Rattle.std.specs.Prelude.{◌≡◌, ℕ, ◌+◌, ◌≤◌, List, [], ◌∷◌, ◌++◌, Bool, true, false, ◌↔◌, IsTrue}
use Rattle.json_grammar.specs.Tree.{Token}
use Rattle.json_grammar.specs.TokenStates.{BeginsTree}

-- the room for cells and for bytes of text, how many were recorded, and whether an event was refused
pub record VisitorState : Type 0 where
  pub cell_room : ℕ
  pub text_room : ℕ
  pub nodes : ℕ
  pub bytes : ℕ
  pub full : Bool

-- no event was refused, and n nodes and m bytes more are within the room
abbrev pub Fits : VisitorState → ℕ → ℕ → Type 0
Fits s n m = (s.full ≡ false) × (s.nodes + n ≤ s.cell_room) × (s.bytes + m ≤ s.text_room)

-- n nodes and m bytes more, where the event was recorded; else nothing is recorded any more
abbrev pub after_event : Bool → ℕ → ℕ → VisitorState → VisitorState
after_event true n m s = record s { nodes = s.nodes + n; bytes = s.bytes + m }
after_event false n m s = record s { full = true }

-- the token may follow what is held
abbrev pub MayComeAfter : (List Token → Type 0) → Token → Type 0
MayComeAfter holds x = (ts : List Token) × holds ts × BeginsTree (ts ++ x ∷ [])

-- what was held, and the token after it
abbrev pub HoldsMore : (List Token → Type 0) → (List Token → Type 0) → Token → Type 0
HoldsMore old new x = (ts : List Token) → old ts → BeginsTree (ts ++ x ∷ []) → new (ts ++ x ∷ [])

-- an event is recorded where n nodes and m bytes more are within the room
abbrev pub RecordedIfFits : ℕ → ℕ → VisitorState → Bool → Type 0
RecordedIfFits n m s recorded = IsTrue recorded ↔ Fits s n m

-- one node more, where the event was recorded
abbrev pub AddsNode : Bool → (old new : VisitorState) → Type 0
AddsNode recorded old new = new ≡ after_event recorded 1 0 old

-- no node more
abbrev pub AddsNoNode : Bool → (old new : VisitorState) → Type 0
AddsNoNode recorded old new = new ≡ after_event recorded 0 0 old
