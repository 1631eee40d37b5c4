-- A sink that holds bytes back.
use Rattle.std.specs.Prelude.{ℕ, List, ◌||◌, ◌≡◌, ◌+◌, ◌++◌, length, take}
use Rattle.json_io.specs.Known.{append_known}
use Rattle.json_io.specs.Outside.{SinkState}
use Rattle.json_layout.specs.Pieces.{holds_any}

-- the inner sink's bytes and then those that are held
abbrev pub held_after : SinkState → List ℕ → SinkState
held_after inner held = record { gained = append_known inner.gained held; faults = inner.faults; lacks = inner.lacks; unflushed = holds_any held || inner.unflushed; loan = inner.loan }

-- the bytes of a piece follow the first bytes of a buffer
abbrev pub StoresPiece : ℕ → List ℕ → (old new : List ℕ) → Type 0
StoresPiece at piece old new = take (at + length piece) new ≡ take at old ++ piece
