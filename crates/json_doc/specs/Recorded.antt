-- What a builder of documents has recorded.
use Rattle.std.specs.Prelude.{◌≡◌, ℕ, List, length, vec_capacity}
use Rattle.std.specs.Str.{IsUtf8}
use Rattle.json_grammar.specs.Tree.{Token}
use Rattle.json_grammar.specs.Sizes.{nodes_of}
use Rattle.json_doc.specs.State.{VisitorState}
use Rattle.json_grammar.specs.TokenStates.{initial_state, after_tokens}
use Rattle.json_doc.specs.Texts.{tokens_text}
use Rattle.json_doc.specs.Building.{BuilderState}
use Rattle.json_doc.specs.declared.cell.Cell.{Cell}
use Rattle.json_doc.specs.declared.document_visitor.DocumentVisitor.{DocumentVisitor}

-- its room, and how much of it is taken
abbrev pub visitor_state : DocumentVisitor → VisitorState
visitor_state v = record { cell_room = v.room; text_room = v.text_room; nodes = length v.cells.items; bytes = length v.text.items; full = v.full }

-- these cells and bytes were made of the tokens ts
pub record RecordsTokens (cells : List Cell) (bytes : List ℕ) (p n : ℕ) (ts : List Token) : Type 0 where
  pub built : BuilderState bytes cells p n (after_tokens initial_state ts) ts
  pub texts : bytes ≡ tokens_text ts
  pub utf8 : IsUtf8 bytes
  pub counted : length cells ≡ nodes_of ts

-- while no event was refused, the events so far were ts
abbrev pub Holds : DocumentVisitor → List Token → Type 0
Holds v ts = RecordsTokens v.cells.items v.text.items v.parent v.count ts

-- the room stays
abbrev pub SameRoom : DocumentVisitor → DocumentVisitor → Type 0
SameRoom old new = (new.room ≡ old.room) × (new.text_room ≡ old.text_room)

-- neither list grew: what each has room for in its memory stays
abbrev pub TakesNoMemory : DocumentVisitor → DocumentVisitor → Type 0
TakesNoMemory old new =
    (vec_capacity new.cells ≡ vec_capacity old.cells) × (vec_capacity new.text ≡ vec_capacity old.text)
