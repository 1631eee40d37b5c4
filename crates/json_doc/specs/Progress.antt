-- What a reader of a whole text keeps.
use Rattle.std.specs.Prelude.{◌≡◌, ℕ, ◌+◌, ◌/◌, List, length, false, None}
use Rattle.json_grammar.specs.declared.Kind.{Kind}
use Rattle.json_grammar.specs.declared.ExpectedPart.{ExpectedPart}
use Rattle.json_grammar.specs.Tree.{Token}
use Rattle.json_text.specs.Parsing.{ParserState, state_of, HasGiven}
use Rattle.json_doc.specs.Reading.{Follows}
use Rattle.json_doc.specs.Recorded.{visitor_state}
use Rattle.json_doc.specs.declared.document_visitor.DocumentVisitor.{DocumentVisitor}

-- the parser has read a text up to here, and the builder was given the same tokens
pub record AreInStep (most : ℕ) (p : ParserState) (v : DocumentVisitor) (b : List ℕ) (ts : List Token) : Type 0 where
  pub reads : p.text ≡ b
  pub start : p.start ≡ 0
  pub limit : p.limit ≡ most
  pub strict : p.lossy ≡ false
  pub unfailed : p.failure ≡ None
  pub gave : HasGiven p ts
  pub follows : Follows v ts
  pub room : (visitor_state v).cell_room ≡ (length b + 1) / 2
  pub text_room : (visitor_state v).text_room ≡ length b

-- some tokens of the text b were read up to i, where the containers c are open and the state is w,
-- and the builder was given them
pub record IsReading (limit : ℕ) (b : List ℕ) (i : ℕ) (c : List Kind) (w : ExpectedPart) (v : DocumentVisitor) : Type 0 where
  pub most : ℕ
  pub so_far : List Token
  pub kept : AreInStep most (state_of b 0 false limit i c w None) v b so_far
