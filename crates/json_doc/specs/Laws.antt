-- Laws of documents.
use Rattle.std.specs.Prelude.{◌≡◌, ℕ, ◌+◌, ◌/◌, ◌<◌, ◌≤◌, List, ◌∷◌, ◌++◌, length, Bool, false}
use Rattle.json_grammar.specs.declared.Kind.{Kind}
use Rattle.json_grammar.specs.declared.ExpectedPart.{ExpectedPart}
use Rattle.json_grammar.specs.Tree.{Tree, Token, tokens}
use Rattle.json_grammar.specs.Grammar.{is_text}
use Rattle.json_grammar.specs.Proper.{IsProper}
use Rattle.json_grammar.specs.Sizes.{token_nodes}
use Rattle.json_grammar.specs.Place.{reading}
use Rattle.json_grammar.specs.TokenStates.{BeginsTree}
use Rattle.json_doc.specs.State.{Fits}
use Rattle.json_doc.specs.Recorded.{visitor_state, Holds}
use Rattle.json_doc.specs.Docs.{doc_cells, doc_root, IsDocOf, doc_tree}
use Rattle.json_doc.specs.declared.doc.Doc.{Doc}
use Rattle.json_doc.specs.declared.document_visitor.DocumentVisitor.{DocumentVisitor}

-- a document represents at most one tree
abbrev pub OneTreeOfDoc : Type 0
OneTreeOfDoc = (d : Doc) (t u : Tree) → IsDocOf d t → IsDocOf d u → t ≡ u

-- the tree that a document represents is the one at its root
abbrev pub TreeAtRoot : Type 0
TreeAtRoot = (d : Doc) (t : Tree) → IsDocOf d t → doc_tree d (doc_root d) ≡ t

-- the tree at each place of a document is proper: its literals are numbers, and its texts and keys UTF-8
abbrev pub TreesAreProper : Doc → Type 0
TreesAreProper d = (at : ℕ) → at < length (doc_cells d) → IsProper (doc_tree d at)

-- what is read of a prefix begins the tokens of a tree
abbrev pub ReadingBegins : Type 0
ReadingBegins = (lossy : Bool) (p : List ℕ) (c : List Kind) (w : ExpectedPart) (ts : List Token) → reading lossy p c w ts → BeginsTree ts

-- a builder with the room that a text asks for records each event of the text: after the bytes p,
-- it adds at most one node, and m of the bytes r that follow
abbrev pub EventsFitRoom : Type 0
EventsFitRoom =
    (lossy : Bool) (v : DocumentVisitor) (p r : List ℕ) (c : List Kind) (w : ExpectedPart) (ts more : List Token) (x : Token) (t : Tree) (m : ℕ)
    → (visitor_state v).full ≡ false → (length (p ++ r) + 1) / 2 ≤ (visitor_state v).cell_room → length (p ++ r) ≤ (visitor_state v).text_room
    → Holds v ts → reading lossy p c w ts → is_text lossy t (p ++ r) → tokens t ≡ ts ++ x ∷ more → m ≤ length r → Fits (visitor_state v) (token_nodes x) m
