-- One step of a reader, from one place to the next.
use Rattle.std.specs.Prelude.{◌≡◌, ℕ, ◌≤◌, List, length, Bool}
use Rattle.json_grammar.specs.declared.Kind.{Kind}
use Rattle.json_grammar.specs.declared.ExpectedPart.{ExpectedPart}
use Rattle.json_grammar.specs.declared.ExpectedPart.TheVariants as expected
use Rattle.json_grammar.specs.Tree.{Tree, depth, Token, tokens}
use Rattle.json_grammar.specs.Grammar.{is_text}
use Rattle.json_grammar.specs.Given.{piece}
use Rattle.json_grammar.specs.Needs.{IsGap}
use Rattle.json_text.specs.declared.event.Event.{Event}
use Rattle.json_text.specs.declared.event.Event.TheVariants as event
use Rattle.json_text.specs.Events.{ReadsToken, TokenAt}
use Rattle.json_text.specs.Readers.{ReaderAt}

-- a value was read, and nothing is open
abbrev pub IsDone : ExpectedPart → List Kind → Type 0
IsDone w c = (w ≡ expected.Done) × (length c ≡ 0)

-- one more token was read, or the end was reached: then the input is a text of the tree of the tokens read, within the limit, and nothing is taken
abbrev pub Advances : Bool → ℕ → List ℕ → ℕ → List Kind → ExpectedPart → Event → ℕ → List Kind → ExpectedPart → Type 0
Advances lossy limit b i c w event.End j c' w' = (j ≡ i) × (c' ≡ c) × (w' ≡ w) × ((ts : List Token) → ReaderAt lossy limit b i c w ts → (t : Tree) × is_text lossy t b × (ts ≡ tokens t) × (depth t ≤ limit))
Advances lossy limit b i c w e j c' w' = ReadsToken lossy limit b i c w e j c' w'

-- a gap and then the event's token follow from i on, byte for byte, up to j
abbrev pub TokenAfterGap : Bool → List ℕ → ℕ → Event → ℕ → Type 0
TokenAfterGap lossy b i event.End j = Unit {0}
TokenAfterGap lossy b i e j = (k : ℕ) × (i ≤ k) × IsGap (piece b i k) × TokenAt lossy b k e j
