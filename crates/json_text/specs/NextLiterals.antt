-- Which literals and integers below 0 are next after what a reader took.
use Rattle.std.specs.Prelude.{◌≡◌, ℕ, ◌+◌, ◌<◌, ◌≤◌, List, length, true}
use Rattle.std.specs.Str.{all_ascii_digits}
use Rattle.std.specs.Str.Parse.{digits_value}
use Rattle.json_grammar.specs.declared.ExpectedPart.{ExpectedPart}
use Rattle.json_grammar.specs.Given.{piece}
use Rattle.json_grammar.specs.Place.{TakesValue}
use Rattle.json_text.specs.Literals.{WordTo}
use Rattle.json_text.specs.Nexts.{NextPart}
use Rattle.json_text.specs.Numbers.{NumberTo}
use Rattle.json_text.specs.Parsing.{ParserState, input}
use Rattle.json_scan.specs.Runs.{ByteAt}

-- the literal is next as a value
pub record LiteralNext (s : ParserState) (word : List ℕ) : Type 0 where
  pub at : ℕ
  pub expected : ExpectedPart
  pub next : NextPart s at expected
  pub takes : TakesValue expected
  pub is_there : WordTo (input s) at word (at + length word)

-- a minus and at most 19 digits, and nothing else, are from i up to j, and the number goes no further
pub record IsShortNegative (b : List ℕ) (i j : ℕ) : Type 0 where
  pub number : NumberTo b i j
  pub minus : ByteAt b i 45
  pub digits : all_ascii_digits (piece b (i + 1) j) ≡ true
  pub few : j ≤ i + 20

-- such a number is next as a value, is not `-0`, and its magnitude is at most `least`
pub record NegativeNext (s : ParserState) (least : ℕ) : Type 0 where
  pub at : ℕ
  pub expected : ExpectedPart
  pub next : NextPart s at expected
  pub takes : TakesValue expected
  pub to : ℕ
  pub integer : IsShortNegative (input s) at to
  pub below_zero : 0 < digits_value 10 (piece (input s) (at + 1) to)
  pub value : digits_value 10 (piece (input s) (at + 1) to) ≤ least
