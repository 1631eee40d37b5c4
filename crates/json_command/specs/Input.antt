-- What an input is, and its fault: the JSON text (RFC 8259, section 2) that a program reads.
use Rattle.std.specs.Prelude.{ℕ, ◌<◌, ◌≤◌, List, length, false, IsUtf8, Bool, true}
use Rattle.json_grammar.specs.Tree.{Tree}
use Rattle.json_grammar.specs.Grammar.{is_text, ws}
use Rattle.json_grammar.specs.Rules.{Rules, fits}
use Rattle.json_io.specs.declared.error.ErrorCode.{ErrorCode}
use Rattle.json_io.specs.declared.error.ErrorCode.TheVariants.{TooLarge}
use Rattle.json_io.specs.declared.error.Place.{Place}
use Rattle.json_io.specs.declared.error.Place.TheVariants.{None as nowhere}
use Rattle.json_text.specs.Faults.{FaultWithAt}
use Rattle.json_io.specs.Utf8.{Utf8Cause}

-- the greatest number of bytes of an input
abbrev pub max_bytes : ℕ
max_bytes = 4294967295

-- the input is a text of this tree, which fits the rules, of at most that many bytes
pub record IsInput (rules : Rules) (b : List ℕ) (tree : Tree) : Type 0 where
  pub short : length b ≤ max_bytes
  pub text : is_text false tree b
  pub fit : fits tree rules

-- the input is a text of some tree that fits the rules
pub record IsValid (rules : Rules) (b : List ℕ) : Type 0 where
  pub tree : Tree
  pub input : IsInput rules b tree

-- the fault of an input: too many bytes, or bytes that are not UTF-8, or the one fault of its grammar by the rules
pub data InputFault (rules : Rules) : List ℕ → ErrorCode → Place → Type 0 where
  too_large : {b : List ℕ} → max_bytes < length b → InputFault rules b TooLarge nowhere
  not_utf8 : {b : List ℕ} {code : ErrorCode} {place : Place} → length b ≤ max_bytes → Utf8Cause b code place → InputFault rules b code place
  no_text : {b : List ℕ} {code : ErrorCode} {place : Place} → length b ≤ max_bytes → IsUtf8 b → FaultWithAt false rules b code place → InputFault rules b code place

-- the test whether a line has only whitespace (RFC 8259, section 2)
abbrev pub BlankTest : List ℕ → Bool → Type 0
BlankTest line true = ws line
BlankTest line false = ¬ (ws line)
