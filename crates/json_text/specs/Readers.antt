-- The place of a reader in an input.
use Rattle.std.specs.Prelude.{◌≡◌, ℕ, ◌-◌, ◌<◌, ◌≤◌, List, length, get_or, Bool}
use Rattle.json_grammar.specs.declared.Kind.{Kind}
use Rattle.json_grammar.specs.declared.ExpectedPart.{ExpectedPart}
use Rattle.json_grammar.specs.Tree.{Token}
use Rattle.json_grammar.specs.Grammar.{ws}
use Rattle.json_grammar.specs.Given.{piece, PrefixAt}
use Rattle.json_grammar.specs.Levels.{peak}
use Rattle.json_text.specs.Numbers.{NoDigit}

-- at i, after the tokens ts and whitespace, in the open containers c in the state w, with no more
-- levels than the limit on the way
pub record ReaderAt (lossy : Bool) (limit : ℕ) (b : List ℕ) (i : ℕ) (c : List Kind) (w : ExpectedPart) (ts : List Token) : Type 0 where
  pub base : ℕ
  pub given : PrefixAt lossy b base c w ts
  pub order : base ≤ i
  pub within : i ≤ length b
  pub space : ws (piece b base i)
  pub depth : peak 0 ts ≤ limit
  -- no digit follows a zero
  pub apart : 0 < base → get_or b (base - 1) 0 ≡ 48 → NoDigit b base
