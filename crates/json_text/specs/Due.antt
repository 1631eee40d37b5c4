-- When a fault is due: at the event that needs the byte that is refused.
use Rattle.std.specs.Prelude.{◌≡◌, Bool, ℕ, ◌≤◌, List}
use Rattle.json_grammar.specs.Given.{piece}
use Rattle.json_grammar.specs.Needs.{IsBegun, NeedsByte}
use Rattle.json_io.specs.declared.error.ErrorCode.{ErrorCode}
use Rattle.json_io.specs.declared.error.ErrorCode.TheVariants as code

-- the token that begins at i, or would, needs the byte at k, which fails with this code; a digit
-- after a leading zero fails as an invalid number
pub record TokenNeeds (lossy : Bool) (b : List ℕ) (i : ℕ) (c : ErrorCode) (k : ℕ) : Type 0 where
  pub order : i ≤ k
  pub begun : IsBegun lossy (c ≡ code.InvalidNumber) (piece b i k)

-- so does the next token after the first i bytes, whatever the gap before it is
abbrev pub NextNeeds : Bool → List ℕ → ℕ → ErrorCode → ℕ → Type 0
NextNeeds lossy b i c k = NeedsByte lossy (c ≡ code.InvalidNumber) b i k
