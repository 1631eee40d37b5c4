-- The indents that C asks for.
use Rattle.std.specs.Prelude.{ℕ, ◌-◌, List, [], ◌∷◌, ◌==◌, nat_lt, if◌then◌else◌, replicate, Option, Some, None}

-- the indent of a number: 0 for none, one more than the spaces of an indent of 0 to 8 spaces, and 10 for a tab
abbrev pub indent_asked : ℕ → Option (Option (List ℕ))
indent_asked n =
    if n == 0 then Some None
    else (if nat_lt n 10 then Some (Some (replicate (n - 1) 32)) else (if n == 10 then Some (Some (9 ∷ [])) else None))
