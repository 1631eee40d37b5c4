-- The text that a tree prints as.
use Rattle.std.specs.Prelude.{ℕ, List, Bool, cond, Option}
use Rattle.json_grammar.specs.Tree.{Tree}
use Rattle.json_model.specs.Print.{shown}
use Rattle.json_model.specs.Sort.{sorted}

-- the text of a tree with an indent or none, sorted where asked
abbrev pub shown_as : Option (List ℕ) → Bool → Tree → List ℕ
shown_as i sorts t = shown i 0 (cond sorts (sorted t) t)
