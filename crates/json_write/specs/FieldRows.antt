-- The members of a program's own type.
use Rattle.std.specs.Prelude.{◌≡◌, List, ◌∷◌}
use Rattle.json_grammar.specs.declared.Kind.{Kind}
use Rattle.json_grammar.specs.declared.Kind.TheVariants.{Object as object}
use Rattle.json_grammar.specs.TokenStates.{TokenState, state_in}
use Rattle.json_model.specs.Datum.{Rows, no_rows, row_and}

-- rows, followed by others
abbrev pub rows_append : Rows → Rows → Rows
rows_append no_rows ss = ss
rows_append (row_and k d rs) ss = row_and k d (rows_append rs ss)

-- a key or the end of an object may follow
pub record AtKey (s : TokenState) : Type 0 where
  pub outer : List Kind
  pub is : s ≡ state_in (object ∷ outer)
