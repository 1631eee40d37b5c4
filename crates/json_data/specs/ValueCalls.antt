-- What the call that reads a value from a value answers.
use Rattle.std.specs.Prelude.{◌≡◌}
use Rattle.json_grammar.specs.Tree.{Tree}
use Rattle.json_io.specs.declared.error.ErrorCode.{ErrorCode}
use Rattle.json_io.specs.declared.error.ErrorCode.TheVariants as code
use Rattle.json_io.specs.declared.error.Place.{Place}
use Rattle.json_io.specs.declared.error.Place.TheVariants as place
use Rattle.json_data.specs.Reading.{Reading, refuses}

-- why no value is read of a tree: memory ran out, or the tree is refused; the error has no place
abbrev pub TreeReadingFails : (Tree → Reading) → Tree → ErrorCode → Place → Type 0
TreeReadingFails f t code.NoMemory place.None = Unit {0}
TreeReadingFails f t code.TypeUnmatched place.None = f t ≡ refuses code.TypeUnmatched
TreeReadingFails f t code.NumberOutOfRange place.None = f t ≡ refuses code.NumberOutOfRange
TreeReadingFails f t code.ExpectedNumericKey place.None = f t ≡ refuses code.ExpectedNumericKey
TreeReadingFails f t c p = ⊥
