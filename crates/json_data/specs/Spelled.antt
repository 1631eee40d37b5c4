-- Why no step, path or edit is read of a value.
use Rattle.std.specs.Prelude.{◌≡◌, ◌⊎◌, Option, None}
use Rattle.json_io.specs.declared.error.Error.{Error}
use Rattle.json_io.specs.declared.error.ErrorCode.TheVariants.{TypeUnmatched}
use Rattle.json_io.specs.Errors.{no_memory}
use Rattle.json_tokens.specs.Refusals.{error_without_place}

-- memory ran out, or the tree spells none
abbrev pub Unspelled : {A : Type 0} → Option A → Error → Type 0
Unspelled o e = (e ≡ no_memory) ⊎ ((e ≡ error_without_place TypeUnmatched) × (o ≡ None))
