-- The refusal of a literal.
use Rattle.json_io.specs.declared.error.Error.{Error}
use Rattle.json_io.specs.declared.error.ErrorCode.TheVariants as code
use Rattle.json_io.specs.declared.error.Place.TheVariants as place

-- the text is no number
abbrev pub invalid_number : Error
invalid_number = record { code = code.InvalidNumber; place = place.None }
