-- The text of a refusal.
use Rattle.std.specs.Prelude.{ℕ, List, [], ◌∷◌, ◌++◌, codes, decimal}
use Rattle.json_io.specs.declared.error.Error.{Error}
use Rattle.json_io.specs.Errors.{name_of}
use Rattle.json_io.specs.declared.error.Place.{Place}
use Rattle.json_io.specs.declared.error.Place.TheVariants as place

-- the text of a place, after a name
abbrev pub text_of_place : Place → List ℕ
text_of_place place.None = []
text_of_place (place.At offset line column) = codes " at offset " ++ decimal offset ++ codes ", line " ++ decimal line ++ codes " column " ++ decimal column
text_of_place place.Reading = codes " while reading"
text_of_place place.Writing = codes " while writing"
text_of_place (place.Edit number) = codes " in edit " ++ decimal number

-- the name and the place
abbrev pub message_of : Error → List ℕ
message_of error = name_of error.code ++ text_of_place error.place

-- the same and one byte 0A
abbrev pub text_of : Error → List ℕ
text_of error = message_of error ++ 10 ∷ []
