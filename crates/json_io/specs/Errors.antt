-- The codes' names, numbers and categories, and the refusals that carry no offset, by name.
use Rattle.std.specs.Prelude.{◌≡◌, ℕ, List, Some, None, Result, IfErr, codes}
use Rattle.std.specs.declared.option.Option.{Option}
use Rattle.json_io.specs.declared.error.Error.{Error}
use Rattle.json_io.specs.declared.error.ErrorCode.{ErrorCode}
use Rattle.json_io.specs.declared.error.ErrorCode.TheVariants as code
use Rattle.json_io.specs.declared.error.Category.{Category}
use Rattle.json_io.specs.declared.error.Category.TheVariants as category
use Rattle.json_io.specs.declared.error.Place.{Place}
use Rattle.json_io.specs.declared.error.Place.TheVariants as place

-- the name of a code, its number and its category
pub record CodeRow : Type 0 where
  pub name : List ℕ
  pub number : ℕ
  pub category : Category

abbrev pub code_row : List ℕ → ℕ → Category → CodeRow
code_row n k c = record { name = n; number = k; category = c }

abbrev pub row_of_code : ErrorCode → CodeRow
row_of_code code.NoMemory = code_row (codes "NoMemory") 1 category.Memory
row_of_code code.Io = code_row (codes "Io") 2 category.Io
row_of_code code.TooLarge = code_row (codes "TooLarge") 3 category.Limit
row_of_code code.InvalidUTF8 = code_row (codes "InvalidUTF8") 4 category.Syntax
row_of_code code.EofWhileParsing = code_row (codes "EofWhileParsing") 5 category.Eof
row_of_code code.InvalidLiteral = code_row (codes "InvalidLiteral") 6 category.Syntax
row_of_code code.InvalidNumber = code_row (codes "InvalidNumber") 7 category.Syntax
row_of_code code.ExpectedColon = code_row (codes "ExpectedColon") 8 category.Syntax
row_of_code code.ExpectedArrayCommaOrEnd = code_row (codes "ExpectedArrayCommaOrEnd") 9 category.Syntax
row_of_code code.ExpectedObjectCommaOrEnd = code_row (codes "ExpectedObjectCommaOrEnd") 10 category.Syntax
row_of_code code.ExpectObjectKeyOrEnd = code_row (codes "ExpectObjectKeyOrEnd") 11 category.Syntax
row_of_code code.TrailingComma = code_row (codes "TrailingComma") 12 category.Syntax
row_of_code code.InvalidJsonValue = code_row (codes "InvalidJsonValue") 13 category.Syntax
row_of_code code.ControlCharacter = code_row (codes "ControlCharacter") 14 category.Syntax
row_of_code code.InvalidEscape = code_row (codes "InvalidEscape") 15 category.Syntax
row_of_code code.InvalidSurrogate = code_row (codes "InvalidSurrogate") 16 category.Syntax
row_of_code code.TrailingCharacters = code_row (codes "TrailingCharacters") 17 category.Syntax
row_of_code code.RecursionLimitExceeded = code_row (codes "RecursionLimitExceeded") 18 category.Limit
row_of_code code.NotFound = code_row (codes "NotFound") 19 category.NotFound
row_of_code code.TypeUnmatched = code_row (codes "TypeUnmatched") 20 category.TypeUnmatched
row_of_code code.NumberOutOfRange = code_row (codes "NumberOutOfRange") 21 category.TypeUnmatched
row_of_code code.SerExpectKeyIsStrOrNum = code_row (codes "SerExpectKeyIsStrOrNum") 22 category.TypeUnmatched
row_of_code code.ExpectedNumericKey = code_row (codes "ExpectedNumericKey") 23 category.TypeUnmatched
row_of_code code.BadWords = code_row (codes "BadWords") 24 category.Syntax
row_of_code code.DuplicateKey = code_row (codes "DuplicateKey") 25 category.Syntax

abbrev pub name_of : ErrorCode → List ℕ
name_of c = (row_of_code c).name

abbrev pub number_of : ErrorCode → ℕ
number_of c = (row_of_code c).number

abbrev pub category_of : ErrorCode → Category
category_of c = (row_of_code c).category

-- the offset, the line and the column of a place in the input
abbrev pub offset_of : Place → Option ℕ
offset_of (place.At offset line column) = Some offset
offset_of _ = None

abbrev pub line_of : Place → Option ℕ
line_of (place.At offset line column) = Some line
line_of _ = None

abbrev pub column_of : Place → Option ℕ
column_of (place.At offset line column) = Some column
column_of _ = None

-- memory ran out
abbrev pub no_memory : Error
no_memory = record { code = code.NoMemory; place = place.None }

-- a call fails only because memory runs out
abbrev pub OnlyNoMemory : {A : Type 0} → Result A Error → Type 0
OnlyNoMemory r = IfErr r (λ e. e ≡ no_memory)

-- the source failed
abbrev pub reading_failed : Error
reading_failed = record { code = code.Io; place = place.Reading }

-- the sink failed
abbrev pub writing_failed : Error
writing_failed = record { code = code.Io; place = place.Writing }

-- more bytes than the limit
abbrev pub too_large : Error
too_large = record { code = code.TooLarge; place = place.None }

-- a step names a key or an index that is not there
abbrev pub not_found : Error
not_found = record { code = code.NotFound; place = place.None }

-- a key meets no object, or an index no array
abbrev pub type_unmatched : Error
type_unmatched = record { code = code.TypeUnmatched; place = place.None }

-- an integer lies outside the type that is asked for
abbrev pub out_of_range : Error
out_of_range = record { code = code.NumberOutOfRange; place = place.None }

-- a key that is written has no text
abbrev pub key_has_no_text : Error
key_has_no_text = record { code = code.SerExpectKeyIsStrOrNum; place = place.None }

-- the words have another form
abbrev pub bad_words : Error
bad_words = record { code = code.BadWords; place = place.None }
