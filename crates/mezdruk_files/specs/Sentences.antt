-- What the reports of errors say: sentences, and hints at usual causes.
use Rattle.std.specs.Prelude.{◌≡◌, ℕ, ◌++◌, Bool, true, ◌&&◌, nat_le, bytes_eq, List, [], ◌∷◌, None, Some, IfSome, codes, decimal}
use Rattle.std.specs.declared.option.Option.{Option}
use Rattle.std.specs.List.{list_any, list_all}
use Rattle.json_io.specs.declared.error.ErrorCode.{ErrorCode}
use Rattle.json_io.specs.declared.error.ErrorCode.TheVariants as code
use Rattle.mezdruk_files.specs.declared.change_error.ChangeCode.{ChangeCode}
use Rattle.mezdruk_files.specs.declared.change_error.ChangeCode.TheVariants as change
use Rattle.mezdruk_files.specs.declared.change_error.ChangeError.{ChangeError}
use Rattle.mezdruk_files.specs.declared.document_error.DocumentError.{DocumentError}
use Rattle.mezdruk_files.specs.declared.document_error.DocumentError.TheVariants.{Input, Change}
use Rattle.mezdruk_files.specs.declared.part.Scope.{Scope}
use Rattle.mezdruk_files.specs.declared.part.Scope.TheVariants.{Document, Line, Value}
use Rattle.mezdruk_files.specs.PatchProblems.{problem_sentence}

-- ---- sentences

-- what is said of each error of an input
abbrev pub input_sentence : ErrorCode → List ℕ
input_sentence code.NoMemory = codes "memory ran out"
input_sentence code.Io = codes "a read or a write failed"
input_sentence code.TooLarge = codes "the input has more than 4,294,967,295 bytes"
input_sentence code.InvalidUTF8 = codes "the input is not UTF-8"
input_sentence code.EofWhileParsing = codes "the input ends before its value does"
input_sentence code.InvalidLiteral = codes "only `null`, `true` and `false` are literals"
input_sentence code.InvalidNumber = codes "the number is not complete or has a leading zero"
input_sentence code.ExpectedColon = codes "a colon is expected after the key"
input_sentence code.ExpectedArrayCommaOrEnd = codes "a comma or `]` is expected after the element"
input_sentence code.ExpectedObjectCommaOrEnd = codes "a comma or `}` is expected after the member"
input_sentence code.ExpectObjectKeyOrEnd = codes "a key in double quotes or `}` is expected"
input_sentence code.TrailingComma = codes "a comma comes before `}`"
input_sentence code.InvalidJsonValue = codes "a value is expected"
input_sentence code.ControlCharacter = codes "a control character in a string has to be escaped"
input_sentence code.InvalidEscape = codes "the escape is not valid"
input_sentence code.InvalidSurrogate = codes "the escape of a surrogate is not part of a pair"
input_sentence code.TrailingCharacters = codes "only whitespace may follow the value"
input_sentence code.RecursionLimitExceeded = codes "the input has too many levels"
input_sentence code.NotFound = codes "a key or an index is not there"
input_sentence code.TypeUnmatched = codes "a key meets no object, or an index no array"
input_sentence code.NumberOutOfRange = codes "the number is out of range"
input_sentence code.SerExpectKeyIsStrOrNum = codes "the key is no string, number or boolean"
input_sentence code.ExpectedNumericKey = codes "the key is no number"
input_sentence code.BadWords = codes "the arguments are not valid"
input_sentence code.DuplicateKey = codes "the key occurs twice in its object"

-- what is said of each error of a change
abbrev pub change_sentence : ChangeCode → List ℕ
change_sentence change.NoMemory = codes "memory ran out"
change_sentence change.NotFound = codes "a key or an index is not there"
change_sentence change.TypeUnmatched = codes "a key meets no object, or an index no array"
change_sentence (change.BadPatch problem) = problem_sentence problem
change_sentence change.TestFailed = codes "`test` found another value"

-- lower case letters alone
abbrev pub is_lower_case : List ℕ → Bool
is_lower_case word = list_all (λ x. nat_le 97 x && nat_le x 122) word

-- a word, its number and a colon, if there is a number
abbrev pub counted_word : List ℕ → Option ℕ → List ℕ
counted_word word None = []
counted_word word (Some n) = word ++ codes " " ++ decimal n ++ codes ": "

-- the number of a value of a stream
abbrev pub scope_number : Scope → Option ℕ
scope_number (Value n) = Some n
scope_number scope = None

-- the sentence of a report; a part of the change has this name
abbrev pub document_sentence : Scope → List ℕ → DocumentError → List ℕ
document_sentence scope part_name (Input e) = input_sentence e.code
document_sentence scope part_name (Change e) = counted_word (codes "value") (scope_number scope) ++ counted_word part_name e.number ++ change_sentence e.code

-- ---- hints

-- the hints that there are
abbrev pub hints : List (List ℕ)
hints =
    codes "the input begins with a byte order mark; `--bom` skips it"
    ∷ codes "the input looks like UTF-16; JSON text is UTF-8"
    ∷ codes "`--lines` reads a document from each line, `--stream` one after another"
    ∷ codes "`--stream` reads documents one after another"
    ∷ codes "the input is empty"
    ∷ codes "the input has only whitespace"
    ∷ codes "the literals are `null`, `true` and `false`, in lower case"
    ∷ codes "JSON has no `undefined`"
    ∷ codes "a number has digits on both sides of its point"
    ∷ codes "a number has no plus sign"
    ∷ codes "JSON has no hexadecimal numbers"
    ∷ codes "a number has no leading zeros"
    ∷ codes "JSON has no NaN and no Infinity"
    ∷ codes "strings and keys have double quotes"
    ∷ codes "JSON has no comments"
    ∷ codes "JSON has no comma before a closing bracket"
    ∷ []

abbrev pub is_hint : List ℕ → Bool
is_hint text = list_any (bytes_eq text) hints

-- the hint of an error of an input is one of these, or there is none; a change has none
abbrev pub HintFits : DocumentError → Option (List ℕ) → Type 0
HintFits (Input e) hint = IfSome hint (λ text. is_hint text ≡ true)
HintFits (Change e) hint = hint ≡ None

-- the line of a hint, or nothing
abbrev pub hint_line : Option (List ℕ) → List ℕ
hint_line None = []
hint_line (Some text) = codes "hint: " ++ text ++ codes "\n"
