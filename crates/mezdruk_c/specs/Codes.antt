-- The names of codes, and the version.
use Rattle.std.specs.Prelude.{ℕ, List, [], ◌∷◌, ◌==◌, if◌then◌else◌, Option, Some, None, codes}
use Rattle.json_io.specs.Errors.{name_of, number_of}
use Rattle.json_io.specs.declared.error.ErrorCode.{ErrorCode}
use Rattle.json_io.specs.declared.error.ErrorCode.TheVariants as error
use Rattle.json_patch.specs.Described.{patch_code_name}
use Rattle.json_patch.specs.Errors.{patch_code_number}
use Rattle.json_patch.specs.declared.error.PatchCode.{PatchCode}
use Rattle.json_patch.specs.declared.error.PatchCode.TheVariants as patch

-- the version
abbrev pub library_version : List ℕ
library_version = codes "0.1.0"

-- the codes that a fault of a text, of edits or of data can have
abbrev error_codes : List ErrorCode
error_codes = error.NoMemory ∷ error.TooLarge ∷ error.InvalidUTF8 ∷ error.EofWhileParsing ∷ error.InvalidLiteral ∷ error.InvalidNumber ∷ error.ExpectedColon ∷ error.ExpectedArrayCommaOrEnd ∷ error.ExpectedObjectCommaOrEnd ∷ error.ExpectObjectKeyOrEnd ∷ error.TrailingComma ∷ error.InvalidJsonValue ∷ error.ControlCharacter ∷ error.InvalidEscape ∷ error.InvalidSurrogate ∷ error.TrailingCharacters ∷ error.RecursionLimitExceeded ∷ error.NotFound ∷ error.TypeUnmatched ∷ error.NumberOutOfRange ∷ error.DuplicateKey ∷ []

-- those that only a pointer or a patch has
abbrev patch_codes : List PatchCode
patch_codes = patch.BadPointer ∷ patch.BadPatch ∷ patch.TestFailed ∷ []

-- those that only this library has: options that are not valid, and texts that no merge patch leads to each other
abbrev own_name : ℕ → Option (List ℕ)
own_name n = if n == 32 then Some (codes "BadOptions") else (if n == 33 then Some (codes "NoMergePatch") else None)

abbrev patch_name_among : List PatchCode → ℕ → Option (List ℕ)
patch_name_among [] n = own_name n
patch_name_among (c ∷ cs) n = if n == patch_code_number c then Some (patch_code_name c) else patch_name_among cs n

abbrev error_name_among : List ErrorCode → ℕ → Option (List ℕ)
error_name_among [] n = patch_name_among patch_codes n
error_name_among (c ∷ cs) n = if n == number_of c then Some (name_of c) else error_name_among cs n

-- the name of the code of a number, if a fault can have it
abbrev pub code_name : ℕ → Option (List ℕ)
code_name n = error_name_among error_codes n
