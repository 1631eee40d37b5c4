-- The status of a failure.
use Rattle.std.specs.Prelude.{ℕ}
use Rattle.json_io.specs.declared.error.ErrorCode.{ErrorCode}
use Rattle.json_io.specs.declared.error.ErrorCode.TheVariants.{NoMemory, NotFound, TypeUnmatched}
use Rattle.json_patch.specs.declared.error.PatchCode.{PatchCode}
use Rattle.json_patch.specs.declared.error.PatchCode.TheVariants as patch
use Rattle.mezdruk_c.specs.declared.failure.Failure.{Failure}
use Rattle.mezdruk_c.specs.declared.failure.Failure.TheVariants.{Options, Argument, Text, Patch, NoMergePatch}

-- of an argument that could not be read
abbrev pub argument_status_of : ErrorCode → ℕ
argument_status_of NoMemory = 6
argument_status_of code = 2

-- of a text that could not be read or changed
abbrev pub text_status_of : ErrorCode → ℕ
text_status_of NoMemory = 6
text_status_of NotFound = 3
text_status_of TypeUnmatched = 3
text_status_of code = 1

-- of a patch that does not apply
abbrev pub patch_status_of : PatchCode → ℕ
patch_status_of patch.NoMemory = 6
patch_status_of code = 3

-- of a failure
abbrev pub status_of_failure : Failure → ℕ
status_of_failure Options = 2
status_of_failure (Argument e) = argument_status_of e.code
status_of_failure (Text e) = text_status_of e.code
status_of_failure (Patch e) = patch_status_of e.code
status_of_failure NoMergePatch = 3
