-- Errors of pointers and patches.
use Rattle.std.specs.Prelude.{◌≡◌, ℕ, Option, None, Some, Result, Ok, Err}
use Rattle.json_grammar.specs.Tree.{Tree}
use Rattle.json_model.specs.Edit.{not_found, type_unmatched}
use Rattle.json_patch.specs.Patch.{PatchFailure, lookup_failed, bad_patch, test_failed}
use Rattle.json_patch.specs.declared.error.PatchCode.{PatchCode}
use Rattle.json_patch.specs.declared.error.PatchCode.TheVariants.{NoMemory, NotFound, TypeUnmatched, BadPointer, BadPatch, TestFailed}
use Rattle.json_patch.specs.declared.error.PatchError.{PatchError}

-- the number of a code
abbrev pub patch_code_number : PatchCode → ℕ
patch_code_number NoMemory = 1
patch_code_number NotFound = 19
patch_code_number TypeUnmatched = 20
patch_code_number BadPointer = 29
patch_code_number BadPatch = 30
patch_code_number TestFailed = 31

-- memory runs out
abbrev pub no_memory_in_patch : PatchError
no_memory_in_patch = record { code = NoMemory; op = None }

-- why parsing a pointer or a token failed, given what its text parses to: to nothing, or memory ran
-- out
abbrev pub PointerFails : {A : Type 0} → Option A → PatchCode → Option ℕ → Type 0
PointerFails escaped_token NoMemory None = Unit {0}
PointerFails escaped_token BadPointer None = escaped_token ≡ None
PointerFails escaped_token code op = ⊥

-- why applying a patch failed, given what it makes of a tree; no operation is named if memory ran
-- out
abbrev pub PatchFails : Result Tree (PatchFailure × Option ℕ) → PatchCode → Option ℕ → Type 0
PatchFails made NoMemory None = Unit {0}
PatchFails made NotFound op = made ≡ Err (lookup_failed not_found, op)
PatchFails made TypeUnmatched op = made ≡ Err (lookup_failed type_unmatched, op)
PatchFails made BadPatch op = made ≡ Err (bad_patch, op)
PatchFails made TestFailed op = made ≡ Err (test_failed, op)
PatchFails made code op = ⊥

-- why reading operations failed: an element is not an operation, or memory ran out
abbrev pub ReadingOperationsFails : {A : Type 0} → Result A ℕ → PatchCode → Option ℕ → Type 0
ReadingOperationsFails read NoMemory None = Unit {0}
ReadingOperationsFails read BadPatch (Some n) = read ≡ Err n
ReadingOperationsFails read code op = ⊥

-- why applying an operation failed, given what it makes of a tree
abbrev pub OperationFails : Result Tree PatchFailure → PatchCode → Type 0
OperationFails made NoMemory = Unit {0}
OperationFails made NotFound = made ≡ Err (lookup_failed not_found)
OperationFails made TypeUnmatched = made ≡ Err (lookup_failed type_unmatched)
OperationFails made TestFailed = made ≡ Err test_failed
OperationFails made code = ⊥

-- the outcome of the operation of index i
abbrev pub with_number : Result Tree PatchFailure → ℕ → Result Tree (PatchFailure × Option ℕ)
with_number (Ok t) i = Ok t
with_number (Err r) i = Err (r, Some i)
