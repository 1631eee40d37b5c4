-- Errors, passed on.
use Rattle.std.proofs.Common.{◌≡◌, ℕ, Option, Some, None, Result, Err}
use Rattle.json_grammar.specs.Tree.{Tree}
use Rattle.json_model.specs.Edit.{not_found, type_unmatched}
use Rattle.json_patch.specs.Patch.{PatchFailure, lookup_failed, bad_patch, test_failed}
use Rattle.json_patch.specs.Errors.{PointerFails, PatchFails, ReadingOperationsFails}
use Rattle.json_patch.specs.declared.error.PatchCode.{PatchCode}
use Rattle.json_patch.specs.declared.error.PatchCode.TheVariants.{NoMemory, NotFound, TypeUnmatched, BadPointer, BadPatch, TestFailed}

-- from a part of a pointer to the whole
pub pointer_fails_as : {A B : Type 0} (s : Option A) (r : Option B) → (s ≡ None → r ≡ None) → (code : PatchCode) (op : Option ℕ) → PointerFails s code op → PointerFails r code op
pointer_fails_as s r so NoMemory None h = tt
pointer_fails_as s r so BadPointer None h = so h
pointer_fails_as s r so code op h = absurd h

-- from a part of a patch to the whole
pub patch_fails_as : (r s : Result Tree (PatchFailure × Option ℕ)) → ((e : PatchFailure × Option ℕ) → r ≡ Err e → s ≡ Err e) → (code : PatchCode) (op : Option ℕ) → PatchFails r code op → PatchFails s code op
patch_fails_as r s so NoMemory None h = tt
patch_fails_as r s so NotFound op h = so (lookup_failed not_found, op) h
patch_fails_as r s so TypeUnmatched op h = so (lookup_failed type_unmatched, op) h
patch_fails_as r s so BadPatch op h = so (bad_patch, op) h
patch_fails_as r s so TestFailed op h = so (test_failed, op) h
patch_fails_as r s so code op h = absurd h

-- from reading operations to the patch
pub reading_fails_as : {A : Type 0} (r : Result A ℕ) (s : Result Tree (PatchFailure × Option ℕ)) → ((n : ℕ) → r ≡ Err n → s ≡ Err (bad_patch, Some n)) → (code : PatchCode) (op : Option ℕ) → ReadingOperationsFails r code op → PatchFails s code op
reading_fails_as r s so NoMemory None h = tt
reading_fails_as r s so BadPatch (Some n) h = so n h
reading_fails_as r s so code op h = absurd h
