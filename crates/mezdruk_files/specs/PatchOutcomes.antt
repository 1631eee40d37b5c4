-- What patches make of trees.
use Rattle.std.specs.Prelude.{ℕ, Option, Result, Ok, Err}
use Rattle.json_grammar.specs.Tree.{Tree}
use Rattle.json_model.specs.Edit.{not_found, type_unmatched}
use Rattle.json_patch.specs.Patch.{PatchFailure, lookup_failed, bad_patch, test_failed}
use Rattle.mezdruk_files.specs.declared.change_error.ChangeCode.{ChangeCode}
use Rattle.mezdruk_files.specs.declared.change_error.ChangeCode.TheVariants as code
use Rattle.mezdruk_files.specs.declared.change_error.ChangeError.{ChangeError}
use Rattle.mezdruk_files.specs.declared.patch_problem.PatchProblem.{PatchProblem}
use Rattle.mezdruk_files.specs.PatchProblems.{patch_problem}

-- the code of a patch that fails; this is wrong with it if it is none
abbrev pub change_code_of : PatchProblem → PatchFailure → ChangeCode
change_code_of problem (lookup_failed not_found) = code.NotFound
change_code_of problem (lookup_failed type_unmatched) = code.TypeUnmatched
change_code_of problem bad_patch = code.BadPatch problem
change_code_of problem test_failed = code.TestFailed

-- what the patch makes of a tree
abbrev pub outcome_of_patch : Tree → Result Tree (PatchFailure × Option ℕ) → Result Tree ChangeError
outcome_of_patch patch (Ok tree) = Ok tree
outcome_of_patch patch (Err (failure, number)) = Err (record { code = change_code_of (patch_problem patch number) failure; number = number })
