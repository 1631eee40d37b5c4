-- Changes of trees, and why they do not apply.
use Rattle.std.specs.Prelude.{◌≡◌, ◌⊎◌, ℕ, None, Some, Result, Ok, Err}
use Rattle.json_grammar.specs.Tree.{Tree}
use Rattle.json_model.specs.Edit.{Changed, EditRefusal, not_found, type_unmatched}
use Rattle.mezdruk_files.specs.declared.change_error.ChangeCode.TheVariants as code
use Rattle.mezdruk_files.specs.declared.change_error.ChangeError.{ChangeError}

-- memory ran out
abbrev pub out_of_memory : ChangeError
out_of_memory = record { code = code.NoMemory; number = None }

-- memory ran out, or the change fails so
abbrev pub ChangeFails : Result Tree ChangeError → ChangeError → Type 0
ChangeFails made error = (error ≡ out_of_memory) ⊎ (made ≡ Err error)

-- nothing is at the path
abbrev pub not_there : ChangeError
not_there = record { code = code.NotFound; number = None }

-- ---- edits

-- what edits make of a tree
abbrev pub outcome_of_edits : Result Tree (ℕ × EditRefusal) → Result Tree ChangeError
outcome_of_edits (Ok tree) = Ok tree
outcome_of_edits (Err (number, not_found)) = Err (record { code = code.NotFound; number = Some number })
outcome_of_edits (Err (number, type_unmatched)) = Err (record { code = code.TypeUnmatched; number = Some number })

-- what one edit makes of a tree
abbrev pub outcome_of_edit : Changed Tree → Result Tree ChangeError
outcome_of_edit (Ok tree) = Ok tree
outcome_of_edit (Err not_found) = Err (record { code = code.NotFound; number = Some 0 })
outcome_of_edit (Err type_unmatched) = Err (record { code = code.TypeUnmatched; number = Some 0 })
