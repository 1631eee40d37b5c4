-- The values at several paths, and the keys and the length of one.
use Rattle.std.specs.Prelude.{◌≡◌, ℕ, ◌+◌, ◌^◌, cond, nat_lt, List, [], ◌∷◌, ◌++◌, length, map, Result, Ok, Err, Option, Some, None, option_map, decimal}
use Rattle.std.specs.Result.{result_ok}
use Rattle.json_grammar.specs.Tree.{Tree, text, num, list, list_trees}
use Rattle.json_patch.specs.Lookups.{pointer_tokens}
use Rattle.json_patch.specs.Pointer.{value_at_pointer}
use Rattle.json_value.specs.Edits.{path_steps}
use Rattle.json_value.specs.Seen.{list_of, object_pairs}
use Rattle.json_value.specs.Steps.{tree_at}
use Rattle.mezdruk_files.specs.Changes.{not_there}
use Rattle.mezdruk_files.specs.declared.change_error.ChangeCode.TheVariants as code
use Rattle.mezdruk_files.specs.declared.change_error.ChangeError.{ChangeError}
use Rattle.mezdruk_files.specs.declared.value_path.ValuePath.{ValuePath}
use Rattle.mezdruk_files.specs.declared.value_path.ValuePath.TheVariants.{Pointer, Steps}

-- the tree at a path, if there is one
abbrev pub tree_at_value_path : ValuePath → Tree → Option Tree
tree_at_value_path (Pointer p) tree = result_ok (value_at_pointer (pointer_tokens p) tree)
tree_at_value_path (Steps p) tree = tree_at (path_steps p) tree

-- ---- several paths

-- nothing is at the path of this number
abbrev pub not_there_at : ℕ → ChangeError
not_there_at number = record { code = code.NotFound; number = cond (nat_lt number (2 ^ 32)) (Some number) None }

-- the tree there, or the error
abbrev pub tree_or_not_there : ℕ → Option Tree → Result Tree ChangeError
tree_or_not_there number (Some tree) = Ok tree
tree_or_not_there number None = Err (not_there_at number)

-- these trees and then those of a result
abbrev pub after_trees : List Tree → Result (List Tree) ChangeError → Result (List Tree) ChangeError
after_trees first (Ok later) = Ok (first ++ later)
after_trees first (Err error) = Err error

-- one tree and then those of a result
abbrev pub and_trees : Result Tree ChangeError → Result (List Tree) ChangeError → Result (List Tree) ChangeError
and_trees (Ok tree) later = after_trees (tree ∷ []) later
and_trees (Err error) later = Err error

-- the trees at the paths, the first of which has this number
abbrev pub trees_at : ℕ → List ValuePath → Tree → Result (List Tree) ChangeError
trees_at number [] tree = Ok []
trees_at number (p ∷ ps) tree = and_trees (tree_or_not_there number (tree_at_value_path p tree)) (trees_at (number + 1) ps tree)

-- the array of the trees
abbrev pub array_of : Result (List Tree) ChangeError → Result Tree ChangeError
array_of (Ok trees) = Ok (list (list_trees trees))
array_of (Err error) = Err error

-- ---- the keys and the length

-- the value is of another kind
abbrev pub wrong_kind : ChangeError
wrong_kind = record { code = code.TypeUnmatched; number = None }

-- the keys of an object, in the order of its members
abbrev pub key_texts : Tree → Option (List Tree)
key_texts tree = option_map (λ members. map (λ m. text m.0) members) (object_pairs tree)

-- how many elements an array has, or members an object
abbrev pub length_of : Tree → Option ℕ
length_of tree = elim (list_of tree) [ Some elements ↦ Some (length elements) | None ↦ option_map (λ members. length members) (object_pairs tree) ]

-- what is found of the tree, if there is one
abbrev pub found_in : {A : Type 0} → (Tree → Option A) → Option Tree → Result A ChangeError
found_in of None = Err not_there
found_in of (Some tree) = elim (of tree) [ Some found ↦ Ok found | None ↦ Err wrong_kind ]

-- the number of a length
abbrev pub length_number : Result ℕ ChangeError → Result Tree ChangeError
length_number (Ok n) = Ok (num (decimal n))
length_number (Err error) = Err error
