-- Examples of the operations between trees.
use Rattle.std.specs.Prelude.{◌≡◌, [], ◌∷◌, codes, decimal}
use Rattle.json_grammar.specs.Tree.{null}
use Rattle.json_patch.specs.Patch.{add_at, remove, replace}
use Rattle.json_diff.specs.Diff.{operations_between}
use Rattle.json_model.specs.ExampleTrees.{example_object, example_array, example_member, example_string, example_number}

-- a key that is gone is removed first; then a value that differs is replaced, and a new one added
abbrev pub OperationsOnMembers : Type 0
OperationsOnMembers =
    operations_between (example_object (example_member "a" (example_number "1") ∷ example_member "b" (example_number "2") ∷ [])) (example_object (example_member "c" null ∷ example_member "a" (example_number "3") ∷ []))
    ≡ remove (codes "b" ∷ []) ∷ add_at (codes "c" ∷ []) null ∷ replace (codes "a" ∷ []) (example_number "3") ∷ []

-- elements that are gone are removed at one index; the last ones, which are the same, are kept
abbrev pub OperationsOnElements : Type 0
OperationsOnElements =
    (operations_between (example_array (example_number "1" ∷ example_number "2" ∷ example_number "3" ∷ example_number "4" ∷ [])) (example_array (example_number "1" ∷ example_number "4" ∷ [])) ≡ remove (decimal 1 ∷ []) ∷ remove (decimal 1 ∷ []) ∷ [])
    × (operations_between (example_array (example_number "1" ∷ example_number "4" ∷ [])) (example_array (example_number "1" ∷ null ∷ example_number "4" ∷ [])) ≡ add_at (decimal 1 ∷ []) null ∷ [])
    × (operations_between (example_array (example_array (example_number "1" ∷ []) ∷ null ∷ [])) (example_array (example_array (example_number "2" ∷ []) ∷ null ∷ [])) ≡ replace (decimal 0 ∷ decimal 0 ∷ []) (example_number "2") ∷ [])

-- nothing between two objects whose members have another order
abbrev pub NoOperationsOnOrder : Type 0
NoOperationsOnOrder =
    operations_between (example_object (example_member "a" (example_number "1") ∷ example_member "b" (example_array (example_string "c" ∷ [])) ∷ [])) (example_object (example_member "b" (example_array (example_string "c" ∷ [])) ∷ example_member "a" (example_number "1") ∷ [])) ≡ []
