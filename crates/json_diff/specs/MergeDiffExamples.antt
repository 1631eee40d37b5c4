-- Examples of merge patches between trees.
use Rattle.std.specs.Prelude.{◌≡◌, [], ◌∷◌, Some, None}
use Rattle.json_grammar.specs.Tree.{null}
use Rattle.json_diff.specs.MergeDiff.{merge_patch_between}
use Rattle.json_model.specs.ExampleTrees.{example_object, example_array, example_member, example_string, example_number}

-- the trees of RFC 7396, section 1, and the patch between them
abbrev pub MergePatchOfTheRfc : Type 0
MergePatchOfTheRfc =
    merge_patch_between
    (example_object (example_member "a" (example_string "b") ∷ example_member "c" (example_object (example_member "d" (example_string "e") ∷ example_member "f" (example_string "g") ∷ [])) ∷ []))
    (example_object (example_member "a" (example_string "z") ∷ example_member "c" (example_object (example_member "d" (example_string "e") ∷ [])) ∷ []))
    ≡ Some (example_object (example_member "a" (example_string "z") ∷ example_member "c" (example_object (example_member "f" null ∷ [])) ∷ []))

-- a null that is new cannot be made; one that was there stays, and one in an array is put
abbrev pub NullsOfMergePatches : Type 0
NullsOfMergePatches =
    (merge_patch_between (example_object []) (example_object (example_member "a" null ∷ [])) ≡ None)
    × (merge_patch_between (example_object (example_member "a" null ∷ [])) (example_object (example_member "b" (example_number "1") ∷ example_member "a" null ∷ [])) ≡ Some (example_object (example_member "b" (example_number "1") ∷ [])))
    × (merge_patch_between (example_object []) (example_object (example_member "a" (example_array (null ∷ [])) ∷ [])) ≡ Some (example_object (example_member "a" (example_array (null ∷ [])) ∷ [])))

-- a key that repeats is kept where nothing changes, and else there is no patch
abbrev pub RepeatedKeysOfMergePatches : Type 0
RepeatedKeysOfMergePatches =
    let t = example_object (example_member "a" (example_number "1") ∷ example_member "a" (example_number "2") ∷ []) in
    (merge_patch_between (example_object (example_member "c" t ∷ [])) (example_object (example_member "c" t ∷ example_member "d" (example_number "3") ∷ [])) ≡ Some (example_object (example_member "d" (example_number "3") ∷ [])))
    × (merge_patch_between t (example_object (example_member "a" (example_number "1") ∷ [])) ≡ None)
