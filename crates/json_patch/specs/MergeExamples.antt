-- Examples of merge patches: those of RFC 7396, appendix A, and more.
use Rattle.std.specs.Prelude.{◌≡◌, List, [], ◌∷◌, map, true}
use Rattle.json_grammar.specs.Tree.{Tree, null}
use Rattle.json_model.specs.Same.{same}
use Rattle.json_model.specs.ExampleTrees.{example_object, example_array, example_member, example_string, example_number}
use Rattle.json_patch.specs.Merge.{merge_patched}

-- a tree, a patch, and what the patch makes of the tree
abbrev pub merge_rows : List (Tree × Tree × Tree)
merge_rows =
    (example_object (example_member "a" (example_string "b") ∷ []), example_object (example_member "a" (example_string "c") ∷ []), example_object (example_member "a" (example_string "c") ∷ []))
    ∷ (example_object (example_member "a" (example_string "b") ∷ []), example_object (example_member "b" (example_string "c") ∷ []), example_object (example_member "a" (example_string "b") ∷ example_member "b" (example_string "c") ∷ []))
    ∷ (example_object (example_member "a" (example_string "b") ∷ []), example_object (example_member "a" null ∷ []), example_object [])
    ∷ (example_object (example_member "a" (example_string "b") ∷ example_member "b" (example_string "c") ∷ []), example_object (example_member "a" null ∷ []), example_object (example_member "b" (example_string "c") ∷ []))
    ∷ (example_object (example_member "a" (example_array (example_string "b" ∷ [])) ∷ []), example_object (example_member "a" (example_string "c") ∷ []), example_object (example_member "a" (example_string "c") ∷ []))
    ∷ (example_object (example_member "a" (example_string "c") ∷ []), example_object (example_member "a" (example_array (example_string "b" ∷ [])) ∷ []), example_object (example_member "a" (example_array (example_string "b" ∷ [])) ∷ []))
    ∷ (
      example_object (example_member "a" (example_object (example_member "b" (example_string "c") ∷ [])) ∷ []),
      example_object (example_member "a" (example_object (example_member "b" (example_string "d") ∷ example_member "c" null ∷ [])) ∷ []),
      example_object (example_member "a" (example_object (example_member "b" (example_string "d") ∷ [])) ∷ []),
    )
    ∷ (example_object (example_member "a" (example_array (example_object (example_member "b" (example_string "c") ∷ []) ∷ [])) ∷ []), example_object (example_member "a" (example_array (example_number "1" ∷ [])) ∷ []), example_object (example_member "a" (example_array (example_number "1" ∷ [])) ∷ []))
    ∷ (example_array (example_string "a" ∷ example_string "b" ∷ []), example_array (example_string "c" ∷ example_string "d" ∷ []), example_array (example_string "c" ∷ example_string "d" ∷ []))
    ∷ (example_object (example_member "a" (example_string "b") ∷ []), example_array (example_string "c" ∷ []), example_array (example_string "c" ∷ []))
    ∷ (example_object (example_member "a" (example_string "foo") ∷ []), null, null)
    ∷ (example_object (example_member "a" (example_string "foo") ∷ []), example_string "bar", example_string "bar")
    ∷ (example_object (example_member "e" null ∷ []), example_object (example_member "a" (example_number "1") ∷ []), example_object (example_member "e" null ∷ example_member "a" (example_number "1") ∷ []))
    ∷ (example_array (example_number "1" ∷ example_number "2" ∷ []), example_object (example_member "a" (example_string "b") ∷ example_member "c" null ∷ []), example_object (example_member "a" (example_string "b") ∷ []))
    ∷ (
      example_object [],
      example_object (example_member "a" (example_object (example_member "bb" (example_object (example_member "ccc" null ∷ [])) ∷ [])) ∷ []),
      example_object (example_member "a" (example_object (example_member "bb" (example_object []) ∷ [])) ∷ []),
    )
    ∷ []

-- RFC 7396, appendix A
abbrev pub MergesOfTheRfc : Type 0
MergesOfTheRfc = map (λ r. merge_patched r.0 r.1) merge_rows ≡ map (λ r. r.2) merge_rows

-- the patch `{"a":null,"a":1,"b":2}` makes `{"a":1,"b":2}` of `{}`, and `{"b":2,"a":1}` of that
abbrev pub MergedTwiceReorders : Type 0
MergedTwiceReorders =
    let p = example_object (example_member "a" null ∷ example_member "a" (example_number "1") ∷ example_member "b" (example_number "2") ∷ []) in
    let once = example_object (example_member "a" (example_number "1") ∷ example_member "b" (example_number "2") ∷ []) in
    let twice = example_object (example_member "b" (example_number "2") ∷ example_member "a" (example_number "1") ∷ []) in
    (merge_patched (example_object []) p ≡ once) × (merge_patched once p ≡ twice) × (same twice once ≡ true)

-- if a key repeats in the tree, null removes all its members, and a value is merged into the first
abbrev pub MergedRepeatedKeys : Type 0
MergedRepeatedKeys =
    let t = example_object (example_member "a" (example_object (example_member "b" (example_number "1") ∷ [])) ∷ example_member "a" (example_number "2") ∷ []) in
    (merge_patched t (example_object (example_member "a" null ∷ [])) ≡ example_object [])
    × (merge_patched t (example_object (example_member "a" (example_object (example_member "c" (example_number "3") ∷ [])) ∷ [])) ≡ example_object (example_member "a" (example_object (example_member "b" (example_number "1") ∷ example_member "c" (example_number "3") ∷ [])) ∷ example_member "a" (example_number "2") ∷ []))

-- RFC 7396, sections 1 and 3; a new member is last
abbrev pub MergesOfTheText : Type 0
MergesOfTheText =
    (
    merge_patched (example_object (example_member "a" (example_string "b") ∷ example_member "c" (example_object (example_member "d" (example_string "e") ∷ example_member "f" (example_string "g") ∷ [])) ∷ []))
    (example_object (example_member "a" (example_string "z") ∷ example_member "c" (example_object (example_member "f" null ∷ [])) ∷ []))
    ≡ example_object (example_member "a" (example_string "z") ∷ example_member "c" (example_object (example_member "d" (example_string "e") ∷ [])) ∷ [])
    )
    × (
    merge_patched
    (
    example_object (
    example_member "title" (example_string "Goodbye!")
    ∷ example_member "author" (example_object (example_member "givenName" (example_string "John") ∷ example_member "familyName" (example_string "Doe") ∷ []))
    ∷ example_member "tags" (example_array (example_string "example" ∷ example_string "sample" ∷ []))
    ∷ example_member "content" (example_string "This will be unchanged")
    ∷ []
    )
    )
    (
    example_object (
    example_member "title" (example_string "Hello!")
    ∷ example_member "phoneNumber" (example_string "+01-123-456-7890")
    ∷ example_member "author" (example_object (example_member "familyName" null ∷ []))
    ∷ example_member "tags" (example_array (example_string "example" ∷ []))
    ∷ []
    )
    )
    ≡ example_object (
    example_member "title" (example_string "Hello!")
    ∷ example_member "author" (example_object (example_member "givenName" (example_string "John") ∷ []))
    ∷ example_member "tags" (example_array (example_string "example" ∷ []))
    ∷ example_member "content" (example_string "This will be unchanged")
    ∷ example_member "phoneNumber" (example_string "+01-123-456-7890")
    ∷ []
    )
    )
