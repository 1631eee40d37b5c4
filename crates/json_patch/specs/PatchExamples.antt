-- Examples of patches: those of RFC 6902, appendix A, and more.
use Rattle.std.specs.Prelude.{◌≡◌, ℕ, List, [], ◌∷◌, true, Some, None, Ok, Err}
use Prim.Native.String.{String}
use Rattle.json_grammar.specs.Tree.{Tree, null}
use Rattle.json_model.specs.Edit.{not_found, type_unmatched}
use Rattle.json_model.specs.Same.{same}
use Rattle.json_model.specs.ExampleTrees.{example_object, example_array, example_member, example_string, example_number}
use Rattle.json_patch.specs.Patch.{lookup_failed, bad_patch, test_failed, patched}

-- operations as trees
abbrev pub op_path : String → String → List (List ℕ × Tree) → Tree
op_path op path ms = example_object (example_member "op" (example_string op) ∷ example_member "path" (example_string path) ∷ ms)

abbrev pub op_value : String → String → Tree → Tree
op_value op path v = op_path op path (example_member "value" v ∷ [])

abbrev pub op_from : String → String → String → Tree
op_from op from path = example_object (example_member "op" (example_string op) ∷ example_member "from" (example_string from) ∷ example_member "path" (example_string path) ∷ [])

-- one operation makes u of t
abbrev pub OperationMakes : Tree → Tree → Tree → Type 0
OperationMakes t o u = patched t (example_array (o ∷ [])) ≡ Ok u

-- A.1: the new member is last; the appendix shows it first, and the two are the same
abbrev pub AddingAnObjectMember : Type 0
AddingAnObjectMember =
    let made = example_object (example_member "foo" (example_string "bar") ∷ example_member "baz" (example_string "qux") ∷ []) in
    let shown = example_object (example_member "baz" (example_string "qux") ∷ example_member "foo" (example_string "bar") ∷ []) in
    OperationMakes (example_object (example_member "foo" (example_string "bar") ∷ [])) (op_value "add" "/baz" (example_string "qux")) made × (same made shown ≡ true)

-- A.2
abbrev pub AddingAnArrayElement : Type 0
AddingAnArrayElement =
    OperationMakes (example_object (example_member "foo" (example_array (example_string "bar" ∷ example_string "baz" ∷ [])) ∷ [])) (op_value "add" "/foo/1" (example_string "qux"))
    (example_object (example_member "foo" (example_array (example_string "bar" ∷ example_string "qux" ∷ example_string "baz" ∷ [])) ∷ []))

-- A.3
abbrev pub RemovingAnObjectMember : Type 0
RemovingAnObjectMember =
    OperationMakes (example_object (example_member "baz" (example_string "qux") ∷ example_member "foo" (example_string "bar") ∷ [])) (op_path "remove" "/baz" []) (example_object (example_member "foo" (example_string "bar") ∷ []))

-- A.4
abbrev pub RemovingAnArrayElement : Type 0
RemovingAnArrayElement =
    OperationMakes (example_object (example_member "foo" (example_array (example_string "bar" ∷ example_string "qux" ∷ example_string "baz" ∷ [])) ∷ [])) (op_path "remove" "/foo/1" [])
    (example_object (example_member "foo" (example_array (example_string "bar" ∷ example_string "baz" ∷ [])) ∷ []))

-- A.5
abbrev pub ReplacingAValue : Type 0
ReplacingAValue =
    OperationMakes (example_object (example_member "baz" (example_string "qux") ∷ example_member "foo" (example_string "bar") ∷ [])) (op_value "replace" "/baz" (example_string "boo"))
    (example_object (example_member "baz" (example_string "boo") ∷ example_member "foo" (example_string "bar") ∷ []))

-- A.6
abbrev pub MovingAValue : Type 0
MovingAValue =
    OperationMakes
    (example_object (example_member "foo" (example_object (example_member "bar" (example_string "baz") ∷ example_member "waldo" (example_string "fred") ∷ [])) ∷ example_member "qux" (example_object (example_member "corge" (example_string "grault") ∷ [])) ∷ []))
    (op_from "move" "/foo/waldo" "/qux/thud")
    (example_object (example_member "foo" (example_object (example_member "bar" (example_string "baz") ∷ [])) ∷ example_member "qux" (example_object (example_member "corge" (example_string "grault") ∷ example_member "thud" (example_string "fred") ∷ [])) ∷ []))

-- A.7
abbrev pub MovingAnArrayElement : Type 0
MovingAnArrayElement =
    OperationMakes (example_object (example_member "foo" (example_array (example_string "all" ∷ example_string "grass" ∷ example_string "cows" ∷ example_string "eat" ∷ [])) ∷ [])) (op_from "move" "/foo/1" "/foo/3")
    (example_object (example_member "foo" (example_array (example_string "all" ∷ example_string "cows" ∷ example_string "eat" ∷ example_string "grass" ∷ [])) ∷ []))

-- A.8
abbrev pub TestingAValueSuccess : Type 0
TestingAValueSuccess =
    let t = example_object (example_member "baz" (example_string "qux") ∷ example_member "foo" (example_array (example_string "a" ∷ example_number "2" ∷ example_string "c" ∷ [])) ∷ []) in
    patched t (example_array (op_value "test" "/baz" (example_string "qux") ∷ op_value "test" "/foo/1" (example_number "2") ∷ [])) ≡ Ok t

-- A.9
abbrev pub TestingAValueError : Type 0
TestingAValueError =
    patched (example_object (example_member "baz" (example_string "qux") ∷ [])) (example_array (op_value "test" "/baz" (example_string "bar") ∷ [])) ≡ Err (test_failed, Some 0)

-- A.10
abbrev pub AddingANestedMemberObject : Type 0
AddingANestedMemberObject =
    OperationMakes (example_object (example_member "foo" (example_string "bar") ∷ [])) (op_value "add" "/child" (example_object (example_member "grandchild" (example_object []) ∷ [])))
    (example_object (example_member "foo" (example_string "bar") ∷ example_member "child" (example_object (example_member "grandchild" (example_object []) ∷ [])) ∷ []))

-- A.11
abbrev pub IgnoringUnrecognizedElements : Type 0
IgnoringUnrecognizedElements =
    OperationMakes (example_object (example_member "foo" (example_string "bar") ∷ [])) (op_path "add" "/baz" (example_member "value" (example_string "qux") ∷ example_member "xyz" (example_number "123") ∷ []))
    (example_object (example_member "foo" (example_string "bar") ∷ example_member "baz" (example_string "qux") ∷ []))

-- A.12
abbrev pub AddingToANonexistentTarget : Type 0
AddingToANonexistentTarget =
    patched (example_object (example_member "foo" (example_string "bar") ∷ [])) (example_array (op_value "add" "/baz/bat" (example_string "qux") ∷ [])) ≡ Err (lookup_failed not_found, Some 0)

-- A.13: `op` occurs twice
abbrev pub InvalidJsonPatchDocument : Type 0
InvalidJsonPatchDocument =
    patched (example_object (example_member "foo" (example_string "bar") ∷ [])) (example_array (op_path "add" "/baz" (example_member "value" (example_string "qux") ∷ example_member "op" (example_string "remove") ∷ []) ∷ []))
    ≡ Err (bad_patch, Some 0)

-- A.14
abbrev pub EscapeOrdering : Type 0
EscapeOrdering =
    let t = example_object (example_member "/" (example_number "9") ∷ example_member "~1" (example_number "10") ∷ []) in
    OperationMakes t (op_value "test" "/~01" (example_number "10")) t

-- A.15
abbrev pub ComparingStringsAndNumbers : Type 0
ComparingStringsAndNumbers =
    patched (example_object (example_member "/" (example_number "9") ∷ example_member "~1" (example_number "10") ∷ [])) (example_array (op_value "test" "/~01" (example_string "10") ∷ [])) ≡ Err (test_failed, Some 0)

-- A.16
abbrev pub AddingAnArrayValue : Type 0
AddingAnArrayValue =
    OperationMakes (example_object (example_member "foo" (example_array (example_string "bar" ∷ [])) ∷ [])) (op_value "add" "/foo/-" (example_array (example_string "abc" ∷ example_string "def" ∷ [])))
    (example_object (example_member "foo" (example_array (example_string "bar" ∷ example_array (example_string "abc" ∷ example_string "def" ∷ []) ∷ [])) ∷ []))

-- ---- more

-- the second operation fails, and has the number 1
abbrev pub SecondFails : Type 0
SecondFails =
    patched (example_object (example_member "baz" (example_string "qux") ∷ [])) (example_array (op_value "add" "/a" (example_number "1") ∷ op_value "test" "/baz" (example_string "bar") ∷ [])) ≡ Err (test_failed, Some 1)

-- a later element that is not an operation is found before an operation that fails is applied
abbrev pub FormsAreReadFirst : Type 0
FormsAreReadFirst =
    (patched null (example_array (op_path "remove" "/a" [] ∷ op_path "add" "/a" [] ∷ [])) ≡ Err (bad_patch, Some 1))
    × (patched null (example_object []) ≡ Err (bad_patch, None))
    × (patched null (example_array (null ∷ [])) ≡ Err (bad_patch, Some 0))
    × (patched null (example_array (op_path "drop" "" [] ∷ [])) ≡ Err (bad_patch, Some 0))
    × (patched null (example_array (op_path "remove" "a" [] ∷ [])) ≡ Err (bad_patch, Some 0))

-- a value cannot be moved into its child, even if there is none; it can be moved to its own place
abbrev pub MovesIntoThemselves : Type 0
MovesIntoThemselves =
    let t = example_object (example_member "a" (example_object (example_member "b" (example_number "1") ∷ [])) ∷ []) in
    (patched t (example_array (op_from "move" "/a" "/a/b" ∷ [])) ≡ Err (bad_patch, Some 0))
    × (patched null (example_array (op_from "move" "/a" "/a/b" ∷ [])) ≡ Err (bad_patch, Some 0))
    × OperationMakes t (op_from "move" "/a" "/a") t
    × (patched t (example_array (op_from "move" "/x" "/x" ∷ [])) ≡ Err (lookup_failed not_found, Some 0))
    × OperationMakes t (op_from "move" "/a/b" "/a") (example_object (example_member "a" (example_number "1") ∷ []))

-- the root can be replaced and copied, and cannot be removed
abbrev pub RootsOfOperations : Type 0
RootsOfOperations =
    OperationMakes null (op_value "add" "" (example_number "1")) (example_number "1")
    × OperationMakes null (op_value "replace" "" (example_number "1")) (example_number "1")
    × (patched null (example_array (op_path "remove" "" [] ∷ [])) ≡ Err (lookup_failed type_unmatched, Some 0))
    × OperationMakes (example_object []) (op_from "copy" "" "/a") (example_object (example_member "a" (example_object []) ∷ []))
    × OperationMakes (example_object (example_member "a" null ∷ [])) (op_from "move" "/a" "") null

-- if a key repeats, `replace` and `add` set its first value, `move` moves it, and `remove` removes
-- all
abbrev pub RepeatedKeys : Type 0
RepeatedKeys =
    let t = example_object (example_member "a" (example_number "1") ∷ example_member "b" (example_number "2") ∷ example_member "a" (example_number "3") ∷ []) in
    OperationMakes t (op_value "replace" "/a" null) (example_object (example_member "a" null ∷ example_member "b" (example_number "2") ∷ example_member "a" (example_number "3") ∷ []))
    × OperationMakes t (op_value "add" "/a" null) (example_object (example_member "a" null ∷ example_member "b" (example_number "2") ∷ example_member "a" (example_number "3") ∷ []))
    × OperationMakes t (op_path "remove" "/a" []) (example_object (example_member "b" (example_number "2") ∷ []))
    × OperationMakes t (op_from "move" "/a" "/c") (example_object (example_member "b" (example_number "2") ∷ example_member "c" (example_number "1") ∷ []))

-- indexes at which `add` adds to an array, and at which it fails
abbrev pub IndexesOfAdd : Type 0
IndexesOfAdd =
    let t = example_array (example_number "0" ∷ []) in
    OperationMakes t (op_value "add" "/1" null) (example_array (example_number "0" ∷ null ∷ []))
    × (patched t (example_array (op_value "add" "/2" null ∷ [])) ≡ Err (lookup_failed not_found, Some 0))
    × (patched t (example_array (op_value "add" "/00" null ∷ [])) ≡ Err (lookup_failed not_found, Some 0))
    × (patched t (example_array (op_value "add" "/x" null ∷ [])) ≡ Err (lookup_failed not_found, Some 0))
    × (patched t (example_array (op_value "add" "/0/x" null ∷ [])) ≡ Err (lookup_failed type_unmatched, Some 0))
    × (patched t (example_array (op_path "remove" "/-" [] ∷ [])) ≡ Err (lookup_failed not_found, Some 0))
    × (patched t (example_array (op_value "replace" "/1" null ∷ [])) ≡ Err (lookup_failed not_found, Some 0))
