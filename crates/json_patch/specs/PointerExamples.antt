-- Examples of pointers: those of RFC 6901, section 5, and more.
use Rattle.std.specs.Prelude.{◌≡◌, [], ◌∷◌, Some, None, option_map, Ok, Err, codes}
use Prim.Native.String.{String}
use Rattle.json_grammar.specs.Tree.{Tree}
use Rattle.json_model.specs.Edit.{Changed, not_found, type_unmatched}
use Rattle.json_model.specs.ExampleTrees.{example_object, example_array, example_member, example_string, example_number}
use Rattle.json_patch.specs.Pointer.{pointer_of, value_at_pointer}

-- the text is a pointer that references this
abbrev pub PointsTo : Tree → String → Changed Tree → Type 0
PointsTo t s r = option_map (λ p. value_at_pointer p t) (pointer_of (codes s)) ≡ Some r

-- the document of RFC 6901, section 5
abbrev pub pointed : Tree
pointed =
    example_object (
    example_member "foo" (example_array (example_string "bar" ∷ example_string "baz" ∷ []))
    ∷ example_member "" (example_number "0")
    ∷ example_member "a/b" (example_number "1")
    ∷ example_member "c%d" (example_number "2")
    ∷ example_member "e^f" (example_number "3")
    ∷ example_member "g|h" (example_number "4")
    ∷ example_member "i\\j" (example_number "5")
    ∷ example_member "k\"l" (example_number "6")
    ∷ example_member " " (example_number "7")
    ∷ example_member "m~n" (example_number "8")
    ∷ []
    )

-- RFC 6901, section 5
abbrev pub PointersOfTheRfc : Type 0
PointersOfTheRfc =
    PointsTo pointed "" (Ok pointed)
    × PointsTo pointed "/foo" (Ok (example_array (example_string "bar" ∷ example_string "baz" ∷ [])))
    × PointsTo pointed "/foo/0" (Ok (example_string "bar"))
    × PointsTo pointed "/" (Ok (example_number "0"))
    × PointsTo pointed "/a~1b" (Ok (example_number "1"))
    × PointsTo pointed "/c%d" (Ok (example_number "2"))
    × PointsTo pointed "/e^f" (Ok (example_number "3"))
    × PointsTo pointed "/g|h" (Ok (example_number "4"))
    × PointsTo pointed "/i\\j" (Ok (example_number "5"))
    × PointsTo pointed "/k\"l" (Ok (example_number "6"))
    × PointsTo pointed "/ " (Ok (example_number "7"))
    × PointsTo pointed "/m~0n" (Ok (example_number "8"))

-- texts that are no pointers: one that begins with no slash, and a `~` before neither 0 nor 1
abbrev pub NotPointers : Type 0
NotPointers = (pointer_of (codes "a") ≡ None) × (pointer_of (codes "/~2") ≡ None) × (pointer_of (codes "/a~") ≡ None) × (pointer_of (codes "/~01") ≡ Some (codes "~1" ∷ []))

-- a missing key, indexes past the end and with a leading 0, `-`, and a token into a string
abbrev pub PointersToNothing : Type 0
PointersToNothing =
    PointsTo pointed "/x" (Err not_found)
    × PointsTo pointed "/foo/2" (Err not_found)
    × PointsTo pointed "/foo/01" (Err not_found)
    × PointsTo pointed "/foo/00" (Err not_found)
    × PointsTo pointed "/foo/-" (Err not_found)
    × PointsTo pointed "/foo/" (Err not_found)
    × PointsTo pointed "/foo/1e0" (Err not_found)
    × PointsTo pointed "/foo/0/x" (Err type_unmatched)
    × PointsTo pointed "/x/y" (Err not_found)

-- if a key repeats, its first value counts
abbrev pub FirstOfRepeatedKeys : Type 0
FirstOfRepeatedKeys = PointsTo (example_object (example_member "a" (example_number "1") ∷ example_member "a" (example_number "2") ∷ [])) "/a" (Ok (example_number "1"))
