-- Examples of segments and selectors: those of RFC 9535, sections 2.2 to 2.7, whose objects are
-- visited in the order of their text.
use Rattle.std.specs.Prelude.{◌≡◌, [], ◌∷◌, pos, negsuc, None, Some, codes}
use Rattle.json_grammar.specs.Tree.{Tree, null}
use Rattle.json_model.specs.ExampleTrees.{example_object, example_array, example_member, example_string, example_number}
use Rattle.json_query.specs.ExampleQueries.{dot, brackets, dots, quoted, Finds, FindsPaths}
use Rattle.json_query.specs.Nodes.{element_at, member_at}
use Rattle.json_query.specs.NormalizedPaths.{normalized_path}
use Rattle.json_query.specs.Query.{wildcard_selector, index_selector, slice_selector}

-- `$` (section 2.2.3)
abbrev pub RootIdentifier : Type 0
RootIdentifier =
    let t = example_object (example_member "k" (example_string "v") ∷ []) in Finds t [] (("$", t) ∷ [])

-- the document of section 2.3.1.3
abbrev pub named_document : Tree
named_document =
    example_object (
    example_member "o" (example_object (example_member "j j" (example_object (example_member "k.k" (example_number "3") ∷ [])) ∷ []))
    ∷ example_member "'" (example_object (example_member "@" (example_number "2") ∷ []))
    ∷ []
    )

-- `$.o['j j']`, `$.o['j j']['k.k']` and `$["'"]["@"]`
abbrev pub NameSelectors : Type 0
NameSelectors =
    Finds named_document (dot "o" ∷ brackets (quoted "j j" ∷ []) ∷ []) (("$['o']['j j']", example_object (example_member "k.k" (example_number "3") ∷ [])) ∷ [])
    × Finds named_document (dot "o" ∷ brackets (quoted "j j" ∷ []) ∷ brackets (quoted "k.k" ∷ []) ∷ []) (("$['o']['j j']['k.k']", example_number "3") ∷ [])
    × Finds named_document (brackets (quoted "'" ∷ []) ∷ brackets (quoted "@" ∷ []) ∷ []) (("$['\\'']['@']", example_number "2") ∷ [])

-- the document of section 2.3.2.3
abbrev pub wildcard_document : Tree
wildcard_document =
    example_object (
    example_member "o" (example_object (example_member "j" (example_number "1") ∷ example_member "k" (example_number "2") ∷ []))
    ∷ example_member "a" (example_array (example_number "5" ∷ example_number "3" ∷ []))
    ∷ []
    )

-- `$[*]`, `$.o[*]`, `$.o[*, *]` and `$.a[*]`
abbrev pub WildcardSelectors : Type 0
WildcardSelectors =
    FindsPaths wildcard_document (brackets (wildcard_selector ∷ []) ∷ []) ("$['o']" ∷ "$['a']" ∷ [])
    × Finds wildcard_document (dot "o" ∷ brackets (wildcard_selector ∷ []) ∷ []) (("$['o']['j']", example_number "1") ∷ ("$['o']['k']", example_number "2") ∷ [])
    × FindsPaths wildcard_document (dot "o" ∷ brackets (wildcard_selector ∷ wildcard_selector ∷ []) ∷ []) ("$['o']['j']" ∷ "$['o']['k']" ∷ "$['o']['j']" ∷ "$['o']['k']" ∷ [])
    × Finds wildcard_document (dot "a" ∷ brackets (wildcard_selector ∷ []) ∷ []) (("$['a'][0]", example_number "5") ∷ ("$['a'][1]", example_number "3") ∷ [])

-- the array of section 2.3.3.3
abbrev pub two_strings : Tree
two_strings = example_array (example_string "a" ∷ example_string "b" ∷ [])

-- `$[1]` and `$[-2]`; and `$[2]` and `$[-3]`, which are not there
abbrev pub IndexSelectors : Type 0
IndexSelectors =
    Finds two_strings (brackets (index_selector (pos 1) ∷ []) ∷ []) (("$[1]", example_string "b") ∷ [])
    × Finds two_strings (brackets (index_selector (negsuc 1) ∷ []) ∷ []) (("$[0]", example_string "a") ∷ [])
    × Finds two_strings (brackets (index_selector (pos 2) ∷ []) ∷ []) []
    × Finds two_strings (brackets (index_selector (negsuc 2) ∷ []) ∷ []) []

-- the array of section 2.3.4.3
abbrev pub seven_strings : Tree
seven_strings =
    example_array (example_string "a" ∷ example_string "b" ∷ example_string "c" ∷ example_string "d" ∷ example_string "e" ∷ example_string "f" ∷ example_string "g" ∷ [])

-- `$[1:3]`, `$[5:]`, `$[1:5:2]`, `$[5:1:-2]` and `$[::-1]`; and steps of 0, ends past the array and
-- a start after the end
abbrev pub SliceSelectors : Type 0
SliceSelectors =
    Finds seven_strings (brackets (slice_selector (Some (pos 1)) (Some (pos 3)) (pos 1) ∷ []) ∷ []) (("$[1]", example_string "b") ∷ ("$[2]", example_string "c") ∷ [])
    × FindsPaths seven_strings (brackets (slice_selector (Some (pos 5)) None (pos 1) ∷ []) ∷ []) ("$[5]" ∷ "$[6]" ∷ [])
    × FindsPaths seven_strings (brackets (slice_selector (Some (pos 1)) (Some (pos 5)) (pos 2) ∷ []) ∷ []) ("$[1]" ∷ "$[3]" ∷ [])
    × FindsPaths seven_strings (brackets (slice_selector (Some (pos 5)) (Some (pos 1)) (negsuc 1) ∷ []) ∷ []) ("$[5]" ∷ "$[3]" ∷ [])
    × FindsPaths seven_strings (brackets (slice_selector None None (negsuc 0) ∷ []) ∷ []) ("$[6]" ∷ "$[5]" ∷ "$[4]" ∷ "$[3]" ∷ "$[2]" ∷ "$[1]" ∷ "$[0]" ∷ [])
    × FindsPaths seven_strings (brackets (slice_selector None None (pos 0) ∷ []) ∷ []) []
    × FindsPaths seven_strings (brackets (slice_selector (Some (negsuc 1)) (Some (pos 99)) (pos 1) ∷ []) ∷ []) ("$[5]" ∷ "$[6]" ∷ [])
    × FindsPaths seven_strings (brackets (slice_selector (Some (pos 3)) (Some (pos 1)) (pos 1) ∷ []) ∷ []) []
    × FindsPaths seven_strings (brackets (slice_selector (Some (pos 99)) (Some (negsuc 99)) (negsuc 2) ∷ []) ∷ []) ("$[6]" ∷ "$[3]" ∷ "$[0]" ∷ [])

-- `$[0, 3]`, `$[0:2, 5]` and `$[0, 0]` (section 2.5.1.3)
abbrev pub ChildSegments : Type 0
ChildSegments =
    FindsPaths seven_strings (brackets (index_selector (pos 0) ∷ index_selector (pos 3) ∷ []) ∷ []) ("$[0]" ∷ "$[3]" ∷ [])
    × FindsPaths seven_strings (brackets (slice_selector (Some (pos 0)) (Some (pos 2)) (pos 1) ∷ index_selector (pos 5) ∷ []) ∷ []) ("$[0]" ∷ "$[1]" ∷ "$[5]" ∷ [])
    × FindsPaths seven_strings (brackets (index_selector (pos 0) ∷ index_selector (pos 0) ∷ []) ∷ []) ("$[0]" ∷ "$[0]" ∷ [])

-- the document of section 2.5.2.3
abbrev pub descendant_document : Tree
descendant_document =
    example_object (
    example_member "o" (example_object (example_member "j" (example_number "1") ∷ example_member "k" (example_number "2") ∷ []))
    ∷ example_member "a" (
    example_array (
    example_number "5"
    ∷ example_number "3"
    ∷ example_array (example_object (example_member "j" (example_number "4") ∷ []) ∷ example_object (example_member "k" (example_number "6") ∷ []) ∷ [])
    ∷ []
    )
    )
    ∷ []
    )

-- `$..j`, `$..[0]`, `$..*`, `$..o`, `$.o..[*, *]` and `$.a..[0, 1]`
abbrev pub DescendantSegments : Type 0
DescendantSegments =
    Finds descendant_document (dots (quoted "j" ∷ []) ∷ []) (("$['o']['j']", example_number "1") ∷ ("$['a'][2][0]['j']", example_number "4") ∷ [])
    × FindsPaths descendant_document (dots (index_selector (pos 0) ∷ []) ∷ []) ("$['a'][0]" ∷ "$['a'][2][0]" ∷ [])
    × FindsPaths descendant_document (dots (wildcard_selector ∷ []) ∷ [])
    ("$['o']" ∷ "$['a']" ∷ "$['o']['j']" ∷ "$['o']['k']" ∷ "$['a'][0]" ∷ "$['a'][1]" ∷ "$['a'][2]" ∷ "$['a'][2][0]" ∷ "$['a'][2][1]" ∷ "$['a'][2][0]['j']" ∷ "$['a'][2][1]['k']" ∷ [])
    × FindsPaths descendant_document (dots (quoted "o" ∷ []) ∷ []) ("$['o']" ∷ [])
    × FindsPaths descendant_document (dot "o" ∷ dots (wildcard_selector ∷ wildcard_selector ∷ []) ∷ []) ("$['o']['j']" ∷ "$['o']['k']" ∷ "$['o']['j']" ∷ "$['o']['k']" ∷ [])
    × FindsPaths descendant_document (dot "a" ∷ dots (index_selector (pos 0) ∷ index_selector (pos 1) ∷ []) ∷ []) ("$['a'][0]" ∷ "$['a'][1]" ∷ "$['a'][2][0]" ∷ "$['a'][2][1]" ∷ [])

-- each member of a repeated name is selected, in the order of the text
abbrev pub RepeatedNames : Type 0
RepeatedNames =
    let t = example_object (example_member "a" (example_number "1") ∷ example_member "b" null ∷ example_member "a" (example_number "2") ∷ []) in
    Finds t (dot "a" ∷ []) (("$['a']", example_number "1") ∷ ("$['a']", example_number "2") ∷ [])

-- the locations of section 2.7, and a name with each kind of escape
abbrev pub PathsOfTheRfc : Type 0
PathsOfTheRfc =
    (normalized_path (member_at 0 (codes "a") ∷ []) ≡ codes "$['a']")
    × (normalized_path (element_at 1 ∷ []) ≡ codes "$[1]")
    × (normalized_path (member_at 0 (codes "a") ∷ member_at 0 (codes "b") ∷ element_at 1 ∷ []) ≡ codes "$['a']['b'][1]")
    × (normalized_path (member_at 0 (11 ∷ []) ∷ []) ≡ codes "$['\\u000b']")
    × (normalized_path (member_at 0 (8 ∷ 9 ∷ 10 ∷ 12 ∷ 13 ∷ 31 ∷ 39 ∷ 92 ∷ 34 ∷ []) ∷ []) ≡ codes "$['\\b\\t\\n\\f\\r\\u001f\\'\\\\\"']")
