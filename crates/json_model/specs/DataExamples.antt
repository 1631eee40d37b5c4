-- Examples of data and their trees, and of merging.
use Rattle.std.specs.Prelude.{◌≡◌, pos, negsuc, [], ◌∷◌, true, Some, None, codes}
use Rattle.json_grammar.specs.Tree.{null, boolean, num, list, pairs, list_trees, list_pairs}
use Rattle.json_model.specs.Datum.{null_datum, boolean_datum, integer_datum, text_datum, literal_datum, list_datum, rows_datum, list_data, list_rows, key_of, tree_of_datum}
use Rattle.json_model.specs.Merged.{merged}

-- keys that are integers and booleans have the texts `-1` and `true`
abbrev pub RowsSpelled : Type 0
RowsSpelled =
    let rows = (integer_datum (negsuc 0), boolean_datum true) ∷ (boolean_datum true, literal_datum (codes "1.50")) ∷ [] in
    let members = (codes "-1", boolean true) ∷ (codes "true", num (codes "1.50")) ∷ [] in
    tree_of_datum (rows_datum (list_rows rows)) ≡ Some (pairs (list_pairs members))

-- rows keep their order, and a key that repeats
abbrev pub RowsRepeated : Type 0
RowsRepeated =
    let rows = (text_datum (codes "7"), null_datum) ∷ (integer_datum (pos 7), integer_datum (pos 0)) ∷ [] in
    let members = (codes "7", null) ∷ (codes "7", num (codes "0")) ∷ [] in
    tree_of_datum (rows_datum (list_rows rows)) ≡ Some (pairs (list_pairs members))

-- a list is no key, and a row with such a key has no tree, however deeply nested
abbrev pub KeyWithoutText : Type 0
KeyWithoutText =
    let key = list_datum (list_data (integer_datum (pos 32) ∷ integer_datum (pos 64) ∷ [])) in
    let rows = rows_datum (list_rows ((key, null_datum) ∷ [])) in
    (key_of key ≡ None) × (tree_of_datum (list_datum (list_data (text_datum (codes "a") ∷ rows ∷ []))) ≡ None)

-- `{"a":1,"b":2,"a":[{"c":3,"c":4}]}` merged is `{"a":[{"c":4}],"b":2}`
abbrev pub MergedAtEachObject : Type 0
MergedAtEachObject =
    let inner = pairs (list_pairs ((codes "c", num (codes "3")) ∷ (codes "c", num (codes "4")) ∷ [])) in
    let inner_merged = pairs (list_pairs ((codes "c", num (codes "4")) ∷ [])) in
    let last = list (list_trees (inner ∷ [])) in
    let last_merged = list (list_trees (inner_merged ∷ [])) in
    merged (pairs (list_pairs ((codes "a", num (codes "1")) ∷ (codes "b", num (codes "2")) ∷ (codes "a", last) ∷ [])))
    ≡ pairs (list_pairs ((codes "a", last_merged) ∷ (codes "b", num (codes "2")) ∷ []))
