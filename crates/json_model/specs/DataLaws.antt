-- Laws of data and their trees, and of merging.
use Rattle.std.specs.Prelude.{◌≡◌, ℕ, List, map, Some, None, ◌↔◌}
use Rattle.json_grammar.specs.Tree.{Tree, list, list_trees, pairs, Pairs, no_pairs, list_pairs, pairs_list}
use Rattle.json_grammar.specs.Proper.{IsProper}
use Rattle.json_grammar.specs.Repeated.{RepeatsKey}
use Rattle.json_model.specs.Datum.{Datum, list_datum, rows_datum, list_data, list_rows, key_of, tree_of_datum, HasBareKey}
use Rattle.json_model.specs.Merged.{inserted_all, once, merged}

-- ---- data

-- a datum has no tree exactly where some key in it has no text
abbrev pub NoTreeByKeys : Type 0
NoTreeByKeys = (d : Datum) → (tree_of_datum d ≡ None) ↔ HasBareKey d

-- the tree of a list has the trees of its elements, in their order
abbrev pub ElementsInOrder : Type 0
ElementsInOrder =
    (ds : List Datum) (t : Tree)
    → tree_of_datum (list_datum (list_data ds)) ≡ Some t
    → (ts : List Tree) × (t ≡ list (list_trees ts)) × (map tree_of_datum ds ≡ map (λ (u : Tree). Some u) ts)

-- the tree of rows has a member for each row, in their order: the text of its key, and the tree of its value
abbrev pub RowsInOrder : Type 0
RowsInOrder =
    (rows : List (Datum × Datum)) (t : Tree)
    → tree_of_datum (rows_datum (list_rows rows)) ≡ Some t
    → (members : List (List ℕ × Tree))
    × (t ≡ pairs (list_pairs members))
    × (map (λ (r : Datum × Datum). key_of r.0) rows ≡ map (λ (m : List ℕ × Tree). Some m.0) members)
    × (map (λ (r : Datum × Datum). tree_of_datum r.1) rows ≡ map (λ (m : List ℕ × Tree). Some m.1) members)

-- ---- merging

-- members inserted in turn are each key once, at its first place, with its last value
abbrev pub InsertedOnce : Type 0
InsertedOnce = (ps : Pairs) → inserted_all (pairs_list ps) no_pairs ≡ once ps

-- no object of what is merged has two members of one name
abbrev pub MergedRepeatsNoKey : Type 0
MergedRepeatsNoKey = (t : Tree) → ¬ (RepeatsKey (merged t))

-- a tree in which no name repeats stays as it is
abbrev pub MergedKeeps : Type 0
MergedKeeps = (t : Tree) → ¬ (RepeatsKey t) → merged t ≡ t

-- what is merged keeps literals that are numbers, and strings and names that are UTF-8
abbrev pub MergedIsProper : Type 0
MergedIsProper = (t : Tree) → IsProper t → IsProper (merged t)
