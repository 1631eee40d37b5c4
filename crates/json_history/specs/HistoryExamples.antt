-- Examples of changes and histories.
use Rattle.std.specs.Prelude.{◌≡◌, [], ◌∷◌, Ok, Err, codes}
use Rattle.json_grammar.specs.Tree.{null}
use Rattle.json_model.specs.Edit.{key_step, insert_at, push_at, remove_at, type_unmatched}
use Rattle.json_model.specs.ExampleTrees.{example_object, example_array, example_member, example_number}
use Rattle.json_history.specs.Change.{put, drop_last, put_pairs, change, undone}
use Rattle.json_history.specs.History.{edit, undo, redo, new_history, after_calls, run_calls}

-- an undo puts the members of a key back at their indexes
abbrev pub MembersPutBack : Type 0
MembersPutBack =
    let t = example_object (example_member "a" (example_number "1") ∷ example_member "b" (example_number "2") ∷ example_member "a" (example_number "3") ∷ []) in
    let c = put_pairs [] ((0, codes "a", example_number "1") ∷ (2, codes "a", example_number "3") ∷ []) in
    (change t (remove_at [] (key_step (codes "a"))) ≡ Ok c) × (undone (example_object (example_member "b" (example_number "2") ∷ [])) c ≡ Ok t)

-- an insertion changes the first member of its key, or adds a last one
abbrev pub InsertChanges : Type 0
InsertChanges =
    let t = example_object (example_member "a" (example_number "1") ∷ example_member "a" (example_number "2") ∷ []) in
    (change t (insert_at [] (codes "a") null) ≡ Ok (put (key_step (codes "a") ∷ []) (example_number "1"))) × (change t (insert_at [] (codes "b") null) ≡ Ok (drop_last []))

-- `{"a":1,"b":2,"a":3}`: remove and undo
abbrev pub RemoveThenUndo : Type 0
RemoveThenUndo =
    let t = example_object (example_member "a" (example_number "1") ∷ example_member "b" (example_number "2") ∷ example_member "a" (example_number "3") ∷ []) in
    after_calls (new_history t) (edit (remove_at [] (key_step (codes "a"))) ∷ undo ∷ []) ≡ record { now = t; past = []; future = example_object (example_member "b" (example_number "2") ∷ []) ∷ [] }

-- `[0]`: an edit after an undo empties the future
abbrev pub EditAfterUndo : Type 0
EditAfterUndo =
    let t = example_array (example_number "0" ∷ []) in
    after_calls (new_history t) (edit (push_at [] (example_number "1")) ∷ undo ∷ edit (push_at [] (example_number "2")) ∷ redo ∷ [])
    ≡ record { now = example_array (example_number "0" ∷ example_number "2" ∷ []); past = t ∷ []; future = [] }

-- nothing to undo or redo
abbrev pub NothingToUndo : Type 0
NothingToUndo = after_calls (new_history null) (undo ∷ redo ∷ []) ≡ new_history null

-- of two calls the second is an edit that does not apply
abbrev pub SecondCallFails : Type 0
SecondCallFails = run_calls (example_array (example_number "0" ∷ [])) (undo ∷ edit (push_at (key_step (codes "k") ∷ []) (example_number "1")) ∷ []) ≡ Err (1, type_unmatched)
