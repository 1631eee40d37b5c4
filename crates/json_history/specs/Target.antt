-- What edits change, and what changes undo, of the value at the end of their path.
use Rattle.std.specs.Prelude.{ℕ, ◌-◌, List, length, take, cond, Ok, Err}
use Rattle.json_grammar.specs.Tree.{Tree}
use Rattle.json_model.specs.Edit.{Step, key_step, index_step, Changed, not_found, within, on_pairs, on_list, has_key, and_then}
use Rattle.json_model.specs.Same.{first_value}
use Rattle.json_value.specs.Denotes.{tree_of, text_bytes}
use Rattle.json_value.specs.Edits.{path_steps, step_of}
use Rattle.json_value.specs.declared.path.Edit.{Edit}
use Rattle.json_value.specs.declared.path.Edit.TheVariants.{Set, Insert, Push, Remove}
use Rattle.json_history.specs.Lookup.{lookup_step}
use Rattle.json_history.specs.Change.{TreeChange, put, drop_last, put_back, put_pairs, members_named, members_if_object, elements_if_array, insert_change, insert_element_at, insert_members, without_last}
use Rattle.json_history.specs.ChangeTrees.{removed_members}
use Rattle.json_history.specs.declared.change.Change.{Change}
use Rattle.json_history.specs.declared.change.Change.TheVariants.{Put, DropLast, PutBack, PutPairs}

-- what an insertion, a push, a removal and an edit change, where t is the value at the end of
-- the path
abbrev pub insert_change_in : List Step → List ℕ → Tree → Changed TreeChange
insert_change_in p k t = within (λ ps. insert_change p k (first_value k ps)) (members_if_object t)

abbrev pub push_change_in : List Step → Tree → Changed TreeChange
push_change_in p t = within (λ ts. drop_last p) (elements_if_array t)

abbrev pub remove_change_in : List Step → Step → Tree → Changed TreeChange
remove_change_in p (index_step i) t = within (λ old. put_back p i old) (lookup_step (index_step i) t)
remove_change_in p (key_step k) t = and_then (members_if_object t) (λ ps. cond (has_key k ps) (Ok (put_pairs p (members_named 0 k ps))) (Err not_found))

abbrev pub change_in : Edit → Tree → Changed TreeChange
change_in (Set p v) t = Ok (put (path_steps p) t)
change_in (Insert p k v) t = insert_change_in (path_steps p) (text_bytes k) t
change_in (Push p v) t = push_change_in (path_steps p) t
change_in (Remove p s) t = remove_change_in (path_steps p) (step_of s) t

-- the value at the end of the path with the change undone
abbrev pub undone_in : Change → Tree → Changed Tree
undone_in (Put p old) t = Ok (tree_of old)
undone_in (DropLast p) t = without_last t
undone_in (PutBack p i old) t = on_list (insert_element_at i (tree_of old)) t
undone_in (PutPairs p es) t = on_pairs (insert_members (removed_members es)) t

-- all of a list but its last
abbrev pub all_but_last : {A : Type 0} → List A → List A
all_but_last xs = take (length xs - 1) xs
