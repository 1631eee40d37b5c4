-- JSON Patch (RFC 6902): what a patch makes of a tree.
use Rattle.std.specs.Prelude.{ℕ, zero, suc, List, [], ◌∷◌, Bool, true, false, cond, ◌&&◌, Option, Some, None, Result, Ok, Err, bytes_eq, codes}
use Rattle.json_grammar.specs.Tree.{Tree, text, list, pairs, Trees, no_trees, tree_and, trees_list, Pairs}
use Rattle.json_model.specs.Edit.{Step, Edit, set_at, remove_at, Changed, EditRefusal, not_found, type_unmatched, within, at_path, inserted, pushed, edited_once, and_then}
use Rattle.json_model.specs.Same.{same}
use Rattle.json_model.specs.Sort.{values_of}
use Rattle.json_patch.specs.ValuesAt.{value_at_path}
use Rattle.json_patch.specs.Pointer.{ReferenceToken, pointer_of, index_of_token, step_of_token, path_of_tokens, value_at_pointer}

-- an operation (section 4); `move` and `copy` have `from` and then `path`
pub data Operation : Type 0 where
  add_at : List ReferenceToken → Tree → Operation
  remove : List ReferenceToken → Operation
  replace : List ReferenceToken → Tree → Operation
  move : List ReferenceToken → List ReferenceToken → Operation
  copy : List ReferenceToken → List ReferenceToken → Operation
  test : List ReferenceToken → Tree → Operation

-- ---- reading an operation (sections 3 and 4)

-- the value of a key that occurs once
abbrev pub single_of : List Tree → Option Tree
single_of [] = None
single_of (t ∷ []) = Some t
single_of (t ∷ u ∷ ts) = None

abbrev pub single_value : List ℕ → Pairs → Option Tree
single_value k ps = single_of (values_of k ps)

-- the bytes of a string
abbrev pub string_in : Option Tree → Option (List ℕ)
string_in (Some (text s)) = Some s
string_in _ = None

-- the tokens of a string that is a pointer
abbrev pub pointer_in : Option Tree → Option (List ReferenceToken)
pointer_in (Some (text s)) = pointer_of s
pointer_in _ = None

-- the second tokens begin with the first, and go on
abbrev pub is_proper_prefix : List ReferenceToken → List ReferenceToken → Bool
is_proper_prefix [] [] = false
is_proper_prefix [] (k ∷ q) = true
is_proper_prefix (j ∷ p) [] = false
is_proper_prefix (j ∷ p) (k ∷ q) = bytes_eq j k && is_proper_prefix p q

-- an operation, if the members that it needs are there
abbrev pub operation_with_value : (List ReferenceToken → Tree → Operation) → Option (List ReferenceToken) → Option Tree → Option Operation
operation_with_value f (Some p) (Some v) = Some (f p v)
operation_with_value f _ _ = None

abbrev pub with_path : (List ReferenceToken → Operation) → Option (List ReferenceToken) → Option Operation
with_path f (Some p) = Some (f p)
with_path f None = None

abbrev pub with_from : (List ReferenceToken → List ReferenceToken → Operation) → Option (List ReferenceToken) → Option (List ReferenceToken) → Option Operation
with_from f (Some q) (Some p) = Some (f q p)
with_from f _ _ = None

-- a value cannot be moved into one of its children (section 4.4)
abbrev pub move_allowed : Option Operation → Option Operation
move_allowed (Some (move q p)) = cond (is_proper_prefix q p) None (Some (move q p))
move_allowed o = o

-- the operation named by `op`, given `path`, `from` and `value`
abbrev pub operation_named : List ℕ → Option (List ReferenceToken) → Option (List ReferenceToken) → Option Tree → Option Operation
operation_named n path from value =
    cond (bytes_eq n (codes "add")) (operation_with_value add_at path value)
    (cond (bytes_eq n (codes "remove")) (with_path remove path)
    (cond (bytes_eq n (codes "replace")) (operation_with_value replace path value)
    (cond (bytes_eq n (codes "move")) (move_allowed (with_from move from path))
    (cond (bytes_eq n (codes "copy")) (with_from copy from path)
    (cond (bytes_eq n (codes "test")) (operation_with_value test path value) None)))))

abbrev pub operation_with_name : Option (List ℕ) → Pairs → Option Operation
operation_with_name None ps = None
operation_with_name (Some n) ps = operation_named n (pointer_in (single_value (codes "path") ps)) (pointer_in (single_value (codes "from") ps)) (single_value (codes "value") ps)

-- the operation that a tree is: each member that it needs occurs once, and other members are
-- ignored
abbrev pub operation_of : Tree → Option Operation
operation_of (pairs ps) = operation_with_name (string_in (single_value (codes "op") ps)) ps
operation_of _ = None

-- ---- applying an operation (section 4)

-- why a patch fails
pub data PatchFailure : Type 0 where
  -- a pointer of an operation references nothing
  lookup_failed : EditRefusal → PatchFailure
  -- it is not an array of operations
  bad_patch : PatchFailure
  -- `test` found another value
  test_failed : PatchFailure

-- the tokens before the last, and the last
abbrev pub split_last : ReferenceToken → List ReferenceToken → List ReferenceToken × ReferenceToken
split_last k [] = ([], k)
split_last k (j ∷ p) = let r = split_last j p in (k ∷ r.0, r.1)

-- u before the element of the index, or after the last
abbrev pub insert_before : ℕ → Tree → Trees → Changed Trees
insert_before zero u ts = Ok (tree_and u ts)
insert_before (suc i) u no_trees = Err not_found
insert_before (suc i) u (tree_and t ts) = within (λ us. tree_and t us) (insert_before i u ts)

-- u in an array at the index of a token; `-` is the index after the last element
abbrev pub insert_at_index : Option ℕ → Tree → Trees → Changed Trees
insert_at_index None u ts = Err not_found
insert_at_index (Some i) u ts = insert_before i u ts

abbrev pub with_element : ReferenceToken → Tree → Trees → Changed Trees
with_element k u ts = cond (bytes_eq k (codes "-")) (Ok (pushed u ts)) (insert_at_index (index_of_token k) u ts)

-- u in an object under a key, or in an array at an index
abbrev pub with_child : ReferenceToken → Tree → Tree → Changed Tree
with_child k u (pairs ps) = Ok (pairs (inserted k u ps))
with_child k u (list ts) = within list (with_element k u ts)
with_child k u _ = Err type_unmatched

-- section 4.1: at the root u replaces the tree; else it is added to the value that the tokens
-- before the last reference
abbrev pub added_at : List ReferenceToken → Tree → Tree → Changed Tree
added_at [] u t = Ok u
added_at (k ∷ p) u t = let l = split_last k p in and_then (path_of_tokens l.0 t) (λ q. at_path q (with_child l.1 u) t)

-- the edit that removes what the token names from the value at the path
abbrev pub removal_edit : List Step → ReferenceToken → Tree → Changed Edit
removal_edit q k t = and_then (value_at_path q t) (λ c. within (λ s. remove_at q s) (step_of_token k c))

-- section 4.2: the value that the tokens reference removed, with all members of its key; the root
-- cannot be removed
abbrev pub removed_at : List ReferenceToken → Tree → Changed Tree
removed_at [] t = Err type_unmatched
removed_at (k ∷ p) t = let l = split_last k p in and_then (path_of_tokens l.0 t) (λ q. and_then (removal_edit q l.1 t) (λ e. edited_once e t))

-- section 4.3: u in place of the value that the tokens reference
abbrev pub replaced_at : List ReferenceToken → Tree → Tree → Changed Tree
replaced_at p u t = and_then (path_of_tokens p t) (λ q. edited_once (set_at q u) t)

abbrev pub tokens_eq : List ReferenceToken → List ReferenceToken → Bool
tokens_eq [] [] = true
tokens_eq (j ∷ p) (k ∷ q) = bytes_eq j k && tokens_eq p q
tokens_eq _ _ = false

-- the outcome of a change that fails where a pointer references nothing
abbrev pub lookup_outcome : {A : Type 0} → Changed A → Result A PatchFailure
lookup_outcome (Ok x) = Ok x
lookup_outcome (Err e) = Err (lookup_failed e)

-- what an operation makes of a tree
abbrev pub applied : Operation → Tree → Result Tree PatchFailure
applied (add_at p u) t = lookup_outcome (added_at p u t)
applied (remove p) t = lookup_outcome (removed_at p t)
applied (replace p u) t = lookup_outcome (replaced_at p u t)
applied (move q p) t =
    lookup_outcome (and_then (value_at_pointer q t) (λ u. elim (tokens_eq q p) [ true ↦ Ok t | false ↦ and_then (removed_at q t) (added_at p u) ]))
applied (copy q p) t = lookup_outcome (and_then (value_at_pointer q t) (λ u. added_at p u t))
applied (test p v) t = elim (value_at_pointer p t) [ Err e ↦ Err (lookup_failed e) | Ok u ↦ cond (same u v) (Ok t) (Err test_failed) ]

-- ---- applying a patch (section 5)

-- the operations that the trees are, or the number of the first that is none; the first tree has
-- the number n
abbrev pub operations_from : ℕ → List Tree → Result (List Operation) ℕ
operations_from n [] = Ok []
operations_from n (t ∷ ts) =
    elim (operation_of t) [ None ↦ Err n | Some o ↦ elim (operations_from (suc n) ts) [ Ok os ↦ Ok (o ∷ os) | Err m ↦ Err m ] ]

-- what the operations make of a tree in turn, or the number of the first that fails and why; the
-- first has the number n
abbrev pub applied_from : ℕ → List Operation → Tree → Result Tree (PatchFailure × Option ℕ)
applied_from n [] t = Ok t
applied_from n (o ∷ os) t = elim (applied o t) [ Ok u ↦ applied_from (suc n) os u | Err r ↦ Err (r, Some n) ]

-- what a patch makes of a tree; or why it fails, and the number of the operation that fails,
-- counted from 0
abbrev pub patched : Tree → Tree → Result Tree (PatchFailure × Option ℕ)
patched t (list ts) = elim (operations_from 0 (trees_list ts)) [ Ok os ↦ applied_from 0 os t | Err n ↦ Err (bad_patch, Some n) ]
patched t _ = Err (bad_patch, None)
