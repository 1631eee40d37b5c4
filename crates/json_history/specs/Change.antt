-- What an edit changes of a tree, and how that is undone and redone.
use Rattle.std.specs.Prelude.{ℕ, zero, suc, List, [], ◌∷◌, ◌++◌, cond, Option, Some, None, Ok, Err, bytes_eq}
use Rattle.json_grammar.specs.Tree.{Tree, list, pairs, Trees, no_trees, tree_and, Pairs, no_pairs, pair_and}
use Rattle.json_model.specs.Edit.{Step, key_step, index_step, Edit, set_at, insert_at, push_at, remove_at, Changed, not_found, type_unmatched, within, on_pairs, on_list, at_path, has_key, and_then}
use Rattle.json_model.specs.Same.{first_value}
use Rattle.json_history.specs.Lookup.{lookup}

-- members that were removed, each with its index in the object from 0
abbrev pub RemovedMembers : Type 0
RemovedMembers = List (ℕ × List ℕ × Tree)

pub data TreeChange : Type 0 where
  -- the path's end had this value
  put : List Step → Tree → TreeChange
  -- the last member or element at the path's end is new
  drop_last : List Step → TreeChange
  -- the array at the path's end had this element at the index
  put_back : List Step → ℕ → Tree → TreeChange
  -- the object at the path's end had these members
  put_pairs : List Step → RemovedMembers → TreeChange

-- the members named k with their indexes, where the first member has the index n
abbrev pub members_named : ℕ → List ℕ → Pairs → RemovedMembers
members_named n k no_pairs = []
members_named n k (pair_and m t ps) = cond (bytes_eq m k) ((n, m, t) ∷ members_named (suc n) k ps) (members_named (suc n) k ps)

abbrev pub members_if_object : Tree → Changed Pairs
members_if_object (pairs ps) = Ok ps
members_if_object _ = Err type_unmatched

abbrev pub elements_if_array : Tree → Changed Trees
elements_if_array (list ts) = Ok ts
elements_if_array _ = Err type_unmatched

-- what an insertion changes, where o is the value of the key's first member
abbrev pub insert_change : List Step → List ℕ → Option Tree → TreeChange
insert_change p k None = drop_last p
insert_change p k (Some old) = put (p ++ key_step k ∷ []) old

-- what an edit changes of a tree, or why it does not apply
abbrev pub change : Tree → Edit → Changed TreeChange
change t (set_at p u) = within (λ old. put p old) (lookup p t)
change t (insert_at p k u) = and_then (lookup p t) (λ c. within (λ ps. insert_change p k (first_value k ps)) (members_if_object c))
change t (push_at p u) = and_then (lookup p t) (λ c. within (λ ts. drop_last p) (elements_if_array c))
change t (remove_at p (index_step i)) = within (λ old. put_back p i old) (lookup (p ++ index_step i ∷ []) t)
change t (remove_at p (key_step k)) = and_then (lookup p t) (λ c. and_then (members_if_object c) (λ ps. cond (has_key k ps) (Ok (put_pairs p (members_named 0 k ps))) (Err not_found)))

-- ---- undo

-- all members but the last
abbrev pub without_last_member : Pairs → Changed Pairs
without_last_member no_pairs = Err not_found
without_last_member (pair_and k t no_pairs) = Ok no_pairs
without_last_member (pair_and k t (pair_and m u ps)) = within (λ qs. pair_and k t qs) (without_last_member (pair_and m u ps))

-- all elements but the last
abbrev pub without_last_element : Trees → Changed Trees
without_last_element no_trees = Err not_found
without_last_element (tree_and t no_trees) = Ok no_trees
without_last_element (tree_and t (tree_and u ts)) = within (λ us. tree_and t us) (without_last_element (tree_and u ts))

-- an object or array without its last member or element
abbrev pub without_last : Tree → Changed Tree
without_last (pairs ps) = within pairs (without_last_member ps)
without_last (list ts) = within list (without_last_element ts)
without_last _ = Err type_unmatched

-- a member inserted at an index
abbrev pub insert_member_at : ℕ → List ℕ → Tree → Pairs → Changed Pairs
insert_member_at zero k u ps = Ok (pair_and k u ps)
insert_member_at (suc i) k u no_pairs = Err not_found
insert_member_at (suc i) k u (pair_and m t ps) = within (λ qs. pair_and m t qs) (insert_member_at i k u ps)

-- an element inserted at an index
abbrev pub insert_element_at : ℕ → Tree → Trees → Changed Trees
insert_element_at zero u ts = Ok (tree_and u ts)
insert_element_at (suc i) u no_trees = Err not_found
insert_element_at (suc i) u (tree_and t ts) = within (λ us. tree_and t us) (insert_element_at i u ts)

-- members inserted at their indexes, one after another
abbrev pub insert_members : RemovedMembers → Pairs → Changed Pairs
insert_members [] ps = Ok ps
insert_members (e ∷ es) ps = and_then (insert_member_at e.0 e.1 e.2 ps) (insert_members es)

-- the tree with a change undone
abbrev pub undone : Tree → TreeChange → Changed Tree
undone t (put p old) = at_path p (λ _. Ok old) t
undone t (drop_last p) = at_path p without_last t
undone t (put_back p i old) = at_path p (on_list (insert_element_at i old)) t
undone t (put_pairs p es) = at_path p (on_pairs (insert_members es)) t

-- ---- redo

-- the last member
abbrev pub last_member : Pairs → Changed (List ℕ × Tree)
last_member no_pairs = Err not_found
last_member (pair_and k t no_pairs) = Ok (k, t)
last_member (pair_and k t (pair_and m u ps)) = last_member (pair_and m u ps)

-- the last element
abbrev pub last_element : Trees → Changed Tree
last_element no_trees = Err not_found
last_element (tree_and t no_trees) = Ok t
last_element (tree_and t (tree_and u ts)) = last_element (tree_and u ts)

-- the edit that adds the last member or element of an object or array
abbrev pub edit_of_last : List Step → Tree → Changed Edit
edit_of_last p (pairs ps) = within (λ e. insert_at p e.0 e.1) (last_member ps)
edit_of_last p (list ts) = within (λ u. push_at p u) (last_element ts)
edit_of_last p _ = Err type_unmatched

-- the edit that removes these members
abbrev pub edit_of_removal : List Step → RemovedMembers → Changed Edit
edit_of_removal p [] = Err not_found
edit_of_removal p (e ∷ es) = Ok (remove_at p (key_step e.1))

-- the edit that redoes what the change undoes, where t is the tree with the edit applied
abbrev pub redo_edit : Tree → TreeChange → Changed Edit
redo_edit t (put p old) = within (λ u. set_at p u) (lookup p t)
redo_edit t (drop_last p) = and_then (lookup p t) (edit_of_last p)
redo_edit t (put_back p i old) = Ok (remove_at p (index_step i))
redo_edit t (put_pairs p es) = edit_of_removal p es
