-- The steps, paths and edits that a tree spells.
use Rattle.std.specs.Prelude.{ℕ, ◌^◌, ℤ, pos, negsuc, nat_lt, List, [], ◌∷◌, Option, Some, None, cond, bytes_eq, codes, option_map, option_and_then}
use Rattle.json_grammar.specs.Tree.{Tree, num, text, list, tree_and, trees_list}
use Rattle.json_number.specs.Integers.{integer_in}
use Rattle.json_doc.specs.Readings.{string_of}
use Rattle.json_model.specs.Edit.{Step, key_step, index_step, Edit, set_at, insert_at, push_at, remove_at}

-- both values, where there are both
abbrev pub both : {A B C : Type 0} → (A → B → C) → Option A → Option B → Option C
both f (Some a) (Some b) = Some (f a b)
both f _ _ = None

-- what each tree gives, where each gives something
abbrev pub each_in : {A : Type 0} → (Tree → Option A) → List Tree → Option (List A)
each_in f [] = Some []
each_in f (t ∷ ts) = both (λ x xs. x ∷ xs) (f t) (each_in f ts)

-- the index that an integer is: from 0 on, and below 2^32
abbrev pub index_of : ℤ → Option ℕ
index_of (pos n) = cond (nat_lt n (2 ^ 32)) (Some n) None
index_of (negsuc n) = None

-- a step: a text is a key, and an integer by value an index
abbrev pub step_in : Tree → Option Step
step_in (text s) = Some (key_step s)
step_in (num l) = option_map index_step (option_and_then index_of (integer_in l))
step_in _ = None

-- a path: a list of steps
abbrev pub path_in : Tree → Option (List Step)
path_in (list ts) = each_in step_in (trees_list ts)
path_in _ = None

-- what follows the name of an edit
abbrev pub edit_named : List ℕ → List Tree → Option Edit
edit_named name (p ∷ u ∷ []) =
    cond (bytes_eq name (codes "set")) (option_map (λ s. set_at s u) (path_in p))
    (cond (bytes_eq name (codes "push")) (option_map (λ s. push_at s u) (path_in p))
    (cond (bytes_eq name (codes "remove")) (both remove_at (path_in p) (step_in u)) None))
edit_named name (p ∷ k ∷ u ∷ []) = cond (bytes_eq name (codes "insert")) (both (λ s k. insert_at s k u) (path_in p) (string_of k)) None
edit_named name _ = None

-- an edit: ["set", path, value], ["insert", path, key, value], ["push", path, value] or ["remove", path, step]
abbrev pub edit_in : Tree → Option Edit
edit_in (list (tree_and (text name) ts)) = edit_named name (trees_list ts)
edit_in _ = None

-- the edits that a tree spells: a list of them
abbrev pub edits_in : Tree → Option (List Edit)
edits_in (list ts) = each_in edit_in (trees_list ts)
edits_in _ = None
