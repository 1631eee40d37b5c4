-- What edits of values are edits of trees, and what paths lead through them.
use Rattle.std.specs.Prelude.{◌≡◌, ℕ, List, map, ⊤, Err, Ok, Result, IfErr}
use Rattle.json_grammar.specs.Tree.{Tree, Trees, Pairs}
use Rattle.json_model.specs.Edit.{Step, key_step, index_step, set_at, insert_at, push_at, remove_at, Changed, inserted, pushed, removed, at_path, on_list, on_pairs, not_found, type_unmatched}
use Rattle.json_model.specs.Edit as model
use Rattle.json_io.specs.declared.error.Error.{Error}
use Rattle.json_io.specs.declared.error.ErrorCode.{ErrorCode}
use Rattle.json_io.specs.declared.error.ErrorCode.TheVariants.{NoMemory, NotFound, TypeUnmatched}
use Rattle.json_io.specs.declared.error.Place.{Place}
use Rattle.json_io.specs.declared.error.Place.TheVariants.{None as nowhere}
use Rattle.json_value.specs.Denotes.{text_bytes, tree_of}
use Rattle.json_value.specs.declared.value.Value.{Value}
use Rattle.json_value.specs.declared.path.PointerNode.{PointerNode}
use Rattle.json_value.specs.declared.path.PointerNode.TheVariants.{Key, Index}
use Rattle.json_value.specs.declared.path.Path.{Path}
use Rattle.json_value.specs.declared.path.Edit.{Edit}
use Rattle.json_value.specs.declared.path.Edit.TheVariants.{Set, Insert, Push, Remove}

-- the step that a node is
abbrev pub step_of : PointerNode → Step
step_of (Key t) = key_step (text_bytes t)
step_of (Index i) = index_step i

-- the steps of a path
abbrev pub steps_of : List PointerNode → List Step
steps_of = map step_of

abbrev pub path_steps : Path → List Step
path_steps p = steps_of p.steps.items

-- the steps to the place of an edit
abbrev pub edit_path : Edit → List Step
edit_path (Set p v) = path_steps p
edit_path (Insert p k v) = path_steps p
edit_path (Push p v) = path_steps p
edit_path (Remove p s) = path_steps p

-- the edit of trees that an edit is
abbrev pub edit_of : Edit → model.Edit
edit_of (Set p v) = set_at (path_steps p) (tree_of v)
edit_of (Insert p k v) = insert_at (path_steps p) (text_bytes k) (tree_of v)
edit_of (Push p v) = push_at (path_steps p) (tree_of v)
edit_of (Remove p s) = remove_at (path_steps p) (step_of s)

-- the same edit at another path
abbrev pub edit_at : List Step → Edit → model.Edit
edit_at p (Set q v) = set_at p (tree_of v)
edit_at p (Insert q k v) = insert_at p (text_bytes k) (tree_of v)
edit_at p (Push q v) = push_at p (tree_of v)
edit_at p (Remove q s) = remove_at p (step_of s)

-- the object with u at the first member of the key, or at such a member that is appended
abbrev pub inserted_in : List ℕ → Tree → Tree → Changed Tree
inserted_in k u t = on_pairs (λ ps. Ok (inserted k u ps)) t

-- the array with u appended
abbrev pub pushed_in : Tree → Tree → Changed Tree
pushed_in u t = on_list (λ ts. Ok (pushed u ts)) t

-- what the edit makes of the tree at its place
abbrev pub change_of : Edit → Tree → Changed Tree
change_of (Set p v) t = Ok (tree_of v)
change_of (Insert p k v) t = inserted_in (text_bytes k) (tree_of v) t
change_of (Push p v) t = pushed_in (tree_of v) t
change_of (Remove p s) t = removed (step_of s) t

-- why a change of a tree or of a part of it was refused, given what it makes of it
abbrev pub RefusesChange : {A : Type 0} → Changed A → ErrorCode → Place → Type 0
RefusesChange changed NoMemory nowhere = ⊤
RefusesChange changed NotFound nowhere = changed ≡ Err not_found
RefusesChange changed TypeUnmatched nowhere = changed ≡ Err type_unmatched
RefusesChange changed code place = ⊥

-- the change makes the tree of the value
abbrev pub Makes : Changed Tree → Value → Type 0
Makes changed v = changed ≡ Ok (tree_of v)

-- a call failed as the change does, or for want of memory
abbrev pub FailsAs : {A B : Type 0} → Changed B → Result A Error → Type 0
FailsAs changed r = IfErr r (λ e. RefusesChange changed e.code e.place)

-- it failed as any change does where the steps lead, or for want of memory
abbrev pub FailsAlong : {A : Type 0} → List Step → Tree → Result A Error → Type 0
FailsAlong p t r = IfErr r (λ e. (f : Tree → Changed Tree) → RefusesChange (at_path p f t) e.code e.place)

-- so of the elements of an array, and of the members of an object
abbrev pub FailsOnList : {A : Type 0} → Tree → Result A Error → Type 0
FailsOnList t r = IfErr r (λ e. (f : Trees → Changed Trees) → RefusesChange (on_list f t) e.code e.place)

abbrev pub FailsOnPairs : {A : Type 0} → Tree → Result A Error → Type 0
FailsOnPairs t r = IfErr r (λ e. (f : Pairs → Changed Pairs) → RefusesChange (on_pairs f t) e.code e.place)
