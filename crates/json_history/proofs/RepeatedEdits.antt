-- The edit that redoes what a change undoes, from the value at its path.
use Rattle.std.proofs.Common.{◌≡◌, ℕ, suc, ◌-◌, List, [], ◌∷◌, length, Option, Some, None, Ok, Err, refl, sym, ap, ◌∙◌, arith}
use Rattle.std.specs.Prelude.{option_map, slice_get}
use Rattle.std.specs.Result.{result_ok}
use Rattle.json_grammar.specs.Tree.{Tree, list_pairs, list_trees}
use Rattle.json_model.specs.Edit.{Step, Edit, set_at, insert_at, push_at, Changed, within, and_then}
use Rattle.json_value.specs.Edits.{path_steps}
use Rattle.json_value.specs.Seen.{object_pairs, list_of}
use Rattle.json_value.specs.Steps.{tree_at}
use Rattle.json_value.specs.declared.path.Path.{Path}
use Rattle.json_value.specs.declared.value.Value.{Value}
use Rattle.json_history.specs.Lookup.{lookup}
use Rattle.json_history.specs.Change.{redo_edit, edit_of_last, last_member, last_element}
use Rattle.json_history.specs.ChangeTrees.{tree_change_of}
use Rattle.json_history.specs.declared.change.Change.{Change}
use Rattle.json_history.specs.declared.change.Change.TheVariants.{Put, DropLast}
use Rattle.json_history.proofs.LookupViews.{lookup_some, lookup_tree_at}
use Rattle.json_history.proofs.EditChanges.{object_of, array_of}

below : (n : ℕ) → suc (suc n) - 1 ≡ suc (suc n - 1)
below n = omega arith

-- the last of a list
pub last_member_listed : (ms : List (List ℕ × Tree)) → result_ok (last_member (list_pairs ms)) ≡ slice_get ms (length ms - 1)
last_member_listed [] = refl
last_member_listed (x ∷ []) = refl
last_member_listed (x ∷ y ∷ ms) = last_member_listed (y ∷ ms) ∙ sym (ap (slice_get (x ∷ y ∷ ms)) (below (length ms)))

pub last_element_listed : (ts : List Tree) → result_ok (last_element (list_trees ts)) ≡ slice_get ts (length ts - 1)
last_element_listed [] = refl
last_element_listed (x ∷ []) = refl
last_element_listed (x ∷ y ∷ ts) = last_element_listed (y ∷ ts) ∙ sym (ap (slice_get (x ∷ y ∷ ts)) (below (length ts)))

pub result_ok_within : {A B : Type 0} (f : A → B) (r : Changed A) → result_ok (within f r) ≡ option_map f (result_ok r)
result_ok_within f (Ok x) = refl
result_ok_within f (Err e) = refl

abbrev pub insert_edit_of : List Step → List ℕ × Tree → Edit
insert_edit_of p e = insert_at p e.0 e.1

pub last_insert_edit : (p : List Step) (ms : List (List ℕ × Tree)) (n : ℕ) (o : Option (List ℕ × Tree)) → n ≡ length ms → o ≡ slice_get ms (n - 1)
    → option_map (insert_edit_of p) o ≡ result_ok (within (insert_edit_of p) (last_member (list_pairs ms)))
last_insert_edit p ms n o e f = sym (result_ok_within (insert_edit_of p) (last_member (list_pairs ms)) ∙ ap (option_map (insert_edit_of p)) (last_member_listed ms ∙ ap (λ m. slice_get ms (m - 1)) (sym e) ∙ sym f))

pub last_push_edit : (p : List Step) (ts : List Tree) (n : ℕ) (o : Option Tree) → n ≡ length ts → o ≡ slice_get ts (n - 1)
    → option_map (push_at p) o ≡ result_ok (within (push_at p) (last_element (list_trees ts)))
last_push_edit p ts n o e f = sym (result_ok_within (push_at p) (last_element (list_trees ts)) ∙ ap (option_map (push_at p)) (last_element_listed ts ∙ ap (λ m. slice_get ts (m - 1)) (sym e) ∙ sym f))

pub object_last_edit : (p : List Step) (t : Tree) (ms : List (List ℕ × Tree)) → object_pairs t ≡ Some ms → result_ok (within (insert_edit_of p) (last_member (list_pairs ms))) ≡ result_ok (edit_of_last p t)
object_last_edit p t ms e = sym (ap (λ (u : Tree). result_ok (edit_of_last p u)) (object_of t ms e))

pub array_last_edit : (p : List Step) (t : Tree) (ts : List Tree) → list_of t ≡ Some ts → result_ok (within (push_at p) (last_element (list_trees ts))) ≡ result_ok (edit_of_last p t)
array_last_edit p t ts e = sym (ap (λ (u : Tree). result_ok (edit_of_last p u)) (array_of t ts e))

module _ (c : Change) (p : Path) (q : List Step) (t : Tree) (is : q ≡ path_steps p) where
  put_redo_edit : (old : Value) → c ≡ Put p old → redo_edit t (tree_change_of c) ≡ within (set_at (path_steps p)) (lookup q t)
  put_redo_edit old e = ap (λ (d : Change). redo_edit t (tree_change_of d)) e ∙ ap (λ r. within (set_at (path_steps p)) (lookup r t)) (sym is)

  drop_redo_edit : c ≡ DropLast p → redo_edit t (tree_change_of c) ≡ and_then (lookup q t) (edit_of_last (path_steps p))
  drop_redo_edit e = ap (λ (d : Change). redo_edit t (tree_change_of d)) e ∙ ap (λ r. and_then (lookup r t) (edit_of_last (path_steps p))) (sym is)

  pub put_redo_found : (old : Value) (u : Tree) → c ≡ Put p old → tree_at q t ≡ Some u → Some (set_at (path_steps p) u) ≡ result_ok (redo_edit t (tree_change_of c))
  put_redo_found old u e here = sym (ap result_ok (put_redo_edit old e ∙ ap (within (set_at (path_steps p))) (lookup_some q t u here)))

  pub put_redo_missing : (old : Value) → c ≡ Put p old → tree_at q t ≡ None → None ≡ result_ok (redo_edit t (tree_change_of c))
  put_redo_missing old e here = sym (ap result_ok (put_redo_edit old e) ∙ result_ok_within (set_at (path_steps p)) (lookup q t) ∙ ap (option_map (set_at (path_steps p))) (lookup_tree_at q t ∙ here))

  pub drop_redo_found : (u : Tree) → c ≡ DropLast p → tree_at q t ≡ Some u → result_ok (edit_of_last (path_steps p) u) ≡ result_ok (redo_edit t (tree_change_of c))
  drop_redo_found u e here = sym (ap result_ok (drop_redo_edit e ∙ ap (λ (r : Changed Tree). and_then r (edit_of_last (path_steps p))) (lookup_some q t u here)))

  pub drop_redo_missing : c ≡ DropLast p → tree_at q t ≡ None → None ≡ result_ok (redo_edit t (tree_change_of c))
  drop_redo_missing e here = sym (ap result_ok (drop_redo_edit e) ∙ by (lookup q t) (lookup_tree_at q t ∙ here))
    where
      by : (r : Changed Tree) → result_ok r ≡ None → result_ok (and_then r (edit_of_last (path_steps p))) ≡ None
      by (Ok x) h = absurd (cc)
      by (Err r) h = refl
