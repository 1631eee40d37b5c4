-- The log after a call, from what the call did.
use Rattle.std.proofs.Common.{◌≡◌, List, [], ◌∷◌, ◌++◌, map, reverse, Bool, true, false, None, Ok, IsOk, is_ok, refl, ap, ◌∙◌}
use Rattle.std.proofs.lemmas.List.{map-append, reverse-append}
use Rattle.std.proofs.lemmas.Grind.{not_there}
use Rattle.std.specs.Result.{result_ok}
use Rattle.json_grammar.specs.Tree.{Tree}
use Rattle.json_model.specs.Edit.{Changed, edited_once}
use Rattle.json_model.specs.Edit as model
use Rattle.json_value.specs.Denotes.{tree_of}
use Rattle.json_value.specs.Edits.{edit_of}
use Rattle.json_value.specs.declared.value.Value.{Value}
use Rattle.json_value.specs.declared.path.Edit.{Edit}
use Rattle.json_history.specs.Change.{TreeChange, change, undone, redo_edit}
use Rattle.json_history.specs.ChangeTrees.{tree_change_of}
use Rattle.json_history.specs.History.{IsValidLog}
use Rattle.json_history.specs.Logs.{log_in, changes_of, redos_of, redo_of}
use Rattle.json_history.specs.declared.change.Change.{Change}
use Rattle.json_history.specs.declared.redo.Redo.{Redo}
use Rattle.json_history.proofs.HistoryLaws.{log_applies}
use Rattle.json_history.proofs.UndoLaws.{edit_undone_by}

-- the last of a list is the first of the log
pub changes_of_push : (cs : List Change) (c : Change) → changes_of (cs ++ c ∷ []) ≡ tree_change_of c ∷ changes_of cs
changes_of_push cs c = ap reverse (map-append tree_change_of cs (c ∷ [])) ∙ reverse-append (map tree_change_of cs) (tree_change_of c ∷ [])

pub redos_of_push : (rs : List Redo) (r : Redo) → redos_of (rs ++ r ∷ []) ≡ redo_of r ∷ redos_of rs
redos_of_push rs r = ap reverse (map-append redo_of rs (r ∷ [])) ∙ reverse-append (map redo_of rs) (redo_of r ∷ [])

-- ---- an edit

-- an edit without a change does not apply
pub no_change_no_edit : (t u : Tree) (e : model.Edit) → None ≡ result_ok (change t e) → edited_once e t ≡ Ok u → ⊥
no_change_no_edit t u e none made = let a = edit_undone_by t u e made in no a.tree_change a.told_so
  where
    no : (c : TreeChange) → change t e ≡ Ok c → ⊥
    no c so = let h = none ∙ ap result_ok so in cc

-- ---- in a valid log changes and edits apply

pub ok_is_ok : {A : Type 0} (r : Changed A) (x : A) → r ≡ Ok x → IsOk r
ok_is_ok r x e = ap is_ok e

pub from_truncated : {P : Type 0} (b : Bool) → ∥ P ∥₁ → (P → b ≡ true) → b ≡ true
from_truncated true t f = refl
from_truncated false t f = absurd (not_there t (λ p. (cc (f p))))

module _ (v : Value) (cs : List Change) (c : Change) (rs : List Redo) (kept : ∥ IsValidLog (log_in v (cs ++ c ∷ []) rs) ∥₁) where
  pub last_change_undone : IsOk (undone (tree_of v) (tree_change_of c))
  last_change_undone = from_truncated (is_ok (undone (tree_of v) (tree_change_of c))) kept (λ k. let a = (log_applies (log_in v (cs ++ c ∷ []) rs) k).0 (tree_change_of c) (changes_of cs) (changes_of_push cs c) in ok_is_ok (undone (tree_of v) (tree_change_of c)) a.0 a.2)

  pub last_change_redo_edit : IsOk (redo_edit (tree_of v) (tree_change_of c))
  last_change_redo_edit = from_truncated (is_ok (redo_edit (tree_of v) (tree_change_of c))) kept (λ k. let a = (log_applies (log_in v (cs ++ c ∷ []) rs) k).0 (tree_change_of c) (changes_of cs) (changes_of_push cs c) in ok_is_ok (redo_edit (tree_of v) (tree_change_of c)) a.1 a.3)

module _ (v : Value) (cs : List Change) (rs : List Redo) (r : Redo) (kept : ∥ IsValidLog (log_in v cs (rs ++ r ∷ [])) ∥₁) where
  pub next_redo_applies : IsOk (edited_once (edit_of r.edit) (tree_of v))
  next_redo_applies = from_truncated (is_ok (edited_once (edit_of r.edit) (tree_of v))) kept (λ k. let a = (log_applies (log_in v cs (rs ++ r ∷ [])) k).1 (redo_of r) (redos_of rs) (redos_of_push rs r) in ok_is_ok (edited_once (edit_of r.edit) (tree_of v)) a.0 a.1.0)
