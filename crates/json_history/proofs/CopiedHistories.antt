-- The log of a copy of a history, and how many edits can be undone and redone.
use Rattle.std.proofs.Common.{◌≡◌, ℕ, suc, List, [], ◌∷◌, length, map, reverse, Ok, sym, ap, ◌∙◌, subst, eq-eqb}
use Rattle.std.proofs.lemmas.Bool.{eqb-true}
use Rattle.std.proofs.lemmas.List.{length-map, length-reverse}
use Rattle.std.proofs.Math.Dec.{eqb}
use Rattle.json_grammar.specs.Tree.{Tree}
use Rattle.json_model.specs.Edit.{edited_once, and_then}
use Rattle.json_value.specs.Denotes.{tree_of}
use Rattle.json_value.specs.declared.value.Value.{Value}
use Rattle.json_history.specs.Change.{TreeChange, undone}
use Rattle.json_history.specs.ChangeTrees.{tree_change_of}
use Rattle.json_history.specs.History.{ChangeLog, TreeRedo, IsValidLog, past_of, future_of, trees_or_empty, history_of}
use Rattle.json_history.specs.Logs.{log_in, redo_of, changes_of, redos_of}
use Rattle.json_history.specs.declared.change.Change.{Change}
use Rattle.json_history.specs.declared.redo.Redo.{Redo}
use Rattle.json_history.proofs.ChangedResults.{ok_injective, and_then_ok}
use Rattle.json_history.proofs.HistoryLaws.{past_of_valid, future_of_valid}
use Rattle.json_history.proofs.LogSteps.{from_truncated}

-- ---- a copy

module _ (v w : Value) (cs ds : List Change) (rs qs : List Redo) (value : tree_of w ≡ tree_of v) (changes : map tree_change_of ds ≡ map tree_change_of cs) (redos : map redo_of qs ≡ map redo_of rs) where
  pub log_copied : log_in w ds qs ≡ log_in v cs rs
  log_copied = λ i. record { value = value i; changes = reverse (changes i); redos = reverse (redos i) }

  pub valid_copied : ∥ IsValidLog (log_in v cs rs) ∥₁ → ∥ IsValidLog (log_in w ds qs) ∥₁
  valid_copied kept = subst (λ k. ∥ IsValidLog k ∥₁) (sym log_copied) kept

-- ---- how many trees the past and the future have

length_of_past : (t : Tree) (cs : List TreeChange) (ts : List Tree) → past_of t cs ≡ Ok ts → length cs ≡ length ts
length_of_past t [] ts h = ap (λ (us : List Tree). length us) (ok_injective [] ts h)
length_of_past t (c ∷ cs) ts h =
    let a = and_then_ok (undone t c) (λ u. and_then (past_of u cs) (λ us. Ok (u ∷ us))) ts h in
    let b = and_then_ok (past_of a.0 cs) (λ us. Ok (a.0 ∷ us)) ts a.2 in
    ap suc (length_of_past a.0 cs b.0 b.1) ∙ ap (λ (us : List Tree). length us) (ok_injective (a.0 ∷ b.0) ts b.2)

length_of_future : (t : Tree) (rs : List TreeRedo) (ts : List Tree) → future_of t rs ≡ Ok ts → length rs ≡ length ts
length_of_future t [] ts h = ap (λ (us : List Tree). length us) (ok_injective [] ts h)
length_of_future t (r ∷ rs) ts h =
    let a = and_then_ok (edited_once r.0 t) (λ u. and_then (future_of u rs) (λ us. Ok (u ∷ us))) ts h in
    let b = and_then_ok (future_of a.0 rs) (λ us. Ok (a.0 ∷ us)) ts a.2 in
    ap suc (length_of_future a.0 rs b.0 b.1) ∙ ap (λ (us : List Tree). length us) (ok_injective (a.0 ∷ b.0) ts b.2)

-- numbers that are known to be equal are equal
equal_from : {P : Type 0} (m n : ℕ) → ∥ P ∥₁ → (P → m ≡ n) → m ≡ n
equal_from m n known f = eqb-true m n (from_truncated (eqb m n) known (λ p. eq-eqb m n (f p)))

length_of_log : {A B : Type 0} (f : A → B) (xs : List A) → length xs ≡ length (reverse (map f xs))
length_of_log f xs = sym (length-reverse (map f xs) ∙ length-map xs f)

module _ (v : Value) (cs : List Change) (rs : List Redo) (kept : ∥ IsValidLog (log_in v cs rs) ∥₁) where
  pub past_count : length cs ≡ length (history_of (log_in v cs rs)).past
  past_count =
      equal_from (length cs) (length (history_of (log_in v cs rs)).past) kept
      (λ h. length_of_log tree_change_of cs ∙ length_of_past (tree_of v) (changes_of cs) (history_of (log_in v cs rs)).past (past_of_valid (tree_of v) (changes_of cs) h.0))

  pub future_count : length rs ≡ length (history_of (log_in v cs rs)).future
  future_count =
      equal_from (length rs) (length (history_of (log_in v cs rs)).future) kept
      (λ h. length_of_log redo_of rs ∙ length_of_future (tree_of v) (redos_of rs) (history_of (log_in v cs rs)).future (future_of_valid (tree_of v) (redos_of rs) h.1))
