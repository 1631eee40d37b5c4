-- What dropping the oldest changes, or the edits to redo, leaves of a valid log.
use Rattle.std.proofs.Common.{◌≡◌, ℕ, zero, suc, List, [], ◌∷◌, ◌++◌, map, reverse, take, Ok, refl, sym, ap, ◌∙◌, subst}
use Rattle.std.proofs.lemmas.List.{take-map, map-append, reverse-append, reverse-reverse}
use Rattle.std.proofs.Math.Logic.{∥∥₁_map}
use Rattle.json_grammar.specs.Tree.{Tree}
use Rattle.json_value.specs.Denotes.{tree_of}
use Rattle.json_value.specs.declared.value.Value.{Value}
use Rattle.json_history.specs.Change.{TreeChange, undone}
use Rattle.json_history.specs.ChangeTrees.{tree_change_of}
use Rattle.json_history.specs.History.{ChangeLog, past_of, future_of, ArePastSteps, IsValidLog, trees_or_empty, history_of}
use Rattle.json_history.specs.Limits.{limit_past, limit_changes, without_future, without_redos}
use Rattle.json_history.specs.Logs.{log_in, changes_of, redos_of}
use Rattle.json_history.specs.declared.change.Change.{Change}
use Rattle.json_history.specs.declared.redo.Redo.{Redo}
use Rattle.json_history.proofs.ChangedResults.{ok_injective, and_then_ok}
use Rattle.json_history.proofs.HistoryEquality.{history_equal_from}
use Rattle.json_history.proofs.HistoryLaws.{past_of_valid}
use Rattle.json_model.specs.Edit.{and_then}

-- ---- the list of changes

map_reverse : {A B : Type 0} (f : A → B) (xs : List A) → map f (reverse xs) ≡ reverse (map f xs)
map_reverse f [] = refl
map_reverse f (x ∷ xs) =
    ap (map f) (reverse-append (x ∷ []) xs) ∙ map-append f (reverse xs) (x ∷ []) ∙ ap (λ ys. ys ++ f x ∷ []) (map_reverse f xs) ∙ sym (reverse-append (f x ∷ []) (map f xs))

changes_of_last : (n : ℕ) (cs ds : List Change) → ds ≡ reverse (take n (reverse cs)) → changes_of ds ≡ take n (changes_of cs)
changes_of_last n cs ds e =
    ap changes_of e ∙ ap reverse (map_reverse tree_change_of (take n (reverse cs))) ∙ reverse-reverse (map tree_change_of (take n (reverse cs))) ∙ sym (take-map tree_change_of n (reverse cs))
    ∙ ap (take n) (map_reverse tree_change_of cs)

pub log_limited : (n : ℕ) (v : Value) (cs ds : List Change) (rs : List Redo) → ds ≡ reverse (take n (reverse cs)) → log_in v ds rs ≡ limit_changes n (log_in v cs rs)
log_limited n v cs ds rs e = ap (λ xs. record { value = tree_of v; changes = xs; redos = redos_of rs }) (changes_of_last n cs ds e)

pub log_cleared : (v : Value) (cs : List Change) (rs qs : List Redo) → qs ≡ [] → log_in v cs qs ≡ without_redos (log_in v cs rs)
log_cleared v cs rs qs e = ap (λ xs. record { value = tree_of v; changes = changes_of cs; redos = redos_of xs }) e

-- ---- at most n changes

past_steps_limited : (n : ℕ) (u : Tree) (cs : List TreeChange) → ArePastSteps u cs → ArePastSteps u (take n cs)
past_steps_limited zero u cs h = tt
past_steps_limited (suc n) u [] h = tt
past_steps_limited (suc n) u (c ∷ cs) (t, e, s, h) = (t, e, s, past_steps_limited n t cs h)

past_of_limited : (n : ℕ) (v : Tree) (cs : List TreeChange) (ps : List Tree) → past_of v cs ≡ Ok ps → past_of v (take n cs) ≡ Ok (take n ps)
past_of_limited zero v cs ps h = refl
past_of_limited (suc n) v [] ps h = ap (λ (qs : List Tree). Ok (take (suc n) qs)) (ok_injective [] ps h)
past_of_limited (suc n) v (c ∷ cs) ps h =
    let a = and_then_ok (undone v c) (λ w. and_then (past_of w cs) (λ us. Ok (w ∷ us))) ps h in
    let b = and_then_ok (past_of a.0 cs) (λ us. Ok (a.0 ∷ us)) ps a.2 in
    ap (λ r. and_then r (λ w. and_then (past_of w (take n cs)) (λ us. Ok (w ∷ us)))) a.1
    ∙ ap (λ r. and_then r (λ us. Ok (a.0 ∷ us))) (past_of_limited n a.0 cs b.0 b.1)
    ∙ ap (λ (qs : List Tree). Ok (take (suc n) qs)) (ok_injective (a.0 ∷ b.0) ps b.2)

limit_valid : (n : ℕ) (k : ChangeLog) → IsValidLog k → IsValidLog (limit_changes n k)
limit_valid n k h = (past_steps_limited n k.value k.changes h.0, h.1)

limit_history : (n : ℕ) (k : ChangeLog) → IsValidLog k → history_of (limit_changes n k) ≡ limit_past n (history_of k)
limit_history n k h =
    let past = ap trees_or_empty (past_of_limited n k.value k.changes (trees_or_empty (past_of k.value k.changes)) (past_of_valid k.value k.changes h.0)) in
    λ i. record { now = k.value; past = past i; future = trees_or_empty (future_of k.value k.redos) }

module _ (n : ℕ) (k m : ChangeLog) (same : m ≡ limit_changes n k) (valid : ∥ IsValidLog k ∥₁) where
  pub valid_after_limit : ∥ IsValidLog m ∥₁
  valid_after_limit = ∥∥₁_map valid (λ h. subst IsValidLog (sym same) (limit_valid n k h))

  pub history_after_limit : history_of m ≡ limit_past n (history_of k)
  history_after_limit = history_equal_from (history_of m) (limit_past n (history_of k)) valid (λ h. ap history_of same ∙ limit_history n k h)

-- ---- nothing to redo

module _ (k m : ChangeLog) (same : m ≡ without_redos k) (valid : ∥ IsValidLog k ∥₁) where
  pub valid_after_clear : ∥ IsValidLog m ∥₁
  valid_after_clear = ∥∥₁_map valid (λ h. subst IsValidLog (sym same) (h.0, tt))

  pub history_after_clear : history_of m ≡ without_future (history_of k)
  history_after_clear = ap history_of same
