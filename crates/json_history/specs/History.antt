-- Histories: the current tree, the trees to undo to, and those to redo to.
use Rattle.std.specs.Prelude.{◌≡◌, ℕ, suc, Bool, true, false, List, [], ◌∷◌, Result, Ok, Err}
use Rattle.json_grammar.specs.Tree.{Tree}
use Rattle.json_model.specs.Edit.{Edit, Changed, EditRefusal, edited_once, and_then}
use Rattle.json_history.specs.Change.{TreeChange, change, undone, redo_edit}

-- the current tree, the past with the latest tree first, and the future with the next tree first
pub record TreeHistory : Type 0 where
  pub now : Tree
  pub past : List Tree
  pub future : List Tree

pub data TreeCall : Type 0 where
  edit : Edit → TreeCall
  undo : TreeCall
  redo : TreeCall

-- a history with nothing to undo or redo
abbrev pub new_history : Tree → TreeHistory
new_history t = record { now = t; past = []; future = [] }

-- after an edit with this result: one that does not apply changes nothing
abbrev pub after_edit : TreeHistory → Changed Tree → TreeHistory
after_edit h (Ok u) = record { now = u; past = h.now ∷ h.past; future = [] }
after_edit h (Err r) = h

-- after an undo, where this is the past
abbrev pub after_undo : TreeHistory → List Tree → TreeHistory
after_undo h [] = h
after_undo h (t ∷ past) = record { now = t; past = past; future = h.now ∷ h.future }

-- after a redo, where this is the future
abbrev pub after_redo : TreeHistory → List Tree → TreeHistory
after_redo h [] = h
after_redo h (u ∷ future) = record { now = u; past = h.now ∷ h.past; future = future }

-- after one call
abbrev pub after_call : TreeHistory → TreeCall → TreeHistory
after_call h (edit e) = after_edit h (edited_once e h.now)
after_call h undo = after_undo h h.past
after_call h redo = after_redo h h.future

-- after several calls
abbrev pub after_calls : TreeHistory → List TreeCall → TreeHistory
after_calls h [] = h
after_calls h (c ∷ cs) = after_calls (after_call h c) cs

-- after several calls, of which the first has the number n; or the number of the first edit that
-- does not apply, and why
abbrev pub run_calls_from : ℕ → TreeHistory → List TreeCall → Result TreeHistory (ℕ × EditRefusal)
run_calls_from n h [] = Ok h
run_calls_from n h (edit e ∷ cs) = elim (edited_once e h.now) [ Ok u ↦ run_calls_from (suc n) (after_edit h (Ok u)) cs | Err r ↦ Err (n, r) ]
run_calls_from n h (undo ∷ cs) = run_calls_from (suc n) (after_undo h h.past) cs
run_calls_from n h (redo ∷ cs) = run_calls_from (suc n) (after_redo h h.future) cs

-- after one call; or why it is an edit that does not apply
abbrev pub run_call : TreeHistory → TreeCall → Changed TreeHistory
run_call h (edit e) = and_then (edited_once e h.now) (λ u. Ok (after_edit h (Ok u)))
run_call h undo = Ok (after_undo h h.past)
run_call h redo = Ok (after_redo h h.future)

-- several calls on a new history of a tree
abbrev pub run_calls : Tree → List TreeCall → Result TreeHistory (ℕ × EditRefusal)
run_calls t cs = run_calls_from 0 (new_history t) cs

-- ---- change logs: the form of a history in memory

-- an edit to redo, with the change that undoes it again
abbrev pub TreeRedo : Type 0
TreeRedo = Edit × TreeChange

-- the current tree, the changes to undo with the latest first, and the edits to redo with the
-- next first
pub record ChangeLog : Type 0 where
  pub value : Tree
  pub changes : List TreeChange
  pub redos : List TreeRedo

abbrev pub new_log : Tree → ChangeLog
new_log t = record { value = t; changes = []; redos = [] }

-- the trees that undoing the changes in turn gives, from t on
abbrev pub past_of : Tree → List TreeChange → Changed (List Tree)
past_of t [] = Ok []
past_of t (c ∷ cs) = and_then (undone t c) (λ u. and_then (past_of u cs) (λ us. Ok (u ∷ us)))

-- the trees that applying the edits in turn gives, from t on
abbrev pub future_of : Tree → List TreeRedo → Changed (List Tree)
future_of t [] = Ok []
future_of t (r ∷ rs) = and_then (edited_once r.0 t) (λ u. and_then (future_of u rs) (λ us. Ok (u ∷ us)))

-- the log represents the history
pub record Represents (k : ChangeLog) (h : TreeHistory) : Type 0 where
  pub now : k.value ≡ h.now
  pub past : past_of k.value k.changes ≡ Ok h.past
  pub future : future_of k.value k.redos ≡ Ok h.future

-- the edit e makes u of t, and c is what it changes
abbrev pub IsStep : Tree → Tree → Edit → TreeChange → Type 0
IsStep t u e c = (edited_once e t ≡ Ok u) × (change t e ≡ Ok c)

-- each change is that of some edit, which made the tree that the change undoes
abbrev pub ArePastSteps : Tree → List TreeChange → Type 0
ArePastSteps u [] = Unit {0}
ArePastSteps u (c ∷ cs) = (t : Tree) × (e : Edit) × IsStep t u e c × ArePastSteps t cs

-- each edit applies in turn, and the change beside it is what it changes
abbrev pub AreFutureSteps : Tree → List TreeRedo → Type 0
AreFutureSteps t [] = Unit {0}
AreFutureSteps t (r ∷ rs) = (u : Tree) × IsStep t u r.0 r.1 × AreFutureSteps u rs

-- a log that calls can leave
abbrev pub IsValidLog : ChangeLog → Type 0
IsValidLog k = ArePastSteps k.value k.changes × AreFutureSteps k.value k.redos

-- the trees; none for an error
abbrev pub trees_or_empty : Changed (List Tree) → List Tree
trees_or_empty (Ok ts) = ts
trees_or_empty (Err r) = []

-- the history that the log represents
abbrev pub history_of : ChangeLog → TreeHistory
history_of k = record { now = k.value; past = trees_or_empty (past_of k.value k.changes); future = trees_or_empty (future_of k.value k.redos) }

-- ---- calls on change logs

abbrev pub log_edit : ChangeLog → Edit → Changed ChangeLog
log_edit k e = and_then (edited_once e k.value) (λ u. and_then (change k.value e) (λ c. Ok (record { value = u; changes = c ∷ k.changes; redos = [] })))

abbrev pub log_undo : ChangeLog → List TreeChange → Changed ChangeLog
log_undo k [] = Ok k
log_undo k (c ∷ cs) = and_then (undone k.value c) (λ t. and_then (redo_edit k.value c) (λ e. Ok (record { value = t; changes = cs; redos = (e, c) ∷ k.redos })))

abbrev pub log_redo : ChangeLog → List TreeRedo → Changed ChangeLog
log_redo k [] = Ok k
log_redo k (r ∷ rs) = and_then (edited_once r.0 k.value) (λ u. Ok (record { value = u; changes = r.1 ∷ k.changes; redos = rs }))

-- the new log; the old one for an error
abbrev pub log_or : ChangeLog → Changed ChangeLog → ChangeLog
log_or k (Ok n) = n
log_or k (Err r) = k

-- after one call
abbrev pub log_call : ChangeLog → TreeCall → ChangeLog
log_call k (edit e) = log_or k (log_edit k e)
log_call k undo = log_or k (log_undo k k.changes)
log_call k redo = log_or k (log_redo k k.redos)

-- after several calls
abbrev pub log_calls : ChangeLog → List TreeCall → ChangeLog
log_calls k [] = k
log_calls k (c ∷ cs) = log_calls (log_call k c) cs

-- whether the list has an entry
abbrev pub is_nonempty : {A : Type 0} → List A → Bool
is_nonempty [] = false
is_nonempty (x ∷ xs) = true
