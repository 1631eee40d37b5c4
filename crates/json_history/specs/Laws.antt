-- Laws of changes and histories.
use Rattle.std.specs.Prelude.{◌≡◌, ℕ, ◌≤◌, List, [], ◌∷◌, ◌++◌, length, map, replicate, Ok, Err, IfOk}
use Rattle.json_grammar.specs.Tree.{Tree}
use Rattle.json_model.specs.Edit.{Edit, EditRefusal, edited_once, edited}
use Rattle.json_history.specs.Change.{TreeChange, change, undone, redo_edit}
use Rattle.json_history.specs.History.{TreeHistory, TreeCall, edit, undo, redo, new_history, after_call, after_calls, run_calls, ChangeLog, new_log, log_call, log_calls, TreeRedo, Represents, IsStep, IsValidLog, history_of}

-- ---- changes

-- the change of an edit undoes it
abbrev pub UndoInvertsEdit : Type 0
UndoInvertsEdit = (t u : Tree) (e : Edit) → edited (e ∷ []) t ≡ Ok u → (c : TreeChange) × (change t e ≡ Ok c) × (undone u c ≡ Ok t)

-- the edit to redo makes the same tree as the edit, and has the same change
abbrev pub RedoRepeatsEdit : Type 0
RedoRepeatsEdit =
    (t u : Tree) (e : Edit) (c : TreeChange)
    → edited_once e t ≡ Ok u
    → change t e ≡ Ok c
    → (again : Edit) × (redo_edit u c ≡ Ok again) × (edited_once again t ≡ Ok u) × (change t again ≡ Ok c)

-- an edit that does not apply has no change, for the same reason
abbrev pub ChangeFailsAsEdit : Type 0
ChangeFailsAsEdit = (t : Tree) (e : Edit) (r : EditRefusal) → edited_once e t ≡ Err r → change t e ≡ Err r

-- ---- histories

-- an edit and an undo give the same tree and past, and the edit's tree is the future
abbrev pub UndoAfterEdit : Type 0
UndoAfterEdit =
    (h : TreeHistory) (e : Edit) (u : Tree)
    → edited_once e h.now ≡ Ok u
    → after_calls h (edit e ∷ undo ∷ []) ≡ record { now = h.now; past = h.past; future = u ∷ [] }

-- where there is a past, an undo and a redo give the same history; where there is a future, a
-- redo and an undo do
abbrev pub RedoAfterUndo : Type 0
RedoAfterUndo = (h : TreeHistory) (t : Tree) (ts : List Tree) → h.past ≡ t ∷ ts → after_calls h (undo ∷ redo ∷ []) ≡ h

abbrev pub UndoAfterRedo : Type 0
UndoAfterRedo = (h : TreeHistory) (t : Tree) (ts : List Tree) → h.future ≡ t ∷ ts → after_calls h (redo ∷ undo ∷ []) ≡ h

-- n undos and n redos give the same history, where the past has at least n trees
abbrev pub RedosAfterUndos : Type 0
RedosAfterUndos = (h : TreeHistory) (n : ℕ) → n ≤ length h.past → after_calls h (replicate n undo ++ replicate n redo) ≡ h

-- the edits apply in turn
abbrev pub AllApply : List Edit → Tree → Type 0
AllApply [] t = Unit {0}
AllApply (e ∷ es) t = (u : Tree) × (edited_once e t ≡ Ok u) × AllApply es u

-- edits and as many undos give the same tree and past
abbrev pub UndosAfterEdits : Type 0
UndosAfterEdits =
    (h : TreeHistory) (es : List Edit)
    → AllApply es h.now
    → let g = after_calls h (map edit es ++ replicate (length es) undo) in (g.now ≡ h.now) × (g.past ≡ h.past)

-- an undo without a past and a redo without a future change nothing
abbrev pub EmptyPastOrFuture : Type 0
EmptyPastOrFuture = (h : TreeHistory) → (h.past ≡ [] → after_call h undo ≡ h) × (h.future ≡ [] → after_call h redo ≡ h)

-- after every list of calls the log is valid and represents the history
abbrev pub LogRepresentsHistory : Type 0
LogRepresentsHistory = (t : Tree) (cs : List TreeCall) → IsValidLog (log_calls (new_log t) cs) × Represents (log_calls (new_log t) cs) (after_calls (new_history t) cs)

-- a valid log represents a history, and after a call it is valid and represents the history after
-- that call
abbrev pub LogFollowsCall : Type 0
LogFollowsCall =
    (k : ChangeLog) (c : TreeCall)
    → IsValidLog k
    → Represents k (history_of k)
    × IsValidLog (log_call k c)
    × (history_of (log_call k c) ≡ after_call (history_of k) c)

-- in a valid log the latest change can be undone and redone, and the next edit to redo applies
abbrev pub LogApplies : Type 0
LogApplies =
    (k : ChangeLog)
    → IsValidLog k
    → ((c : TreeChange) (cs : List TreeChange) → k.changes ≡ c ∷ cs → (t : Tree) × (e : Edit) × (undone k.value c ≡ Ok t) × (redo_edit k.value c ≡ Ok e) × IsStep t k.value e c)
    × ((r : TreeRedo) (rs : List TreeRedo) → k.redos ≡ r ∷ rs → (u : Tree) × IsStep k.value u r.0 r.1)

-- where each edit applies, running the calls gives the history after them
abbrev pub RunCallsIsAfterCalls : Type 0
RunCallsIsAfterCalls = (t : Tree) (cs : List TreeCall) → IfOk (run_calls t cs) (λ h. after_calls (new_history t) cs ≡ h)
