-- What dropping the oldest changes, or the edits to redo, leaves of a history.
use Rattle.std.specs.Prelude.{ℕ, List, [], take, reverse}
use Rattle.json_history.specs.History.{TreeHistory, ChangeLog}

-- the last n entries of a list, or all
abbrev pub last_entries : {A : Type 0} → ℕ → List A → List A
last_entries n xs = reverse (take n (reverse xs))

-- at most n trees of the past are left: the oldest go first
abbrev pub limit_past : ℕ → TreeHistory → TreeHistory
limit_past n h = record { now = h.now; past = take n h.past; future = h.future }

abbrev pub without_future : TreeHistory → TreeHistory
without_future h = record { now = h.now; past = h.past; future = [] }

-- at most n changes of the log are left: the oldest go first
abbrev pub limit_changes : ℕ → ChangeLog → ChangeLog
limit_changes n k = record { value = k.value; changes = take n k.changes; redos = k.redos }

abbrev pub without_redos : ChangeLog → ChangeLog
without_redos k = record { value = k.value; changes = k.changes; redos = [] }
