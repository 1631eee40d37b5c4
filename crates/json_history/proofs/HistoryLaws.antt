-- Laws of undo and redo, and of change logs.
use Rattle.std.proofs.Common.{◌≡◌, ℕ, zero, suc, ◌≤◌, List, [], ◌∷◌, ◌++◌, length, map, replicate, Result, Ok, Err, IfOk, refl, sym, ap, ◌∙◌, subst, append_assoc, arith}
use Rattle.json_grammar.specs.Tree.{Tree}
use Rattle.json_model.specs.Edit.{Edit, Changed, EditRefusal, edited_once, and_then}
use Rattle.json_history.specs.Change.{TreeChange, change, undone, redo_edit}
use Rattle.json_history.specs.History.{TreeHistory, TreeCall, edit, undo, redo, new_history, after_edit, after_undo, after_redo, after_call, after_calls, run_calls_from, TreeRedo, ChangeLog, new_log, past_of, future_of, Represents, ArePastSteps, AreFutureSteps, IsValidLog, log_undo, log_or, log_call, log_calls, IsStep, trees_or_empty, history_of}
use Rattle.json_history.specs.Laws.{UndoAfterEdit, RedoAfterUndo, UndoAfterRedo, RedosAfterUndos, AllApply, UndosAfterEdits, EmptyPastOrFuture, LogRepresentsHistory, RunCallsIsAfterCalls, LogFollowsCall, LogApplies}
use Rattle.json_history.proofs.ChangedResults.{and_then_ok}
use Rattle.json_history.proofs.UndoLaws.{edit_undone_by, undone_of_change, redo_repeats_edit}

-- ---- calls

pub undo_after_edit : UndoAfterEdit
undo_after_edit h e u a = ap (λ r. after_undo (after_edit h r) (after_edit h r).past) a

redo_after_undo_of : (h : TreeHistory) (ps : List Tree) (t : Tree) (ts : List Tree) → h.past ≡ ps → ps ≡ t ∷ ts → after_redo (after_undo h ps) (after_undo h ps).future ≡ h
redo_after_undo_of h ps t ts e f = ap (λ qs. after_redo (after_undo h qs) (after_undo h qs).future) f ∙ ap (λ qs. record { now = h.now; past = qs; future = h.future }) (sym f ∙ sym e)

pub redo_after_undo : RedoAfterUndo
redo_after_undo h t ts e = redo_after_undo_of h h.past t ts refl e

undo_after_redo_of : (h : TreeHistory) (ps : List Tree) (t : Tree) (ts : List Tree) → h.future ≡ ps → ps ≡ t ∷ ts → after_undo (after_redo h ps) (after_redo h ps).past ≡ h
undo_after_redo_of h ps t ts e f = ap (λ qs. after_undo (after_redo h qs) (after_redo h qs).past) f ∙ ap (λ qs. record { now = h.now; past = h.past; future = qs }) (sym f ∙ sym e)

pub undo_after_redo : UndoAfterRedo
undo_after_redo h t ts e = undo_after_redo_of h h.future t ts refl e

pub empty_past_or_future : EmptyPastOrFuture
empty_past_or_future h = (λ e. ap (after_undo h) e, λ e. ap (after_redo h) e)

after_calls_append : (h : TreeHistory) (cs ds : List TreeCall) → after_calls h (cs ++ ds) ≡ after_calls (after_calls h cs) ds
after_calls_append h [] ds = refl
after_calls_append h (c ∷ cs) ds = after_calls_append (after_call h c) cs ds

-- n calls, and one more
replicate_snoc : (n : ℕ) (c : TreeCall) → c ∷ replicate n c ≡ replicate n c ++ c ∷ []
replicate_snoc zero c = refl
replicate_snoc (suc n) c = ap (λ cs. c ∷ cs) (replicate_snoc n c)

past_after_undo : (h : TreeHistory) (n : ℕ) → suc n ≤ length h.past → n ≤ length (after_call h undo).past
past_after_undo h n l = by h.past l
  where
    by : (ps : List Tree) → suc n ≤ length ps → n ≤ length (after_undo h ps).past
    by [] l = absurd (omega arith)
    by (t ∷ ts) l = omega arith

first_in_list : (ts : List Tree) (n : ℕ) → suc n ≤ length ts → (t : Tree) × (us : List Tree) × (ts ≡ t ∷ us)
first_in_list [] n l = absurd (omega arith)
first_in_list (t ∷ us) n l = (t, us, refl)

pub redos_after_undos : RedosAfterUndos
redos_after_undos h zero l = refl
redos_after_undos h (suc n) l =
    let a = first_in_list h.past n l in
    ap (after_calls (after_call h undo)) (ap (λ cs. replicate n undo ++ cs) (replicate_snoc n redo) ∙ sym (append_assoc (replicate n undo) (replicate n redo) (redo ∷ [])))
    ∙ after_calls_append (after_call h undo) (replicate n undo ++ replicate n redo) (redo ∷ [])
    ∙ ap (λ g. after_call g redo) (redos_after_undos (after_call h undo) n (past_after_undo h n l))
    ∙ redo_after_undo h a.0 a.1 a.2

-- an undo where there is a past
after_undo_parts : (h : TreeHistory) (t : Tree) (ts : List Tree) → h.past ≡ t ∷ ts → ((after_call h undo).now ≡ t) × ((after_call h undo).past ≡ ts)
after_undo_parts h t ts e = (ap (λ ps. (after_undo h ps).now) e, ap (λ ps. (after_undo h ps).past) e)

-- the tree and the past after one edit
after_edit_now : (h : TreeHistory) (e : Edit) (u : Tree) → edited_once e h.now ≡ Ok u → (after_call h (edit e)).now ≡ u
after_edit_now h e u a = ap (λ r. (after_edit h r).now) a

after_edit_past : (h : TreeHistory) (e : Edit) (u : Tree) → edited_once e h.now ≡ Ok u → (after_call h (edit e)).past ≡ h.now ∷ h.past
after_edit_past h e u a = ap (λ r. (after_edit h r).past) a

-- edits and as many undos
abbrev edits_then_undos : List Edit → List TreeCall
edits_then_undos es = map edit es ++ replicate (length es) undo

abbrev UndoneByUndos : TreeHistory → List Edit → Type 0
UndoneByUndos h es = ((after_calls h (edits_then_undos es)).now ≡ h.now) × ((after_calls h (edits_then_undos es)).past ≡ h.past)

undos_after_one_edit : (h : TreeHistory) (e : Edit) (es : List Edit) (u : Tree) → edited_once e h.now ≡ Ok u → UndoneByUndos (after_call h (edit e)) es → UndoneByUndos h (e ∷ es)
undos_after_one_edit h e es u a i = (ap (λ (g : TreeHistory). g.now) whole ∙ b.0, ap (λ (g : TreeHistory). g.past) whole ∙ b.1)
  where
    g : TreeHistory
    g = after_calls (after_call h (edit e)) (edits_then_undos es)

    b : ((after_call g undo).now ≡ h.now) × ((after_call g undo).past ≡ h.past)
    b = after_undo_parts g h.now h.past (i.1 ∙ after_edit_past h e u a)

    whole : after_calls h (edits_then_undos (e ∷ es)) ≡ after_call g undo
    whole =
        ap (after_calls (after_call h (edit e))) (ap (λ cs. map edit es ++ cs) (replicate_snoc (length es) undo) ∙ sym (append_assoc (map edit es) (replicate (length es) undo) (undo ∷ [])))
        ∙ after_calls_append (after_call h (edit e)) (edits_then_undos es) (undo ∷ [])

pub undos_after_edits : UndosAfterEdits
undos_after_edits h [] a = (refl, refl)
undos_after_edits h (e ∷ es) a = undos_after_one_edit h e es a.0 a.1 (undos_after_edits (after_call h (edit e)) es (subst (AllApply es) (sym (after_edit_now h e a.0 a.1)) a.2))

-- calls that all apply
run_calls_from_is_after_calls : (n : ℕ) (h : TreeHistory) (cs : List TreeCall) → IfOk (run_calls_from n h cs) (λ g. after_calls h cs ≡ g)
run_calls_from_is_after_calls n h [] = refl
run_calls_from_is_after_calls n h (edit e ∷ cs) = by (edited_once e h.now) (λ u. run_calls_from_is_after_calls (suc n) (after_edit h (Ok u)) cs)
  where
    by : (r : Changed Tree) → ((u : Tree) → IfOk (run_calls_from (suc n) (after_edit h (Ok u)) cs) (λ g. after_calls (after_edit h (Ok u)) cs ≡ g))
        → IfOk (elim r as (λ _. Result TreeHistory (ℕ × EditRefusal)) [ Ok u ↦ run_calls_from (suc n) (after_edit h (Ok u)) cs | Err r ↦ Err (n, r) ]) (λ g. after_calls (after_edit h r) cs ≡ g)
    by (Ok u) i = i u
    by (Err r) i = tt
run_calls_from_is_after_calls n h (undo ∷ cs) = run_calls_from_is_after_calls (suc n) (after_undo h h.past) cs
run_calls_from_is_after_calls n h (redo ∷ cs) = run_calls_from_is_after_calls (suc n) (after_redo h h.future) cs

pub run_calls_is_after_calls : RunCallsIsAfterCalls
run_calls_is_after_calls t cs = run_calls_from_is_after_calls 0 (new_history t) cs

-- ---- change logs

pub record ValidAndRepresents (k : ChangeLog) (h : TreeHistory) : Type 0 where
  pub kept : IsValidLog k
  pub tells : Represents k h

-- a log, by its parts
abbrev log : Tree → List TreeChange → List TreeRedo → ChangeLog
log v cs rs = record { value = v; changes = cs; redos = rs }

abbrev history : Tree → List Tree → List Tree → TreeHistory
history v past future = record { now = v; past = past; future = future }

edit_step : (v : Tree) (cs : List TreeChange) (rs : List TreeRedo) (past future : List Tree) (e : Edit) → ValidAndRepresents (log v cs rs) (history v past future) → ValidAndRepresents (log_call (log v cs rs) (edit e)) (after_call (history v past future) (edit e))
edit_step v cs rs past future e b = by (edited_once e v) refl
  where
    by : (r : Changed Tree) → edited_once e v ≡ r
        → ValidAndRepresents (log_or (log v cs rs) (and_then r (λ u. and_then (change v e) (λ c. Ok (record { value = u; changes = c ∷ cs; redos = [] }))))) (after_edit (history v past future) r)
    by (Ok u) q =
        let a = edit_undone_by v u e q in
        subst (λ x. ValidAndRepresents (log_or (log v cs rs) (and_then x (λ c. Ok (record { value = u; changes = c ∷ cs; redos = [] })))) (after_edit (history v past future) (Ok u))) (sym a.told_so) (
        record {
          kept = ((v, e, (q, a.told_so), b.kept.0), tt);
          tells = record {
            now = refl;
            past = ap (λ r. and_then r (λ w. and_then (past_of w cs) (λ us. Ok (w ∷ us)))) a.puts_back ∙ ap (λ r. and_then r (λ us. Ok (v ∷ us))) b.tells.past;
            future = refl;
          };
        }
        )
    by (Err r) q = b

same_past : (a b : List Tree) → ◌≡◌ {A = Changed (List Tree)} (Ok a) (Ok b) → a ≡ b
same_past a b e = cc

undo_step : (v : Tree) (cs : List TreeChange) (rs : List TreeRedo) (past future : List Tree) → ValidAndRepresents (log v cs rs) (history v past future) → ValidAndRepresents (log_call (log v cs rs) undo) (after_call (history v past future) undo)
undo_step v [] rs past future b = subst (λ ps. ValidAndRepresents (log v [] rs) (after_undo (history v past future) ps)) (same_past [] past b.tells.past) b
undo_step v (c ∷ cs) rs past future b = subst (λ ps. ValidAndRepresents (log_call (log v (c ∷ cs) rs) undo) (after_undo (history v past future) ps)) (same_past (t ∷ us) past x.2) stepped
  where
    l : ArePastSteps v (c ∷ cs)
    l = b.kept.0

    t : Tree
    t = l.0

    puts_back : undone v c ≡ Ok t
    puts_back = undone_of_change t v l.1 c l.2.0 l.2.1

    d : (again : Edit) × (redo_edit v c ≡ Ok again) × (edited_once again t ≡ Ok v) × (change t again ≡ Ok c)
    d = redo_repeats_edit t v l.1 c l.2.0 l.2.1

    x : (us : List Tree) × (past_of t cs ≡ Ok us) × (◌≡◌ {A = Changed (List Tree)} (Ok (t ∷ us)) (Ok past))
    x = and_then_ok (past_of t cs) (λ us. Ok (t ∷ us)) past (ap (λ r. and_then r (λ w. and_then (past_of w cs) (λ us. Ok (w ∷ us)))) (sym puts_back) ∙ b.tells.past)

    us : List Tree
    us = x.0

    after : ValidAndRepresents (log t cs ((d.0, c) ∷ rs)) (history t us (v ∷ future))
    after =
        record {
          kept = (l.3, (v, (d.2, d.3), b.kept.1));
          tells = record {
            now = refl;
            past = x.1;
            future = ap (λ r. and_then r (λ w. and_then (future_of w rs) (λ us. Ok (w ∷ us)))) d.2 ∙ ap (λ r. and_then r (λ us. Ok (v ∷ us))) b.tells.future;
          };
        }

    steps : log_undo (log v (c ∷ cs) rs) (c ∷ cs) ≡ Ok (log t cs ((d.0, c) ∷ rs))
    steps =
        ap (λ r. and_then r (λ w. and_then (redo_edit v c) (λ e. Ok (record { value = w; changes = cs; redos = (e, c) ∷ rs })))) puts_back
        ∙ ap (λ r. and_then r (λ e. Ok (record { value = t; changes = cs; redos = (e, c) ∷ rs }))) d.1

    stepped : ValidAndRepresents (log_call (log v (c ∷ cs) rs) undo) (history t us (v ∷ future))
    stepped = subst (λ r. ValidAndRepresents (log_or (log v (c ∷ cs) rs) r) (history t us (v ∷ future))) (sym steps) after

redo_step : (v : Tree) (cs : List TreeChange) (rs : List TreeRedo) (past future : List Tree) → ValidAndRepresents (log v cs rs) (history v past future) → ValidAndRepresents (log_call (log v cs rs) redo) (after_call (history v past future) redo)
redo_step v cs [] past future b = subst (λ ps. ValidAndRepresents (log v cs []) (after_redo (history v past future) ps)) (same_past [] future b.tells.future) b
redo_step v cs (r ∷ rs) past future b = subst (λ ps. ValidAndRepresents (log_call (log v cs (r ∷ rs)) redo) (after_redo (history v past future) ps)) (same_past (u ∷ us) future x.2) stepped
  where
    l : AreFutureSteps v (r ∷ rs)
    l = b.kept.1

    u : Tree
    u = l.0

    gives : edited_once r.0 v ≡ Ok u
    gives = l.1.0

    x : (us : List Tree) × (future_of u rs ≡ Ok us) × (◌≡◌ {A = Changed (List Tree)} (Ok (u ∷ us)) (Ok future))
    x = and_then_ok (future_of u rs) (λ us. Ok (u ∷ us)) future (ap (λ s. and_then s (λ w. and_then (future_of w rs) (λ us. Ok (w ∷ us)))) (sym gives) ∙ b.tells.future)

    us : List Tree
    us = x.0

    after : ValidAndRepresents (log u (r.1 ∷ cs) rs) (history u (v ∷ past) us)
    after =
        record {
          kept = ((v, r.0, l.1, b.kept.0), l.2);
          tells = record {
            now = refl;
            past =
                ap (λ s. and_then s (λ w. and_then (past_of w cs) (λ us. Ok (w ∷ us)))) (undone_of_change v u r.0 r.1 gives l.1.1)
                ∙ ap (λ s. and_then s (λ us. Ok (v ∷ us))) b.tells.past;
            future = x.1;
          };
        }

    stepped : ValidAndRepresents (log_call (log v cs (r ∷ rs)) redo) (history u (v ∷ past) us)
    stepped = subst (λ s. ValidAndRepresents (log_or (log v cs (r ∷ rs)) s) (history u (v ∷ past) us)) (sym (ap (λ s. and_then s (λ w. Ok (record { value = w; changes = r.1 ∷ cs; redos = rs }))) gives)) after

call_step : (k : ChangeLog) (past future : List Tree) (c : TreeCall) → ValidAndRepresents k (history k.value past future) → ValidAndRepresents (log_call k c) (after_call (history k.value past future) c)
call_step k past future (edit e) b = edit_step k.value k.changes k.redos past future e b
call_step k past future undo b = undo_step k.value k.changes k.redos past future b
call_step k past future redo b = redo_step k.value k.changes k.redos past future b

-- after one call the log is valid and represents the history after it
pub after_each_call : (k : ChangeLog) (h : TreeHistory) (c : TreeCall) → ValidAndRepresents k h → ValidAndRepresents (log_call k c) (after_call h c)
after_each_call k h c b = subst (λ v. ValidAndRepresents (log_call k c) (after_call (history v h.past h.future) c)) b.tells.now (call_step k h.past h.future c (subst (λ v. ValidAndRepresents k (history v h.past h.future)) (sym b.tells.now) b))

after_all_calls : (k : ChangeLog) (h : TreeHistory) (cs : List TreeCall) → ValidAndRepresents k h → ValidAndRepresents (log_calls k cs) (after_calls h cs)
after_all_calls k h [] b = b
after_all_calls k h (c ∷ cs) b = after_all_calls (log_call k c) (after_call h c) cs (after_each_call k h c b)

pub log_represents_history : LogRepresentsHistory
log_represents_history t cs =
    let b = after_all_calls (new_log t) (new_history t) cs (record { kept = (tt, tt); tells = record { now = refl; past = refl; future = refl } }) in
    (b.kept, b.tells)

-- ---- what a valid log represents

-- trees that there are
ok_trees_or_empty : (r : Changed (List Tree)) (ts : List Tree) → r ≡ Ok ts → r ≡ Ok (trees_or_empty r)
ok_trees_or_empty r ts e = e ∙ ap (λ r. Ok (trees_or_empty r)) (sym e)

pub past_of_valid : (v : Tree) (cs : List TreeChange) → ArePastSteps v cs → past_of v cs ≡ Ok (trees_or_empty (past_of v cs))
past_of_valid v [] l = refl
past_of_valid v (c ∷ cs) l =
    ok_trees_or_empty (past_of v (c ∷ cs)) (l.0 ∷ trees_or_empty (past_of l.0 cs)) (
    ap (λ r. and_then r (λ w. and_then (past_of w cs) (λ us. Ok (w ∷ us)))) (undone_of_change l.0 v l.1 c l.2.0 l.2.1)
    ∙ ap (λ r. and_then r (λ us. Ok (l.0 ∷ us))) (past_of_valid l.0 cs l.3)
    )

pub future_of_valid : (v : Tree) (rs : List TreeRedo) → AreFutureSteps v rs → future_of v rs ≡ Ok (trees_or_empty (future_of v rs))
future_of_valid v [] l = refl
future_of_valid v (r ∷ rs) l =
    ok_trees_or_empty (future_of v (r ∷ rs)) (l.0 ∷ trees_or_empty (future_of l.0 rs)) (
    ap (λ s. and_then s (λ w. and_then (future_of w rs) (λ us. Ok (w ∷ us)))) l.1.0
    ∙ ap (λ s. and_then s (λ us. Ok (l.0 ∷ us))) (future_of_valid l.0 rs l.2)
    )

represents_itself : (k : ChangeLog) → IsValidLog k → Represents k (history_of k)
represents_itself k a = record { now = refl; past = past_of_valid k.value k.changes a.0; future = future_of_valid k.value k.redos a.1 }

-- a log represents one history alone
represented_once : (k : ChangeLog) (h : TreeHistory) → Represents k h → history_of k ≡ h
represented_once k h t = λ i. record { now = t.now i; past = ap trees_or_empty t.past i; future = ap trees_or_empty t.future i }

pub log_follows_call : LogFollowsCall
log_follows_call k c a =
    let t = represents_itself k a in
    let b = after_each_call k (history_of k) c (record { kept = a; tells = t }) in
    (t, b.kept, represented_once (log_call k c) (after_call (history_of k) c) b.tells)

pub log_applies : LogApplies
log_applies k a = (before, after)
  where
    before : (c : TreeChange) (cs : List TreeChange) → k.changes ≡ c ∷ cs → (t : Tree) × (e : Edit) × (undone k.value c ≡ Ok t) × (redo_edit k.value c ≡ Ok e) × IsStep t k.value e c
    before c cs e =
        let l : ArePastSteps k.value (c ∷ cs) = subst (ArePastSteps k.value) e a.0 in
        let d = redo_repeats_edit l.0 k.value l.1 c l.2.0 l.2.1 in
        (l.0, d.0, undone_of_change l.0 k.value l.1 c l.2.0 l.2.1, d.1, (d.2, d.3))

    after : (r : TreeRedo) (rs : List TreeRedo) → k.redos ≡ r ∷ rs → (u : Tree) × IsStep k.value u r.0 r.1
    after r rs e = let l : AreFutureSteps k.value (r ∷ rs) = subst (AreFutureSteps k.value) e a.1 in (l.0, l.1)
