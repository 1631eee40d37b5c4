-- Laws of undo and redo.
use Rattle.std.proofs.Common.{◌≡◌, ◌∙◌, ℕ, zero, suc, ◌+◌, ◌≤◌, List, [], ◌∷◌, length, take, true, false, Option, Some, None, Result, Ok, Err, refl, sym, subst, ap, arith}
use Rattle.std.specs.Result.{result_map_both}
use Rattle.json_grammar.specs.Tree.{Tree, null, boolean}
use Rattle.json_model.specs.Edit.{Changed}
use Rattle.json_history.specs.History.{TreeHistory, after_undo, after_redo, is_nonempty}
use Rattle.json_rpc.specs.Requests.{Request, request_of}
use Rattle.json_rpc.specs.Methods.{MethodOperation, get, change, undo, redo, requested_operation, rpc_error_of, document_after, tree_at_path, after_change, max_undos, performed}
use Rattle.json_rpc.specs.Serving.{responded, request_served}
use Rattle.json_rpc.specs.Laws.{UndoTakesBackTheChange, RedoTakesBackTheUndo, UndoTakesBackTheRedo, ChangeEndsRedo, HistoryIsBounded, history_size}
use Rattle.json_rpc.specs.declared.error.RpcError.{RpcError}

abbrev Outcome : Type 0
Outcome = Result (TreeHistory × Tree) RpcError

abbrev outcome_or : TreeHistory × Tree → Outcome → TreeHistory × Tree
outcome_or p (Ok q) = q
outcome_or p (Err f) = p

abbrev Performs : Outcome → TreeHistory → Tree → Type 0
Performs x g t = x ≡ Ok (g, t)

history_of_outcome : (h g : TreeHistory) (t u : Tree) → Performs (Ok (h, t)) g u → h ≡ g
history_of_outcome h g t u e = ap (λ (x : Outcome). (outcome_or (h, t) x).0) e

result_of_outcome : (h g : TreeHistory) (t u : Tree) → Performs (Ok (h, t)) g u → t ≡ u
result_of_outcome h g t u e = ap (λ (x : Outcome). (outcome_or (h, t) x).1) e

false_no_true : boolean false ≡ boolean true → ⊥
false_no_true e = cc

-- ---- after a change

-- the outcome of a change with this next document, or this error
abbrev changed : TreeHistory → Result Tree RpcError → Outcome
changed h r = result_map_both (λ u. (after_change h u, null)) (λ f. f) r

-- an undo takes this history back to the document of h
abbrev TakesBack : TreeHistory → TreeHistory → Type 0
TakesBack h g = (left : TreeHistory) × (performed undo g ≡ Ok (left, boolean true)) × (left.now ≡ h.now)

abbrev NothingRedone : TreeHistory → Type 0
NothingRedone g = performed redo g ≡ Ok (g, boolean false)

undone_after : (h g : TreeHistory) (outcome : Tree) (r : Result Tree RpcError) → changed h r ≡ Ok (g, outcome) → TakesBack h g
undone_after h g outcome (Ok u) e = let k = after_change h u in subst (TakesBack h) (history_of_outcome k g null outcome e) (after_undo k k.past, refl, refl)
undone_after h g outcome (Err f) e = cc

redone_after : (h g : TreeHistory) (outcome : Tree) (r : Result Tree RpcError) → changed h r ≡ Ok (g, outcome) → NothingRedone g
redone_after h g outcome (Ok u) e = subst NothingRedone (history_of_outcome (after_change h u) g null outcome e) refl
redone_after h g outcome (Err f) e = cc

pub undo_takes_back_the_change : UndoTakesBackTheChange
undo_takes_back_the_change h g c outcome e = undone_after h g outcome (document_after c h.now) e

pub change_ends_redo : ChangeEndsRedo
change_ends_redo h g c outcome e = redone_after h g outcome (document_after c h.now) e

-- ---- an undo and a redo

abbrev redone : TreeHistory → Outcome
redone h = Ok (h, boolean true)

abbrev with_past : TreeHistory → List Tree → TreeHistory
with_past h ts = record { now = h.now; past = ts; future = h.future }

abbrev with_future : TreeHistory → List Tree → TreeHistory
with_future h ts = record { now = h.now; past = h.past; future = ts }

redo_after_undo : (h g : TreeHistory) (ts : List Tree) → h.past ≡ ts → after_undo h ts ≡ g → boolean (is_nonempty ts) ≡ boolean true → performed redo g ≡ redone h
redo_after_undo h g [] p e some = absurd (false_no_true some)
redo_after_undo h g (t ∷ ts) p e some = ap (performed redo) (sym e) ∙ ap (λ (us : List Tree). redone (with_past h us)) (sym p)

undo_after_redo : (h g : TreeHistory) (ts : List Tree) → h.future ≡ ts → after_redo h ts ≡ g → boolean (is_nonempty ts) ≡ boolean true → performed undo g ≡ redone h
undo_after_redo h g [] p e some = absurd (false_no_true some)
undo_after_redo h g (t ∷ ts) p e some = ap (performed undo) (sym e) ∙ ap (λ (us : List Tree). redone (with_future h us)) (sym p)

pub redo_takes_back_the_undo : RedoTakesBackTheUndo
redo_takes_back_the_undo h g e =
    redo_after_undo h g h.past refl (history_of_outcome (after_undo h h.past) g (boolean (is_nonempty h.past)) (boolean true) e) (result_of_outcome (after_undo h h.past) g (boolean (is_nonempty h.past)) (boolean true) e)

pub undo_takes_back_the_redo : UndoTakesBackTheRedo
undo_takes_back_the_redo h g e =
    undo_after_redo h g h.future refl (history_of_outcome (after_redo h h.future) g (boolean (is_nonempty h.future)) (boolean true) e) (result_of_outcome (after_redo h h.future) g (boolean (is_nonempty h.future)) (boolean true) e)

-- ---- the size of a history

abbrev Bounded : TreeHistory → Type 0
Bounded h = history_size h ≤ max_undos

-- the history that is left is bounded
abbrev LeavesBounded : Outcome → Type 0
LeavesBounded (Ok done) = Bounded done.0
LeavesBounded (Err f) = Unit {0}

few_taken : (n : ℕ) (ts : List Tree) → length (take n ts) + 0 ≤ n
few_taken zero ts = omega arith
few_taken (suc n) [] = omega arith
few_taken (suc n) (t ∷ ts) = let l = few_taken n ts in omega (arith, l)

undo_bounded : (h : TreeHistory) (ts : List Tree) → h.past ≡ ts → Bounded h → Bounded (after_undo h ts)
undo_bounded h [] e l = l
undo_bounded h (t ∷ ts) e l =
    let n : length h.past ≡ suc (length ts) = ap (λ (us : List Tree). length us) e in
    let few : length h.past + length h.future ≤ max_undos = l in
    let left : length ts + suc (length h.future) ≤ max_undos = omega (arith, n, few) in
    left

redo_bounded : (h : TreeHistory) (ts : List Tree) → h.future ≡ ts → Bounded h → Bounded (after_redo h ts)
redo_bounded h [] e l = l
redo_bounded h (t ∷ ts) e l =
    let n : length h.future ≡ suc (length ts) = ap (λ (us : List Tree). length us) e in
    let few : length h.past + length h.future ≤ max_undos = l in
    let left : suc (length h.past) + length ts ≤ max_undos = omega (arith, n, few) in
    left

get_bounded : (h : TreeHistory) (c : Changed Tree) → Bounded h → LeavesBounded (result_map_both (λ u. (h, u)) rpc_error_of c)
get_bounded h (Ok u) l = l
get_bounded h (Err r) l = tt

change_bounded : (h : TreeHistory) (r : Result Tree RpcError) → LeavesBounded (result_map_both (λ u. (after_change h u, null)) (λ f. f) r)
change_bounded h (Ok u) = few_taken max_undos (h.now ∷ h.past)
change_bounded h (Err f) = tt

performed_bounded : (h : TreeHistory) (o : MethodOperation) → Bounded h → LeavesBounded (performed o h)
performed_bounded h (get p) l = get_bounded h (tree_at_path p h.now) l
performed_bounded h (change c) l = change_bounded h (document_after c h.now)
performed_bounded h undo l = undo_bounded h h.past refl l
performed_bounded h redo l = redo_bounded h h.future refl l

executed_bounded : (h : TreeHistory) (x : Result MethodOperation RpcError) → Bounded h → LeavesBounded (elim x [ Ok o ↦ performed o h | Err f ↦ Err f ])
executed_bounded h (Ok o) l = performed_bounded h o l
executed_bounded h (Err f) l = tt

responded_bounded : (h : TreeHistory) (id : Option Tree) (x : Outcome) → Bounded h → LeavesBounded x → Bounded (responded h id x).0
responded_bounded h id (Ok done) l b = b
responded_bounded h id (Err f) l b = l

served_bounded : (h : TreeHistory) (o : Option Request) → Bounded h → Bounded (request_served h o).0
served_bounded h None l = l
served_bounded h (Some r) l = responded_bounded h r.id (elim (requested_operation r) [ Ok o ↦ performed o h | Err f ↦ Err f ]) l (executed_bounded h (requested_operation r) l)

pub history_is_bounded : HistoryIsBounded
history_is_bounded h u l = served_bounded h (request_of u) l
