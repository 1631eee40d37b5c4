-- A change of the document, by the calls that make it.
use Rattle.std.proofs.Common.{◌≡◌, ◌∙◌, ℕ, List, [], ◌∷◌, length, not, Option, Ok, Err, refl, sym, ap, eq-eqb, ne_eqb, arith}
use Rattle.std.proofs.Math.Dec.{eqb}
use Rattle.std.specs.Result.{result_map_both}
use Rattle.json_grammar.specs.Tree.{Tree, null}
use Rattle.json_model.specs.Edit.{Step, Edit, EditRefusal, Changed, set_at, edited_once, and_then}
use Rattle.json_history.specs.Change.{change}
use Rattle.json_history.specs.History.{TreeHistory, ChangeLog, edit as call_edit, after_edit, after_call, history_of, is_nonempty, log_edit}
use Rattle.json_history.specs.Limits.{limit_past}
use Rattle.json_history.proofs.ChangedResults.{and_then_ok}
use Rattle.json_patch.specs.Patch.{PatchFailure, patched}
use Rattle.json_rpc.specs.Methods.{DocumentChange, rpc_error_of, rpc_error_of_patch, edit, patch, change as change_by, document_after, after_change, max_undos, performed}
use Rattle.json_rpc.specs.Perform.{ChangesHistory}
use Rattle.json_rpc.specs.declared.error.RpcError.{RpcError}

-- an edit that does not apply
pub edit_fails : (t : Tree) (e : Edit) (why : EditRefusal) → edited_once e t ≡ Err why → document_after (edit e) t ≡ Err (rpc_error_of why)
edit_fails t e why h = ap (result_map_both (λ u. u) rpc_error_of) h

-- the error for a patch that fails so
pub patch_fails : (t p : Tree) (f : PatchFailure) (op : Option ℕ) → patched t p ≡ Err (f, op) → document_after (patch p) t ≡ Err (rpc_error_of_patch f)
patch_fails t p f op h = ap (result_map_both (λ u. u) (λ (q : PatchFailure × Option ℕ). rpc_error_of_patch q.0)) h

-- a patch that applies
pub patch_applies : (t p u : Tree) → patched t p ≡ Ok u → document_after (patch p) t ≡ Ok u
patch_applies t p u h = ap (result_map_both (λ u. u) (λ (q : PatchFailure × Option ℕ). rpc_error_of_patch q.0)) h

-- ---- the history of the document

pub same_history : (k m : ChangeLog) → m ≡ k → history_of m ≡ history_of k
same_history k m h = ap history_of h

-- the change was made of this document, and the next one replaced it
pub history_changed : (h g : TreeHistory) (c : DocumentChange) (t u : Tree) → t ≡ h.now → document_after c t ≡ Ok u → g ≡ after_edit h (Ok u) → ChangesHistory h c g (Ok tt)
history_changed h g c t u a b e =
    let now : u ≡ g.now = sym (ap (λ (k : TreeHistory). k.now) e) in
    (ap (document_after c) (sym a) ∙ b ∙ ap Ok now, e ∙ ap (λ v. after_edit h (Ok v)) now)

-- it does not apply to this document
pub history_kept : (h g : TreeHistory) (c : DocumentChange) (t : Tree) (f : RpcError) → t ≡ h.now → document_after c t ≡ Err f → g ≡ h → ChangesHistory h c g (Err f)
history_kept h g c t f a b e = (ap (document_after c) (sym a) ∙ b, e)

-- what a log becomes where an edit makes this tree
abbrev logged : ChangeLog → Edit → Tree → Changed ChangeLog
logged k e u = and_then (change k.value e) (λ c. Ok (record { value = u; changes = c ∷ k.changes; redos = [] }))

-- an edit that was applied
pub edit_applied : (k m : ChangeLog) (e : Edit) → log_edit k e ≡ Ok m → history_of m ≡ after_call (history_of k) (call_edit e) → ChangesHistory (history_of k) (edit e) (history_of m) (Ok tt)
edit_applied k m e made after =
    let applied = and_then_ok (edited_once e k.value) (logged k e) m made in
    history_changed (history_of k) (history_of m) (edit e) k.value applied.0 refl (ap (result_map_both (λ u. u) rpc_error_of) applied.1) (after ∙ ap (after_edit (history_of k)) applied.1)

-- an edit that sets the root always applies
pub root_is_set : (p : List Step) (t u : Tree) → p ≡ [] → edited_once (set_at p u) t ≡ Ok u
root_is_set p t u e = ap (λ q. edited_once (set_at q u) t) e

pub root_replaced : (h g : TreeHistory) (p : List Step) (u : Tree) → p ≡ [] → g ≡ after_call h (call_edit (set_at p u)) → g ≡ after_edit h (Ok u)
root_replaced h g p u e after = after ∙ ap (after_edit h) (root_is_set p h.now u e)

-- ---- what a change answers

-- the next history and the result of a change that was made
pub change_performed : (h g n : TreeHistory) (c : DocumentChange) → ChangesHistory h c g (Ok tt) → n ≡ limit_past max_undos g → performed (change_by c) h ≡ Ok (n, null)
change_performed h g n c made limited =
    ap (result_map_both (λ u. (after_change h u, null)) (λ f. f)) made.0 ∙ ap (λ (k : TreeHistory). Ok (k, null)) (ap (limit_past max_undos) (sym made.1) ∙ sym limited)

-- the error of one that does not apply
pub change_refused : (h g : TreeHistory) (c : DocumentChange) (f : RpcError) → ChangesHistory h c g (Err f) → performed (change_by c) h ≡ Err f
change_refused h g c f kept = ap (result_map_both (λ u. (after_change h u, null)) (λ f. f)) kept.0

-- a list that has elements is not empty
pub some_counted : (ts : List Tree) (n : ℕ) → n ≡ length ts → is_nonempty ts ≡ not (eqb n 0)
some_counted [] n e = sym (ap not (eq-eqb n 0 e))
some_counted (t ∷ ts) n e = sym (ap not (ne_eqb n 0 (λ z. omega (arith, e, z))))
