-- Laws of serving.
use Rattle.std.proofs.Common.{◌≡◌, ◌∙◌, ◌↔◌, ℕ, zero, suc, ◌+◌, List, [], ◌∷◌, ◌++◌, length, Bool, true, false, cond, Option, Some, None, Result, Ok, Err, option_map, codes, refl, sym, subst, ap, ap₂, arith, append_assoc}
use Rattle.std.specs.Prelude.{IfSome, ok_or, option_to_list, bytes_eq, slice_get}
use Rattle.std.specs.Result.{result_map_both}
use Rattle.std.proofs.lemmas.List.{length-append}
use Rattle.std.proofs.lemmas.List.Sums.{sum_by-cons}
use Rattle.json_grammar.specs.Tree.{Tree, null, boolean, num, text, list, pairs, Trees, no_trees, tree_and, Pairs, no_pairs, pair_and, trees_list, pairs_list}
use Rattle.json_model.specs.Edit.{Step, key_step, index_step, Changed, EditRefusal, not_found, type_unmatched, within, at_key, at_index, at_path}
use Rattle.json_value.specs.Seen.{first_of}
use Rattle.json_value.specs.Steps.{child, tree_at}
use Rattle.json_history.specs.History.{TreeHistory}
use Rattle.json_rpc.specs.Requests.{Request, named_member, request_of, version}
use Rattle.json_rpc.specs.Methods.{tree_at_path}
use Rattle.json_rpc.specs.Serving.{executed, responded, request_served, member_served, batch_served, batch_reply}
use Rattle.json_rpc.specs.Laws.{has_id, wants_response, NotificationHasNoReply, NotificationHasItsEffect, ReplyHasTheId, InvalidHasNullId, ErrorLeavesTheDocument, InvalidLeavesTheDocument, OneResponseEach, BatchInTurn, NotificationsHaveNoReply, LookupFollowsThePath, LookupFailsAsAnEdit}
use Rattle.json_rpc.specs.declared.error.RpcError.{RpcError}

abbrev Outcome : Type 0
Outcome = Result (TreeHistory × Tree) RpcError

none_some : {A : Type 0} {x : A} → None ≡ Some x → ⊥
none_some e = cc

-- ---- one request

no_reply : (t : TreeHistory) (x : Outcome) → (responded t None x).1 ≡ None
no_reply t (Ok d) = refl
no_reply t (Err f) = refl

pub notification_has_no_reply : NotificationHasNoReply
notification_has_no_reply t u r e n = ap (λ o. (request_served t o).1) e ∙ ap (λ id. (responded t id (executed r t)).1) n ∙ no_reply t (executed r t)

same_effect : (t : TreeHistory) (i j : Option Tree) (x : Outcome) → (responded t i x).0 ≡ (responded t j x).0
same_effect t i j (Ok d) = refl
same_effect t i j (Err f) = refl

pub notification_has_its_effect : NotificationHasItsEffect
notification_has_its_effect t u v r s e f m p =
    let x : executed r t ≡ executed s t = ap₂ (λ m p. executed (record { method = m; params = p; id = None }) t) m p in
    ap (λ o. (request_served t o).0) e ∙ same_effect t r.id s.id (executed r t) ∙ ap (λ x. (responded t s.id x).0) x ∙ sym (ap (λ o. (request_served t o).0) f)

abbrev HasId : Option Tree → Tree → Type 0
HasId id reply = (named_member (codes "id") reply ≡ id) × (named_member (codes "jsonrpc") reply ≡ Some (text version))

with_id : (t : TreeHistory) (reply : Tree) (id : Option Tree) (x : Outcome) → (responded t id x).1 ≡ Some reply → HasId id reply
with_id t reply None (Ok d) e = absurd (none_some e)
with_id t reply None (Err f) e = absurd (none_some e)
with_id t reply (Some i) (Ok d) e = subst (λ o. IfSome o (HasId (Some i))) e (refl, refl)
with_id t reply (Some i) (Err f) e = subst (λ o. IfSome o (HasId (Some i))) e (refl, refl)

pub reply_has_the_id : ReplyHasTheId
reply_has_the_id t u reply r e h = with_id t reply r.id (executed r t) (sym (ap (λ o. (request_served t o).1) e) ∙ h)

pub invalid_has_null_id : InvalidHasNullId
invalid_has_null_id t u e = subst (λ o. IfSome (request_served t o).1 (λ reply. named_member (codes "id") reply ≡ Some null)) (sym e) refl

pub error_leaves_the_document : ErrorLeavesTheDocument
error_leaves_the_document t u r f e h = ap (λ o. (request_served t o).0) e ∙ ap (λ x. (responded t r.id x).0) h

pub invalid_leaves_the_document : InvalidLeavesTheDocument
invalid_leaves_the_document t u e = ap (λ o. (request_served t o).0) e

-- ---- batches

one_or_none : (t : TreeHistory) (o : Option Request) → length (option_to_list (request_served t o).1) ≡ cond (wants_response o) 1 0
one_or_none t None = refl
one_or_none t (Some r) = by r.id (executed r t)
  where
    by : (id : Option Tree) (x : Outcome) → length (option_to_list (responded t id x).1) ≡ cond (has_id id) 1 0
    by None (Ok d) = refl
    by None (Err f) = refl
    by (Some i) (Ok d) = refl
    by (Some i) (Err f) = refl

pub one_response_each : OneResponseEach
one_response_each t [] = refl
one_response_each t (u ∷ us) =
    let one = member_served t u in
    length-append (option_to_list one.1) (batch_served one.0 us).1 ∙ ap₂ (λ m n. m + n) (one_or_none t (request_of u)) (one_response_each one.0 us)
    ∙ sym (sum_by-cons (λ u. cond (wants_response (request_of u)) 1 0) u us)

pub batch_in_turn : BatchInTurn
batch_in_turn t [] vs = refl
batch_in_turn t (u ∷ us) vs =
    let one = member_served t u in
    let first = batch_served one.0 us in
    let later = batch_served first.0 vs in
    ap (λ (r : TreeHistory × List Tree). (r.0, option_to_list one.1 ++ r.1)) (batch_in_turn one.0 us vs) ∙ ap (λ xs. (later.0, xs)) (sym (append_assoc (option_to_list one.1) first.1 later.1))

none_of : (rs : List Tree) → length rs ≡ 0 → batch_reply rs ≡ None
none_of [] e = refl
none_of (r ∷ rs) e = absurd (omega arith)

pub notifications_have_no_reply : NotificationsHaveNoReply
notifications_have_no_reply t us e = none_of (batch_served t us).1 (one_response_each t us ∙ e)

-- ---- get

abbrev Goes : Changed Tree → Option Tree → Type 0
Goes c o = (u : Tree) → (c ≡ Ok u) ↔ (o ≡ Some u)

onward : (o : Option Tree) (p : List Step) → ((v : Tree) → Goes (tree_at_path p v) (tree_at p v))
    → Goes (elim (ok_or o not_found) [ Ok u ↦ tree_at_path p u | Err r ↦ Err r ]) (elim o [ None ↦ None | Some u ↦ tree_at p u ])
onward None p h u = (λ e. cc, λ e. cc)
onward (Some v) p h u = h v u

nowhere : (why : EditRefusal) (o : Option Tree) → o ≡ None → (p : List Step) → Goes (Err why) (elim o [ None ↦ None | Some u ↦ tree_at p u ])
nowhere why None e p u = (λ e. cc, λ e. cc)
nowhere why (Some v) e p u = absurd (none_some (sym e))

pub lookup_follows_the_path : LookupFollowsThePath
lookup_follows_the_path [] t u = (λ e. cc, λ e. cc)
lookup_follows_the_path (key_step k ∷ p) (pairs ps) u = onward (child (key_step k) (pairs ps)) p (λ v w. lookup_follows_the_path p v w) u
lookup_follows_the_path (index_step i ∷ p) (list ts) u = onward (child (index_step i) (list ts)) p (λ v w. lookup_follows_the_path p v w) u
lookup_follows_the_path (key_step k ∷ p) null u = nowhere type_unmatched (child (key_step k) null) refl p u
lookup_follows_the_path (key_step k ∷ p) (boolean b) u = nowhere type_unmatched (child (key_step k) (boolean b)) refl p u
lookup_follows_the_path (key_step k ∷ p) (num l) u = nowhere type_unmatched (child (key_step k) (num l)) refl p u
lookup_follows_the_path (key_step k ∷ p) (text s) u = nowhere type_unmatched (child (key_step k) (text s)) refl p u
lookup_follows_the_path (key_step k ∷ p) (list ts) u = nowhere type_unmatched (child (key_step k) (list ts)) refl p u
lookup_follows_the_path (index_step i ∷ p) null u = nowhere type_unmatched (child (index_step i) null) refl p u
lookup_follows_the_path (index_step i ∷ p) (boolean b) u = nowhere type_unmatched (child (index_step i) (boolean b)) refl p u
lookup_follows_the_path (index_step i ∷ p) (num l) u = nowhere type_unmatched (child (index_step i) (num l)) refl p u
lookup_follows_the_path (index_step i ∷ p) (text s) u = nowhere type_unmatched (child (index_step i) (text s)) refl p u
lookup_follows_the_path (index_step i ∷ p) (pairs ps) u = nowhere type_unmatched (child (index_step i) (pairs ps)) refl p u

-- what is found, with what is there left as it is
abbrev kept : {A B : Type 0} → A → Changed B → Changed A
kept x c = result_map_both (λ u. x) (λ r. r) c

abbrev stepped : Option Tree → (Tree → Changed Tree) → Changed Tree
stepped o g = elim (ok_or o not_found) [ Ok u ↦ g u | Err r ↦ Err r ]

kept_within : {A B C : Type 0} (f : A → C) (x : A) (c : Changed B) → within f (kept x c) ≡ kept (f x) c
kept_within f x (Ok u) = refl
kept_within f x (Err r) = refl

at_key_kept : (k : List ℕ) (f g : Tree → Changed Tree) → ((v : Tree) → f v ≡ kept v (g v)) → (ps : Pairs) → at_key k f ps ≡ kept ps (stepped (option_map (λ p. p.1) (first_of k (pairs_list ps))) g)
at_key_kept k f g h no_pairs = refl
at_key_kept k f g h (pair_and n t ps) = by (at_key_kept k f g h ps) (bytes_eq n k)
  where
    by : at_key k f ps ≡ kept ps (stepped (option_map (λ p. p.1) (first_of k (pairs_list ps))) g) → (b : Bool) → cond b (within (λ u. pair_and n u ps) (f t)) (within (λ qs. pair_and n t qs) (at_key k f ps)) ≡ kept (pair_and n t ps) (stepped (option_map (λ p. p.1) (cond b (Some (n, t)) (first_of k (pairs_list ps)))) g)
    by rest true = ap (within (λ u. pair_and n u ps)) (h t) ∙ kept_within (λ u. pair_and n u ps) t (g t)
    by rest false = ap (within (λ qs. pair_and n t qs)) rest ∙ kept_within (λ qs. pair_and n t qs) ps (stepped (option_map (λ p. p.1) (first_of k (pairs_list ps))) g)

at_index_kept : (i : ℕ) (f g : Tree → Changed Tree) → ((v : Tree) → f v ≡ kept v (g v)) → (ts : Trees) → at_index i f ts ≡ kept ts (stepped (slice_get (trees_list ts) i) g)
at_index_kept i f g h no_trees = refl
at_index_kept zero f g h (tree_and t ts) = ap (within (λ u. tree_and u ts)) (h t) ∙ kept_within (λ u. tree_and u ts) t (g t)
at_index_kept (suc i) f g h (tree_and t ts) = ap (within (λ us. tree_and t us)) (at_index_kept i f g h ts) ∙ kept_within (λ us. tree_and t us) ts (stepped (slice_get (trees_list ts) i) g)

pub lookup_fails_as_an_edit : LookupFailsAsAnEdit
lookup_fails_as_an_edit [] t = refl
lookup_fails_as_an_edit (key_step k ∷ p) (pairs ps) = ap (within pairs) (at_key_kept k (at_path p (λ u. Ok u)) (tree_at_path p) (lookup_fails_as_an_edit p) ps) ∙ kept_within pairs ps (stepped (child (key_step k) (pairs ps)) (tree_at_path p))
lookup_fails_as_an_edit (index_step i ∷ p) (list ts) = ap (within list) (at_index_kept i (at_path p (λ u. Ok u)) (tree_at_path p) (lookup_fails_as_an_edit p) ts) ∙ kept_within list ts (stepped (child (index_step i) (list ts)) (tree_at_path p))
lookup_fails_as_an_edit (key_step k ∷ p) null = refl
lookup_fails_as_an_edit (key_step k ∷ p) (boolean b) = refl
lookup_fails_as_an_edit (key_step k ∷ p) (num l) = refl
lookup_fails_as_an_edit (key_step k ∷ p) (text s) = refl
lookup_fails_as_an_edit (key_step k ∷ p) (list ts) = refl
lookup_fails_as_an_edit (index_step i ∷ p) null = refl
lookup_fails_as_an_edit (index_step i ∷ p) (boolean b) = refl
lookup_fails_as_an_edit (index_step i ∷ p) (num l) = refl
lookup_fails_as_an_edit (index_step i ∷ p) (text s) = refl
lookup_fails_as_an_edit (index_step i ∷ p) (pairs ps) = refl
