-- Operations in terms of edits, and what they undo.
use Rattle.std.proofs.Common.{◌≡◌, ◌≢◌, ℕ, zero, suc, ◌≤◌, List, [], ◌∷◌, ◌++◌, length, Bool, true, false, cond, Option, Some, None, Ok, Err, refl, sym, ap, ap₂, ◌∙◌, subst, subst₂, bytes_eq, codes, arith}
use Rattle.std.specs.Prelude.{ok_or, option_map, slice_get}
use Rattle.std.proofs.lemmas.Bool.{and_parts, and_from}
use Rattle.std.proofs.lemmas.Slice.Eq.{bytes_eq-Decides}
use Rattle.json_grammar.specs.Tree.{Tree, null, boolean, num, text, list, pairs, Trees, no_trees, tree_and, trees_list, Pairs, no_pairs, pair_and}
use Rattle.json_model.specs.Edit.{Step, key_step, index_step, set_at, remove_at, Changed, EditRefusal, not_found, within, on_pairs, on_list, at_path, inserted, pushed, without_key, has_key, without_index, removed, edited_once, and_then}
use Rattle.json_model.specs.Same.{first_value}
use Rattle.json_patch.specs.ValuesAt.{value_at_step, value_at_path}
use Rattle.json_patch.specs.Pointer.{ReferenceToken, index_of_token, step_of_token, path_of_tokens, value_at_pointer}
use Rattle.json_patch.specs.Patch.{add_at, remove, lookup_failed, split_last, insert_before, insert_at_index, with_child, added_at, removal_edit, removed_at, tokens_eq, lookup_outcome, applied}
use Rattle.json_patch.specs.Laws.{AddIsInsert, AddIsPush, RemoveIsRemove, ReplaceIsSet, CopyIsAdd, MoveIsRemoveAndAdd, MoveToItself, AddThenRemoveMember, AddThenRemoveElement, RemovesWhatExists, then_applied, FirstTokenThenRest, TokensArePath, AddAtRoot}
use Rattle.json_patch.proofs.Results.{no_ok, then_parts}
use Rattle.json_patch.proofs.ReplacedAt.{replaced_at_path, at_path-replaced, value_at_replaced, replaced_by_same, replaced_twice, change_at_path}
use Rattle.json_patch.proofs.PointerTexts.{path_leads, path_stays}

-- ---- the last token

pub split_last-append : (j : ReferenceToken) (p : List ReferenceToken) (k : ReferenceToken) → split_last j (p ++ k ∷ []) ≡ (j ∷ p, k)
split_last-append j [] k = refl
split_last-append j (m ∷ p) k = ap (λ (r : List ReferenceToken × ReferenceToken). (j ∷ r.0, r.1)) (split_last-append m p k)

pub added_at-append : (p : List ReferenceToken) (k : ReferenceToken) (u t : Tree) → added_at (p ++ k ∷ []) u t ≡ and_then (path_of_tokens p t) (λ q. at_path q (with_child k u) t)
added_at-append [] k u t = refl
added_at-append (j ∷ p) k u t = ap (λ (l : List ReferenceToken × ReferenceToken). and_then (path_of_tokens l.0 t) (λ q. at_path q (with_child l.1 u) t)) (split_last-append j p k)

pub removed_at-append : (p : List ReferenceToken) (k : ReferenceToken) (t : Tree) → removed_at (p ++ k ∷ []) t ≡ and_then (path_of_tokens p t) (λ q. and_then (removal_edit q k t) (λ e. edited_once e t))
removed_at-append [] k t = refl
removed_at-append (j ∷ p) k t = ap (λ (l : List ReferenceToken × ReferenceToken). and_then (path_of_tokens l.0 t) (λ q. and_then (removal_edit q l.1 t) (λ e. edited_once e t))) (split_last-append j p k)

-- ---- operations as edits

-- changes at a path that make the same of the value there
same_at_path : (q : List Step) (f g : Tree → Changed Tree) (t c : Tree) → value_at_path q t ≡ Ok c → f c ≡ g c → at_path q f t ≡ at_path q g t
same_at_path q f g t c h e =
    at_path-replaced q f t
    ∙ ap (λ r. and_then r (λ c. within (λ n. replaced_at_path q n t) (f c))) h
    ∙ ap (within (λ n. replaced_at_path q n t)) e
    ∙ sym (at_path-replaced q g t ∙ ap (λ r. and_then r (λ c. within (λ n. replaced_at_path q n t) (g c))) h)

pub add_is_insert : AddIsInsert
add_is_insert p k u t q ps e h =
    ap lookup_outcome (
    added_at-append p k u t
    ∙ ap (λ r. and_then r (λ q. at_path q (with_child k u) t)) e
    ∙ same_at_path q (with_child k u) (on_pairs (λ ps. Ok (inserted k u ps))) t (pairs ps) h refl
    )

pub add_is_push : AddIsPush
add_is_push p u t q ts e h =
    ap lookup_outcome (
    added_at-append p (codes "-") u t
    ∙ ap (λ r. and_then r (λ q. at_path q (with_child (codes "-") u) t)) e
    ∙ same_at_path q (with_child (codes "-") u) (on_list (λ ts. Ok (pushed u ts))) t (list ts) h refl
    )

removal_edit-ok : (q : List Step) (k : ReferenceToken) (t c : Tree) (s : Step) → value_at_path q t ≡ Ok c → step_of_token k c ≡ Ok s → removal_edit q k t ≡ Ok (remove_at q s)
removal_edit-ok q k t c s h g = ap (λ r. and_then r (λ c. within (λ s. remove_at q s) (step_of_token k c))) h ∙ ap (within (λ s. remove_at q s)) g

removed_at-ok : (p : List ReferenceToken) (k : ReferenceToken) (t : Tree) (q : List Step) (c : Tree) (s : Step) → path_of_tokens p t ≡ Ok q → value_at_path q t ≡ Ok c → step_of_token k c ≡ Ok s
    → removed_at (p ++ k ∷ []) t ≡ edited_once (remove_at q s) t
removed_at-ok p k t q c s e h g =
    removed_at-append p k t
    ∙ ap (λ r. and_then r (λ q. and_then (removal_edit q k t) (λ e. edited_once e t))) e
    ∙ ap (λ r. and_then r (λ e. edited_once e t)) (removal_edit-ok q k t c s h g)

pub remove_is_remove : RemoveIsRemove
remove_is_remove p k t q c s e h g = ap lookup_outcome (removed_at-ok p k t q c s e h g)

pub replace_is_set : ReplaceIsSet
replace_is_set p u t q e = ap lookup_outcome (ap (λ r. and_then r (λ q. edited_once (set_at q u) t)) e)

pub copy_is_add : CopyIsAdd
copy_is_add q p t u h = ap lookup_outcome (ap (λ r. and_then r (λ u. added_at p u t)) h)

-- ---- moves

tokens_itself : (p : List ReferenceToken) → tokens_eq p p ≡ true
tokens_itself [] = refl
tokens_itself (k ∷ p) = and_from (bytes_eq k k) (tokens_eq p p) ((bytes_eq-Decides k k).1 refl) (tokens_itself p)

false_true : false ≡ true → ⊥
false_true e = cc

tokens_same : (p q : List ReferenceToken) → tokens_eq p q ≡ true → p ≡ q
tokens_same [] [] h = refl
tokens_same [] (k ∷ q) h = absurd (false_true h)
tokens_same (j ∷ p) [] h = absurd (false_true h)
tokens_same (j ∷ p) (k ∷ q) h = let a = and_parts (bytes_eq j k) (tokens_eq p q) h in ap₂ (λ x y. x ∷ y) ((bytes_eq-Decides j k).0 a.0) (tokens_same p q a.1)

tokens_other : (p q : List ReferenceToken) → p ≢ q → tokens_eq p q ≡ false
tokens_other p q n = by (tokens_eq p q) refl
  where
    by : (b : Bool) → tokens_eq p q ≡ b → b ≡ false
    by true e = absurd (n (tokens_same p q e))
    by false e = refl

-- what is moved, by whether it stays where it is
abbrev moved : Bool → List ReferenceToken → List ReferenceToken → Tree → Tree → Changed Tree
moved b q p t u = elim b as (λ _. Changed Tree) [ true ↦ Ok t | false ↦ and_then (removed_at q t) (added_at p u) ]

pub move_to_itself : MoveToItself
move_to_itself p t u h = ap (λ r. lookup_outcome (and_then r (moved (tokens_eq p p) p p t))) h ∙ ap (λ b. lookup_outcome (moved b p p t u)) (tokens_itself p)

pub move_is_remove_and_add : MoveIsRemoveAndAdd
move_is_remove_and_add q p t u n h =
    ap (λ r. lookup_outcome (and_then r (moved (tokens_eq q p) q p t))) h ∙ ap (λ b. lookup_outcome (moved b q p t u)) (tokens_other q p n) ∙ by (removed_at q t)
  where
    by : (r : Changed Tree) → lookup_outcome (and_then r (added_at p u)) ≡ then_applied (lookup_outcome r) (add_at p u)
    by (Ok w) = refl
    by (Err e) = refl

-- ---- what is added is removed

added_then_removed : (p : List ReferenceToken) (k : ReferenceToken) (u t : Tree) (q : List Step) (c n : Tree) (s : Step)
    → path_of_tokens p t ≡ Ok q → value_at_path q t ≡ Ok c → with_child k u c ≡ Ok n → step_of_token k n ≡ Ok s → removed s n ≡ Ok c
    → (w : Tree) × (applied (add_at (p ++ k ∷ []) u) t ≡ Ok w) × (applied (remove (p ++ k ∷ [])) w ≡ Ok t)
added_then_removed p k u t q c n s e h a g d = (
  replaced_at_path q n t,
  ap lookup_outcome (added_at-append p k u t ∙ ap (λ r. and_then r (λ q. at_path q (with_child k u) t)) e ∙ change_at_path q (with_child k u) t c n h a),
  ap lookup_outcome (
      removed_at-ok p k (replaced_at_path q n t) q n s (path_stays p n t q e) (value_at_replaced q c n t h) g
      ∙ change_at_path q (removed s) (replaced_at_path q n t) n c (value_at_replaced q c n t h) d
      ∙ ap Ok (replaced_twice q c c n t h ∙ replaced_by_same q c t h)
      ),
)

pointed_parts : (p : List ReferenceToken) (t c : Tree) → value_at_pointer p t ≡ Ok c → (q : List Step) × (path_of_tokens p t ≡ Ok q) × (value_at_path q t ≡ Ok c)
pointed_parts p t c h = then_parts (path_of_tokens p t) (λ q. value_at_path q t) c h

key_itself : (k : List ℕ) → bytes_eq k k ≡ true
key_itself k = (bytes_eq-Decides k k).1 refl

true_false : true ≡ false → ⊥
true_false e = cc

-- an inserted key is there, and removing it removes nothing else
has_key-inserted : (k : List ℕ) (u : Tree) (ps : Pairs) → has_key k (inserted k u ps) ≡ true
has_key-inserted k u no_pairs = ap (λ b. cond b true false) (key_itself k)
has_key-inserted k u (pair_and m t ps) = by (bytes_eq m k) refl (has_key-inserted k u ps)
  where
    by : (b : Bool) → bytes_eq m k ≡ b → has_key k (inserted k u ps) ≡ true → has_key k (cond b (pair_and m u ps) (pair_and m t (inserted k u ps))) ≡ true
    by true e i = ap (λ b. cond b true (has_key k ps)) e
    by false e i = ap (λ b. cond b true (has_key k (inserted k u ps))) e ∙ i

without_inserted : (k : List ℕ) (u : Tree) (ps : Pairs) → has_key k ps ≡ false → without_key k (inserted k u ps) ≡ ps
without_inserted k u no_pairs h = ap (λ b. cond b no_pairs (pair_and k u no_pairs)) (key_itself k)
without_inserted k u (pair_and m t ps) h = by (bytes_eq m k) refl h (without_inserted k u ps)
  where
    by : (b : Bool) → bytes_eq m k ≡ b → cond b true (has_key k ps) ≡ false → (has_key k ps ≡ false → without_key k (inserted k u ps) ≡ ps)
        → without_key k (cond b (pair_and m u ps) (pair_and m t (inserted k u ps))) ≡ pair_and m t ps
    by true e h i = absurd (true_false h)
    by false e h i = ap (λ b. cond b (without_key k (inserted k u ps)) (pair_and m t (without_key k (inserted k u ps)))) e ∙ ap (λ qs. pair_and m t qs) (i h)

pub add_then_remove_member : AddThenRemoveMember
add_then_remove_member p k u t ps h f =
    let a = pointed_parts p t (pairs ps) h in
    added_then_removed p k u t a.0 (pairs ps) (pairs (inserted k u ps)) (key_step k) a.1 a.2 refl refl (
    ap (λ b. within pairs (cond b (Ok (without_key k (inserted k u ps))) (Err not_found))) (has_key-inserted k u ps) ∙ ap (λ qs. Ok (pairs qs)) (without_inserted k u ps f)
    )

none_some : {A : Type 0} (x : A) → None ≡ Some x → ⊥
none_some x e = cc

-- an index is not `-`
pub no_dash : (k : ReferenceToken) (i : ℕ) → index_of_token k ≡ Some i → bytes_eq k (codes "-") ≡ false
no_dash k i h = by (bytes_eq k (codes "-")) refl
  where
    by : (b : Bool) → bytes_eq k (codes "-") ≡ b → b ≡ false
    by true e = absurd (none_some i (ap index_of_token (sym ((bytes_eq-Decides k (codes "-")).0 e)) ∙ h))
    by false e = refl

insert_before-without : (i : ℕ) (u : Tree) (ts : Trees) → i ≤ length (trees_list ts) → (us : Trees) × (insert_before i u ts ≡ Ok us) × (without_index i us ≡ Ok ts)
insert_before-without zero u no_trees l = (tree_and u no_trees, refl, refl)
insert_before-without zero u (tree_and t ts) l = (tree_and u (tree_and t ts), refl, refl)
insert_before-without (suc i) u no_trees l = absurd (omega arith)
insert_before-without (suc i) u (tree_and t ts) l =
    let a = insert_before-without i u ts (omega arith) in
    (tree_and t a.0, ap (within (λ us. tree_and t us)) a.1, ap (within (λ us. tree_and t us)) a.2)

pub add_then_remove_element : AddThenRemoveElement
add_then_remove_element p k u t ts i h f l =
    let a = pointed_parts p t (list ts) h in
    let b = insert_before-without i u ts l in
    added_then_removed p k u t a.0 (list ts) (list b.0) (index_step i) a.1 a.2
    (
    ap (λ d. within list (cond d (Ok (pushed u ts)) (insert_at_index (index_of_token k) u ts))) (no_dash k i f)
    ∙ ap (λ o. within list (insert_at_index o u ts)) f
    ∙ ap (within list) b.1
    )
    (ap (λ o. ok_or (option_map index_step o) not_found) f) (ap (within list) b.2)

-- ---- what a removal needs

-- tokens that are not empty: those before the last, and the last
last_view : (k : ReferenceToken) (p : List ReferenceToken) → (r : List ReferenceToken) × (j : ReferenceToken) × (k ∷ p ≡ r ++ j ∷ [])
last_view k [] = ([], k, refl)
last_view k (m ∷ p) = let a = last_view m p in (k ∷ a.0, a.1, ap (λ q. k ∷ q) a.2)

-- tokens before others reference the value from which the others go on
pub value_at_pointer-step : (k : ReferenceToken) (p : List ReferenceToken) (t : Tree) → value_at_pointer (k ∷ p) t ≡ and_then (step_of_token k t) (λ s. and_then (value_at_step s t) (λ u. value_at_pointer p u))
value_at_pointer-step k p t = by (step_of_token k t)
  where
    three : (s : Step) (u : Tree) → value_at_step s t ≡ Ok u → (r : Changed (List Step)) → and_then (within (λ q. s ∷ q) r) (λ q. value_at_path q t) ≡ and_then r (λ q. value_at_path q u)
    three s u e (Ok q) = ap (λ r. and_then r (value_at_path q)) e
    three s u e (Err f) = refl

    two : (s : Step) (r : Changed Tree) → value_at_step s t ≡ r → and_then (and_then r (λ u. within (λ q. s ∷ q) (path_of_tokens p u))) (λ q. value_at_path q t) ≡ and_then r (λ u. value_at_pointer p u)
    two s (Ok u) e = three s u e (path_of_tokens p u)
    two s (Err f) e = refl

    by : (r : Changed Step) → and_then (and_then r (λ s. and_then (value_at_step s t) (λ u. within (λ q. s ∷ q) (path_of_tokens p u)))) (λ q. value_at_path q t) ≡ and_then r (λ s. and_then (value_at_step s t) (λ u. value_at_pointer p u))
    by (Ok s) = two s (value_at_step s t) refl
    by (Err f) = refl

then_ok : (r : Changed Tree) → and_then r (λ u. Ok u) ≡ r
then_ok (Ok u) = refl
then_ok (Err f) = refl

-- the tree that tokens reference, by the last of them
value_at_pointer-last : (p : List ReferenceToken) (k : ReferenceToken) (t : Tree) → value_at_pointer (p ++ k ∷ []) t ≡ and_then (value_at_pointer p t) (λ c. and_then (step_of_token k c) (λ s. value_at_step s c))
value_at_pointer-last [] k t = value_at_pointer-step k [] t ∙ by (step_of_token k t)
  where
    by : (r : Changed Step) → and_then r (λ s. and_then (value_at_step s t) (λ u. Ok u)) ≡ and_then r (λ s. value_at_step s t)
    by (Ok s) = then_ok (value_at_step s t)
    by (Err f) = refl
value_at_pointer-last (j ∷ p) k t = value_at_pointer-step j (p ++ k ∷ []) t ∙ one (step_of_token j t) (λ c. value_at_pointer-last p k c) ∙ ap (λ r. and_then r (λ c. and_then (step_of_token k c) (λ s. value_at_step s c))) (sym (value_at_pointer-step j p t))
  where
    two : (r : Changed Tree) → ((c : Tree) → value_at_pointer (p ++ k ∷ []) c ≡ and_then (value_at_pointer p c) (λ c. and_then (step_of_token k c) (λ s. value_at_step s c)))
        → and_then r (λ u. value_at_pointer (p ++ k ∷ []) u) ≡ and_then (and_then r (λ u. value_at_pointer p u)) (λ c. and_then (step_of_token k c) (λ s. value_at_step s c))
    two (Ok c) h = h c
    two (Err f) h = refl

    one : (r : Changed Step) → ((c : Tree) → value_at_pointer (p ++ k ∷ []) c ≡ and_then (value_at_pointer p c) (λ c. and_then (step_of_token k c) (λ s. value_at_step s c)))
        → and_then r (λ s. and_then (value_at_step s t) (λ u. value_at_pointer (p ++ k ∷ []) u)) ≡ and_then (and_then r (λ s. and_then (value_at_step s t) (λ u. value_at_pointer p u))) (λ c. and_then (step_of_token k c) (λ s. value_at_step s c))
    one (Ok s) h = two (value_at_step s t) h
    one (Err f) h = refl

-- a key has a first value if some member has it
key_absent : (k : List ℕ) (ps : Pairs) → first_value k ps ≡ None → has_key k ps ≡ false
key_absent k no_pairs h = refl
key_absent k (pair_and m t ps) h = by (bytes_eq m k) h (key_absent k ps)
  where
    by : (b : Bool) → cond b (Some t) (first_value k ps) ≡ None → (first_value k ps ≡ None → has_key k ps ≡ false) → cond b true (has_key k ps) ≡ false
    by true h i = absurd (none_some t (sym h))
    by false h i = i h

key_present : (k : List ℕ) (ps : Pairs) (c : Tree) → first_value k ps ≡ Some c → has_key k ps ≡ true
key_present k no_pairs c h = absurd (none_some c h)
key_present k (pair_and m t ps) c h = by (bytes_eq m k) h (key_present k ps c)
  where
    by : (b : Bool) → cond b (Some t) (first_value k ps) ≡ Some c → (first_value k ps ≡ Some c → has_key k ps ≡ true) → cond b true (has_key k ps) ≡ true
    by true h i = refl
    by false h i = i h

-- a member or element is removed if it exists, and else both fail alike
abbrev Alike : Changed Tree → Changed Tree → Type 0
Alike (Ok c) r = (w : Tree) × (r ≡ Ok w)
Alike (Err e) r = r ≡ Err e

removed_key : (k : List ℕ) (ps : Pairs) → Alike (ok_or (first_value k ps) not_found) (within pairs (cond (has_key k ps) (Ok (without_key k ps)) (Err not_found)))
removed_key k ps = by (first_value k ps) refl
  where
    by : (o : Option Tree) → first_value k ps ≡ o → Alike (ok_or o not_found) (within pairs (cond (has_key k ps) (Ok (without_key k ps)) (Err not_found)))
    by None e = ap (λ b. within pairs (cond b (Ok (without_key k ps)) (Err not_found))) (key_absent k ps e)
    by (Some c) e = (pairs (without_key k ps), ap (λ b. within pairs (cond b (Ok (without_key k ps)) (Err not_found))) (key_present k ps c e))

removed_index : (i : ℕ) (ts : Trees) → Alike (ok_or (slice_get (trees_list ts) i) not_found) (within list (without_index i ts))
removed_index i no_trees = refl
removed_index zero (tree_and t ts) = (list ts, refl)
removed_index (suc i) (tree_and t ts) = by (slice_get (trees_list ts) i) (without_index i ts) (removed_index i ts)
  where
    by : (o : Option Tree) (r : Changed Trees) → Alike (ok_or o not_found) (within list r) → Alike (ok_or o not_found) (within list (within (λ us. tree_and t us) r))
    by None (Ok us) h = absurd (no_ok (list us) not_found (sym h))
    by None (Err e) h = h
    by (Some c) (Ok us) h = (list (tree_and t us), refl)
    by (Some c) (Err e) h = absurd (no_ok h.0 e h.1)

removed_alike : (s : Step) (c : Tree) → Alike (value_at_step s c) (removed s c)
removed_alike (key_step k) (pairs ps) = removed_key k ps
removed_alike (key_step k) null = refl
removed_alike (key_step k) (boolean b) = refl
removed_alike (key_step k) (num l) = refl
removed_alike (key_step k) (text s) = refl
removed_alike (key_step k) (list ts) = refl
removed_alike (index_step i) (list ts) = removed_index i ts
removed_alike (index_step i) null = refl
removed_alike (index_step i) (boolean b) = refl
removed_alike (index_step i) (num l) = refl
removed_alike (index_step i) (text s) = refl
removed_alike (index_step i) (pairs ps) = refl

-- what is removed, in one line
removed_at-remove : (p : List ReferenceToken) (k : ReferenceToken) (t : Tree) (q : List Step) (c : Tree) → path_of_tokens p t ≡ Ok q → value_at_path q t ≡ Ok c
    → removed_at (p ++ k ∷ []) t ≡ and_then (step_of_token k c) (λ s. within (λ n. replaced_at_path q n t) (removed s c))
removed_at-remove p k t q c e h =
    removed_at-append p k t
    ∙ ap (λ r. and_then r (λ q. and_then (removal_edit q k t) (λ e. edited_once e t))) e
    ∙ ap (λ r. and_then (and_then r (λ c. within (λ s. remove_at q s) (step_of_token k c))) (λ e. edited_once e t)) h
    ∙ by (step_of_token k c)
  where
    by : (r : Changed Step) → and_then (within (λ s. remove_at q s) r) (λ e. edited_once e t) ≡ and_then r (λ s. within (λ n. replaced_at_path q n t) (removed s c))
    by (Ok s) = at_path-replaced q (removed s) t ∙ ap (λ r. and_then r (λ c. within (λ n. replaced_at_path q n t) (removed s c))) h
    by (Err f) = refl

removed_alike_last : (p : List ReferenceToken) (k : ReferenceToken) (t : Tree) → Alike (value_at_pointer (p ++ k ∷ []) t) (removed_at (p ++ k ∷ []) t)
removed_alike_last p k t = by (path_of_tokens p t) refl
  where
    three : (q : List Step) (s : Step) (c : Tree) (r d : Changed Tree) → Alike r d → Alike r (within (λ n. replaced_at_path q n t) d)
    three q s c (Ok u) d h = (replaced_at_path q h.0 t, ap (within (λ n. replaced_at_path q n t)) h.1)
    three q s c (Err e) d h = ap (within (λ n. replaced_at_path q n t)) h

    two : (q : List Step) (c : Tree) (r : Changed Step) → Alike (and_then r (λ s. value_at_step s c)) (and_then r (λ s. within (λ n. replaced_at_path q n t) (removed s c)))
    two q c (Ok s) = three q s c (value_at_step s c) (removed s c) (removed_alike s c)
    two q c (Err f) = refl

    by : (r : Changed (List Step)) → path_of_tokens p t ≡ r → Alike (value_at_pointer (p ++ k ∷ []) t) (removed_at (p ++ k ∷ []) t)
    by (Ok q) e =
        let a = path_leads p t q e in
        subst₂ Alike
        (sym (value_at_pointer-last p k t ∙ ap (λ r. and_then r (λ c. and_then (step_of_token k c) (λ s. value_at_step s c))) (ap (λ r. and_then r (λ q. value_at_path q t)) e ∙ a.1)))
        (sym (removed_at-remove p k t q a.0 e a.1))
        (two q a.0 (step_of_token k a.0))
    by (Err f) e =
        subst₂ Alike
        (sym (value_at_pointer-last p k t ∙ ap (λ r. and_then (and_then r (λ q. value_at_path q t)) (λ c. and_then (step_of_token k c) (λ s. value_at_step s c))) e))
        (sym (removed_at-append p k t ∙ ap (λ r. and_then r (λ q. and_then (removal_edit q k t) (λ e. edited_once e t))) e))
        refl

pub removed_alike_all : (k : ReferenceToken) (p : List ReferenceToken) (t : Tree) → Alike (value_at_pointer (k ∷ p) t) (removed_at (k ∷ p) t)
removed_alike_all k p t = let a = last_view k p in subst (λ q. Alike (value_at_pointer q t) (removed_at q t)) (sym a.2) (removed_alike_last a.0 a.1 t)

pub removes_what_exists : RemovesWhatExists
removes_what_exists k p t = (or_not_found, missed)
  where
    or_not_found : (u : Tree) → value_at_pointer (k ∷ p) t ≡ Ok u → (w : Tree) × (applied (remove (k ∷ p)) t ≡ Ok w)
    or_not_found u h = let a = subst (λ r. Alike r (removed_at (k ∷ p) t)) h (removed_alike_all k p t) in (a.0, ap lookup_outcome a.1)

    missed : (r : EditRefusal) → value_at_pointer (k ∷ p) t ≡ Err r → applied (remove (k ∷ p)) t ≡ Err (lookup_failed r)
    missed r h = ap lookup_outcome (subst (λ s. Alike s (removed_at (k ∷ p) t)) h (removed_alike_all k p t))

-- ---- what tokens reference

pub first_token_then_rest : FirstTokenThenRest
first_token_then_rest k p t = value_at_pointer-step k p t

pub add_at_root : AddAtRoot
add_at_root u t = refl

ok_err : (c : Tree) (r : EditRefusal) → ◌≡◌ {A = Changed Tree} (Ok c) (Err r) → ⊥
ok_err c r e = cc

err_err : (e r : EditRefusal) → ◌≡◌ {A = Changed Tree} (Err e) (Err r) → e ≡ r
err_err e r h = cc

pub tokens_are_path : TokensArePath
tokens_are_path p t = (λ c h. pointed_parts p t c h, λ r h. missed r (path_of_tokens p t) refl h)
  where
    missed : (r : EditRefusal) (q : Changed (List Step)) → path_of_tokens p t ≡ q → and_then q (λ q. value_at_path q t) ≡ Err r → q ≡ Err r
    missed r (Ok q) e h = let a = path_leads p t q e in absurd (ok_err a.0 r (sym a.1 ∙ h))
    missed r (Err f) e h = ap Err (err_err f r h)
