-- The change of an edit undoes it, and has an edit that redoes it.
use Rattle.std.proofs.Common.{◌≡◌, ℕ, zero, suc, List, [], ◌∷◌, ◌++◌, Bool, true, false, cond, Option, Some, None, Result, Ok, Err, refl, sym, ap, ◌∙◌, bytes_eq, ◌⊎◌, inl, inr}
use Rattle.std.specs.Prelude.{ok_or, slice_get}
use Rattle.std.proofs.lemmas.Slice.Eq.{bytes_eq-Decides}
use Rattle.json_grammar.specs.Tree.{Tree, null, boolean, num, text, list, pairs, Trees, no_trees, tree_and, trees_list, Pairs, no_pairs, pair_and}
use Rattle.json_model.specs.Edit.{Step, key_step, index_step, Edit, set_at, insert_at, push_at, remove_at, Changed, EditRefusal, not_found, type_unmatched, within, at_key, on_pairs, on_list, at_path, inserted, pushed, without_key, has_key, without_index, edited_once, edited, and_then}
use Rattle.json_model.specs.Same.{first_value}
use Rattle.json_history.specs.Lookup.{lookup_step, lookup}
use Rattle.json_history.specs.Change.{insert_element_at}
use Rattle.json_history.specs.Change.{TreeChange, put, drop_last, put_back, put_pairs, members_named, members_if_object, elements_if_array, insert_change, change, without_last_member, without_last_element, without_last, insert_member_at, insert_members, undone, last_member, last_element, edit_of_last, edit_of_removal, redo_edit}
use Rattle.json_history.proofs.ChangedResults.{ok_injective, err_not_ok, within_ok_parts}
use Rattle.json_history.proofs.LookupChanges.{PathChange, path_change, lookup_changed, at_path_again, at_path_back, lookup_append, at_path_append, at_path_lookup, replaced}

-- ---- changes of an object and of an array

pub on_pairs_ok : (f : Pairs → Changed Pairs) (t u : Tree) → on_pairs f t ≡ Ok u → (ps : Pairs) × (qs : Pairs) × (t ≡ pairs ps) × (f ps ≡ Ok qs) × (u ≡ pairs qs)
on_pairs_ok f (pairs ps) u h = let a = within_ok_parts (f ps) pairs u h in (ps, a.0, refl, a.1, sym a.2)
on_pairs_ok f null u h = absurd (err_not_ok u type_unmatched h)
on_pairs_ok f (boolean b) u h = absurd (err_not_ok u type_unmatched h)
on_pairs_ok f (num l) u h = absurd (err_not_ok u type_unmatched h)
on_pairs_ok f (text s) u h = absurd (err_not_ok u type_unmatched h)
on_pairs_ok f (list ts) u h = absurd (err_not_ok u type_unmatched h)

pub on_list_ok : (f : Trees → Changed Trees) (t u : Tree) → on_list f t ≡ Ok u → (ts : Trees) × (us : Trees) × (t ≡ list ts) × (f ts ≡ Ok us) × (u ≡ list us)
on_list_ok f (list ts) u h = let a = within_ok_parts (f ts) list u h in (ts, a.0, refl, a.1, sym a.2)
on_list_ok f null u h = absurd (err_not_ok u type_unmatched h)
on_list_ok f (boolean b) u h = absurd (err_not_ok u type_unmatched h)
on_list_ok f (num l) u h = absurd (err_not_ok u type_unmatched h)
on_list_ok f (text s) u h = absurd (err_not_ok u type_unmatched h)
on_list_ok f (pairs ps) u h = absurd (err_not_ok u type_unmatched h)

-- ---- an insertion of a new key

some_none : (x : Tree) → Some x ≡ None → ⊥
some_none x e = cc

without_last_member_cons : (m : List ℕ) (t : Tree) (ps qs : Pairs) → without_last_member ps ≡ Ok qs → without_last_member (pair_and m t ps) ≡ Ok (pair_and m t qs)
without_last_member_cons m t no_pairs qs h = absurd (err_not_ok qs not_found h)
without_last_member_cons m t (pair_and k u ps) qs h = ap (within (λ rs. pair_and m t rs)) h

without_last_member_inserted : (k : List ℕ) (u : Tree) (ps : Pairs) → first_value k ps ≡ None → without_last_member (inserted k u ps) ≡ Ok ps
without_last_member_inserted k u no_pairs h = refl
without_last_member_inserted k u (pair_and m t ps) h = by (bytes_eq m k) h (without_last_member_inserted k u ps)
  where
    by : (b : Bool) → cond b (Some t) (first_value k ps) ≡ None → (first_value k ps ≡ None → without_last_member (inserted k u ps) ≡ Ok ps)
        → without_last_member (cond b (pair_and m u ps) (pair_and m t (inserted k u ps))) ≡ Ok (pair_and m t ps)
    by true h i = absurd (some_none t h)
    by false h i = without_last_member_cons m t (inserted k u ps) ps (i h)

last_member_cons : (m : List ℕ) (t : Tree) (ps : Pairs) (e : List ℕ × Tree) → last_member ps ≡ Ok e → last_member (pair_and m t ps) ≡ Ok e
last_member_cons m t no_pairs e h = absurd (err_not_ok e not_found h)
last_member_cons m t (pair_and k u ps) e h = h

last_member_inserted : (k : List ℕ) (u : Tree) (ps : Pairs) → first_value k ps ≡ None → last_member (inserted k u ps) ≡ Ok (k, u)
last_member_inserted k u no_pairs h = refl
last_member_inserted k u (pair_and m t ps) h = by (bytes_eq m k) h (last_member_inserted k u ps)
  where
    by : (b : Bool) → cond b (Some t) (first_value k ps) ≡ None → (first_value k ps ≡ None → last_member (inserted k u ps) ≡ Ok (k, u))
        → last_member (cond b (pair_and m u ps) (pair_and m t (inserted k u ps))) ≡ Ok (k, u)
    by true h i = absurd (some_none t h)
    by false h i = last_member_cons m t (inserted k u ps) (k, u) (i h)

-- ---- an insertion of a key that is there

none_some : (x : Tree) → None ≡ Some x → ⊥
none_some x e = cc

some_same : (x y : Tree) → Some x ≡ Some y → x ≡ y
some_same x y e = cc

at_key_inserted : (k : List ℕ) (w u : Tree) (ps : Pairs) → first_value k ps ≡ Some w → at_key k (λ _. Ok w) (inserted k u ps) ≡ Ok ps
at_key_inserted k w u no_pairs h = absurd (none_some w h)
at_key_inserted k w u (pair_and m t ps) h = by (bytes_eq m k) refl h (at_key_inserted k w u ps)
  where
    by : (b : Bool) → bytes_eq m k ≡ b → cond b (Some t) (first_value k ps) ≡ Some w → (first_value k ps ≡ Some w → at_key k (λ _. Ok w) (inserted k u ps) ≡ Ok ps)
        → at_key k (λ _. Ok w) (cond b (pair_and m u ps) (pair_and m t (inserted k u ps))) ≡ Ok (pair_and m t ps)
    by true e h i = ap (λ b. cond b (Ok (pair_and m w ps)) (within (λ qs. pair_and m u qs) (at_key k (λ _. Ok w) ps))) e ∙ ap (λ x. Ok (pair_and m x ps)) (sym (some_same t w h))
    by false e h i = ap (λ b. cond b (Ok (pair_and m w (inserted k u ps))) (within (λ qs. pair_and m t qs) (at_key k (λ _. Ok w) (inserted k u ps)))) e ∙ ap (within (λ qs. pair_and m t qs)) (i h)

inserted_at_key : (k : List ℕ) (w u : Tree) (ps : Pairs) → first_value k ps ≡ Some w → at_key k (λ _. Ok u) ps ≡ Ok (inserted k u ps)
inserted_at_key k w u no_pairs h = absurd (none_some w h)
inserted_at_key k w u (pair_and m t ps) h = by (bytes_eq m k) h (inserted_at_key k w u ps)
  where
    by : (b : Bool) → cond b (Some t) (first_value k ps) ≡ Some w → (first_value k ps ≡ Some w → at_key k (λ _. Ok u) ps ≡ Ok (inserted k u ps))
        → cond b (Ok (pair_and m u ps)) (within (λ qs. pair_and m t qs) (at_key k (λ _. Ok u) ps)) ≡ Ok (cond b (pair_and m u ps) (pair_and m t (inserted k u ps)))
    by true h i = refl
    by false h i = ap (within (λ qs. pair_and m t qs)) (i h)

first_value_inserted : (k : List ℕ) (u : Tree) (ps : Pairs) → first_value k (inserted k u ps) ≡ Some u
first_value_inserted k u no_pairs = ap (λ b. cond b (Some u) None) ((bytes_eq-Decides k k).1 refl)
first_value_inserted k u (pair_and m t ps) = by (bytes_eq m k) refl (first_value_inserted k u ps)
  where
    by : (b : Bool) → bytes_eq m k ≡ b → first_value k (inserted k u ps) ≡ Some u → first_value k (cond b (pair_and m u ps) (pair_and m t (inserted k u ps))) ≡ Some u
    by true e i = ap (λ b. cond b (Some u) (first_value k ps)) e
    by false e i = ap (λ b. cond b (Some t) (first_value k (inserted k u ps))) e ∙ i

-- ---- a push

without_last_element_cons : (t : Tree) (ts us : Trees) → without_last_element ts ≡ Ok us → without_last_element (tree_and t ts) ≡ Ok (tree_and t us)
without_last_element_cons t no_trees us h = absurd (err_not_ok us not_found h)
without_last_element_cons t (tree_and u ts) us h = ap (within (λ vs. tree_and t vs)) h

without_last_element_pushed : (u : Tree) (ts : Trees) → without_last_element (pushed u ts) ≡ Ok ts
without_last_element_pushed u no_trees = refl
without_last_element_pushed u (tree_and t ts) = without_last_element_cons t (pushed u ts) ts (without_last_element_pushed u ts)

last_element_cons : (t : Tree) (ts : Trees) (u : Tree) → last_element ts ≡ Ok u → last_element (tree_and t ts) ≡ Ok u
last_element_cons t no_trees u h = absurd (err_not_ok u not_found h)
last_element_cons t (tree_and v ts) u h = h

last_element_pushed : (u : Tree) (ts : Trees) → last_element (pushed u ts) ≡ Ok u
last_element_pushed u no_trees = refl
last_element_pushed u (tree_and t ts) = last_element_cons t (pushed u ts) u (last_element_pushed u ts)

-- ---- a removal

element_put_back : (i : ℕ) (ts us : Trees) → without_index i ts ≡ Ok us → (w : Tree) × (slice_get (trees_list ts) i ≡ Some w) × (insert_element_at i w us ≡ Ok ts)
element_put_back i no_trees us h = absurd (err_not_ok us not_found h)
element_put_back zero (tree_and t ts) us h = (t, refl, ap (λ x. Ok (tree_and t x)) (sym (ok_injective ts us h)))
element_put_back (suc i) (tree_and t ts) us h =
    let a = within_ok_parts (without_index i ts) (λ vs. tree_and t vs) us h in
    let b = element_put_back i ts a.0 a.1 in
    (b.0, b.1, ap (insert_element_at (suc i) b.0) (sym a.2) ∙ ap (within (λ vs. tree_and t vs)) b.2)

-- members after another one
abbrev InsertsBelow : ℕ → List ℕ → Pairs → List ℕ → Tree → Type 0
InsertsBelow n k ps m t = (x : Pairs) → insert_members (members_named (suc n) k ps) (pair_and m t x) ≡ within (λ rs. pair_and m t rs) (insert_members (members_named n k ps) x)

inserts_below : (n : ℕ) (k : List ℕ) (ps : Pairs) (m : List ℕ) (t : Tree) (qs : Pairs)
    → insert_members (members_named (suc n) k ps) (pair_and m t qs) ≡ within (λ rs. pair_and m t rs) (insert_members (members_named n k ps) qs)
inserts_below n k no_pairs m t qs = refl
inserts_below n k (pair_and a u ps) m t qs = by (bytes_eq a k) (λ x. inserts_below (suc n) k ps m t x)
  where
    one : InsertsBelow (suc n) k ps m t → (r : Changed Pairs) → and_then (within (λ rs. pair_and m t rs) r) (insert_members (members_named (suc (suc n)) k ps)) ≡ within (λ rs. pair_and m t rs) (and_then r (insert_members (members_named (suc n) k ps)))
    one h (Ok x) = h x
    one h (Err e) = refl

    by : (b : Bool) → InsertsBelow (suc n) k ps m t → insert_members (cond b ((suc n, a, u) ∷ members_named (suc (suc n)) k ps) (members_named (suc (suc n)) k ps)) (pair_and m t qs)
        ≡ within (λ rs. pair_and m t rs) (insert_members (cond b ((n, a, u) ∷ members_named (suc n) k ps) (members_named (suc n) k ps)) qs)
    by true h = one h (insert_member_at n a u qs)
    by false h = h qs

members_put_back : (k : List ℕ) (ps : Pairs) → insert_members (members_named 0 k ps) (without_key k ps) ≡ Ok ps
members_put_back k no_pairs = refl
members_put_back k (pair_and a u ps) = by (bytes_eq a k) (inserts_below 0 k ps a u (without_key k ps) ∙ ap (within (λ rs. pair_and a u rs)) (members_put_back k ps))
  where
    by : (b : Bool) → insert_members (members_named 1 k ps) (pair_and a u (without_key k ps)) ≡ Ok (pair_and a u ps) → insert_members (cond b ((0, a, u) ∷ members_named 1 k ps) (members_named 1 k ps)) (cond b (without_key k ps) (pair_and a u (without_key k ps))) ≡ Ok (pair_and a u ps)
    by true h = h
    by false h = h

-- the members that were removed have the key
false_not_true : false ≡ true → ⊥
false_not_true e = cc

edit_of_removal_named : (n : ℕ) (k : List ℕ) (ps : Pairs) (p : List Step) → has_key k ps ≡ true → edit_of_removal p (members_named n k ps) ≡ Ok (remove_at p (key_step k))
edit_of_removal_named n k no_pairs p h = absurd (false_not_true h)
edit_of_removal_named n k (pair_and a u ps) p h = by (bytes_eq a k) refl h (edit_of_removal_named (suc n) k ps p)
  where
    by : (b : Bool) → bytes_eq a k ≡ b → cond b true (has_key k ps) ≡ true → (has_key k ps ≡ true → edit_of_removal p (members_named (suc n) k ps) ≡ Ok (remove_at p (key_step k)))
        → edit_of_removal p (cond b ((n, a, u) ∷ members_named (suc n) k ps) (members_named (suc n) k ps)) ≡ Ok (remove_at p (key_step k))
    by true e h i = ap (λ x. Ok (remove_at p (key_step x))) ((bytes_eq-Decides a k).0 e)
    by false e h i = i h

has_key_ok : (k : List ℕ) (ps qs : Pairs) → cond (has_key k ps) (Ok (without_key k ps)) (Err not_found) ≡ Ok qs → (has_key k ps ≡ true) × (without_key k ps ≡ qs)
has_key_ok k ps qs h = by (has_key k ps) h
  where
    by : (b : Bool) → cond b (Ok (without_key k ps)) (Err not_found) ≡ Ok qs → (b ≡ true) × (without_key k ps ≡ qs)
    by true h = (refl, ok_injective (without_key k ps) qs h)
    by false h = absurd (err_not_ok qs not_found h)

-- ---- an edit

-- the change of an edit e that makes u of t: it undoes the edit, and an edit redoes it
pub record UndoneBy (t u : Tree) (e : Edit) : Type 0 where
  pub tree_change : TreeChange
  pub told_so : change t e ≡ Ok tree_change
  pub puts_back : undone u tree_change ≡ Ok t
  pub anew : Edit
  pub anew_so : redo_edit u tree_change ≡ Ok anew
  pub gives : edited_once anew t ≡ Ok u
  pub changes : change t anew ≡ Ok tree_change

pub edit_undone_by : (t u : Tree) (e : Edit) → edited_once e t ≡ Ok u → UndoneBy t u e
edit_undone_by t u (set_at p v) h =
    let s = path_change p (λ _. Ok v) t u h in
    let c : change t (set_at p v) ≡ Ok (put p s.old) = ap (within (λ old. put p old)) s.stood in
    record {
      tree_change = put p s.old;
      told_so = c;
      puts_back = at_path_back p (λ _. Ok v) (λ _. Ok s.old) t u s refl;
      anew = set_at p v;
      anew_so = ap (within (λ x. set_at p x)) (lookup_changed p (λ _. Ok v) t u s ∙ sym s.made);
      gives = h;
      changes = c;
    }
edit_undone_by t u (insert_at p k v) h = by (first_value k a.0) refl
  where
    f : Tree → Changed Tree
    f = on_pairs (λ ps. Ok (inserted k v ps))

    s : PathChange p f t u
    s = path_change p f t u h

    a : (ps : Pairs) × (qs : Pairs) × (s.old ≡ pairs ps) × (◌≡◌ {A = Changed Pairs} (Ok (inserted k v ps)) (Ok qs)) × (s.new ≡ pairs qs)
    a = on_pairs_ok (λ ps. Ok (inserted k v ps)) s.old s.new s.made

    old_is : lookup p t ≡ Ok (pairs a.0)
    old_is = s.stood ∙ ap Ok a.2

    new_is : s.new ≡ pairs (inserted k v a.0)
    new_is = a.4 ∙ ap pairs (sym (ok_injective (inserted k v a.0) a.1 a.3))

    stands_now : lookup p u ≡ Ok (pairs (inserted k v a.0))
    stands_now = lookup_changed p f t u s ∙ ap Ok new_is

    told_is : change t (insert_at p k v) ≡ Ok (insert_change p k (first_value k a.0))
    told_is = ap (λ r. and_then r (λ c. within (λ ps. insert_change p k (first_value k ps)) (members_if_object c))) old_is

    by : (o : Option Tree) → first_value k a.0 ≡ o → UndoneBy t u (insert_at p k v)
    by None e =
        record {
          tree_change = drop_last p;
          told_so = told_is ∙ ap (λ o. Ok (insert_change p k o)) e;
          puts_back = at_path_back p f without_last t u s (ap without_last new_is ∙ ap (within pairs) (without_last_member_inserted k v a.0 e) ∙ ap Ok (sym a.2));
          anew = insert_at p k v;
          anew_so = ap (λ r. and_then r (edit_of_last p)) stands_now ∙ ap (within (λ e. insert_at p e.0 e.1)) (last_member_inserted k v a.0 e);
          gives = h;
          changes = told_is ∙ ap (λ o. Ok (insert_change p k o)) e;
        }
    by (Some w) e =
        let q = key_step k ∷ [] in
        record {
          tree_change = put (p ++ q) w;
          told_so = told_is ∙ ap (λ o. Ok (insert_change p k o)) e;
          puts_back = at_path_append p q (λ _. Ok w) u ∙ at_path_back p f (at_path q (λ _. Ok w)) t u s (ap (at_path q (λ _. Ok w)) new_is ∙ ap (within pairs) (at_key_inserted k w v a.0 e) ∙ ap Ok (sym a.2));
          anew = set_at (p ++ q) v;
          anew_so =
              ap (within (λ x. set_at (p ++ q) x)) (lookup_append p q u ∙ ap (λ r. and_then r (lookup q)) stands_now ∙ ap (λ o. and_then (ok_or o not_found) (λ x. Ok x)) (first_value_inserted k v a.0));
          gives =
              at_path_append p q (λ _. Ok v) t
              ∙ at_path_again p f (at_path q (λ _. Ok v)) t u s (ap (at_path q (λ _. Ok v)) a.2 ∙ ap (within pairs) (inserted_at_key k w v a.0 e) ∙ ap Ok (sym new_is));
          changes = ap (within (λ x. put (p ++ q) x)) (lookup_append p q t ∙ ap (λ r. and_then r (lookup q)) old_is ∙ ap (λ o. and_then (ok_or o not_found) (λ x. Ok x)) e);
        }
edit_undone_by t u (push_at p v) h =
    let f : Tree → Changed Tree = on_list (λ ts. Ok (pushed v ts)) in
    let s = path_change p f t u h in
    let a = on_list_ok (λ ts. Ok (pushed v ts)) s.old s.new s.made in
    let new_is : s.new ≡ list (pushed v a.0) = a.4 ∙ ap list (sym (ok_injective (pushed v a.0) a.1 a.3)) in
    let c : change t (push_at p v) ≡ Ok (drop_last p) = ap (λ r. and_then r (λ c. within (λ ts. drop_last p) (elements_if_array c))) (s.stood ∙ ap Ok a.2) in
    record {
      tree_change = drop_last p;
      told_so = c;
      puts_back = at_path_back p f without_last t u s (ap without_last new_is ∙ ap (within list) (without_last_element_pushed v a.0) ∙ ap Ok (sym a.2));
      anew = push_at p v;
      anew_so = ap (λ r. and_then r (edit_of_last p)) (lookup_changed p f t u s ∙ ap Ok new_is) ∙ ap (within (λ x. push_at p x)) (last_element_pushed v a.0);
      gives = h;
      changes = c;
    }
edit_undone_by t u (remove_at p (index_step i)) h =
    let f : Tree → Changed Tree = on_list (without_index i) in
    let s = path_change p f t u h in
    let a = on_list_ok (without_index i) s.old s.new s.made in
    let b = element_put_back i a.0 a.1 a.3 in
    let q = index_step i ∷ [] in
    let c : change t (remove_at p (index_step i)) ≡ Ok (put_back p i b.0) =
    ap (within (λ x. put_back p i x)) (lookup_append p q t ∙ ap (λ r. and_then r (lookup q)) (s.stood ∙ ap Ok a.2) ∙ ap (λ o. and_then (ok_or o not_found) (λ x. Ok x)) b.1) in
    record {
      tree_change = put_back p i b.0;
      told_so = c;
      puts_back = at_path_back p f (on_list (insert_element_at i b.0)) t u s (ap (on_list (insert_element_at i b.0)) a.4 ∙ ap (within list) b.2 ∙ ap Ok (sym a.2));
      anew = remove_at p (index_step i);
      anew_so = refl;
      gives = h;
      changes = c;
    }
edit_undone_by t u (remove_at p (key_step k)) h =
    let f : Tree → Changed Tree = on_pairs (λ ps. cond (has_key k ps) (Ok (without_key k ps)) (Err not_found)) in
    let s = path_change p f t u h in
    let a = on_pairs_ok (λ ps. cond (has_key k ps) (Ok (without_key k ps)) (Err not_found)) s.old s.new s.made in
    let b = has_key_ok k a.0 a.1 a.3 in
    let new_is : s.new ≡ pairs (without_key k a.0) = a.4 ∙ ap pairs (sym b.1) in
    let c : change t (remove_at p (key_step k)) ≡ Ok (put_pairs p (members_named 0 k a.0)) =
    ap (λ r. and_then r (λ c. and_then (members_if_object c) (λ ps. cond (has_key k ps) (Ok (put_pairs p (members_named 0 k ps))) (Err not_found)))) (s.stood ∙ ap Ok a.2)
    ∙ ap (λ b. cond b (Ok (put_pairs p (members_named 0 k a.0))) (Err not_found)) b.0 in
    record {
      tree_change = put_pairs p (members_named 0 k a.0);
      told_so = c;
      puts_back = at_path_back p f (on_pairs (insert_members (members_named 0 k a.0))) t u s (ap (on_pairs (insert_members (members_named 0 k a.0))) new_is ∙ ap (within pairs) (members_put_back k a.0) ∙ ap Ok (sym a.2));
      anew = remove_at p (key_step k);
      anew_so = edit_of_removal_named 0 k a.0 p b.0;
      gives = h;
      changes = c;
    }

edited_one : (t u : Tree) (e : Edit) → edited (e ∷ []) t ≡ Ok u → edited_once e t ≡ Ok u
edited_one t u e h = by (edited_once e t) h
  where
    Made : Type 0
    Made = Result Tree (ℕ × EditRefusal)

    by : (r : Changed Tree) → ◌≡◌ {A = Result Tree (ℕ × EditRefusal)} (elim r as (λ _. Result Tree (ℕ × EditRefusal)) [ Ok u ↦ Ok u | Err r ↦ Err (0, r) ]) (Ok u) → r ≡ Ok u
    by (Ok x) h = let g : x ≡ u = cc in ap Ok g
    by (Err r) h = absurd cc

pub undo_inverts_edit : (t u : Tree) (e : Edit) → edited (e ∷ []) t ≡ Ok u → (c : TreeChange) × (change t e ≡ Ok c) × (undone u c ≡ Ok t)
undo_inverts_edit t u e h = let a = edit_undone_by t u e (edited_one t u e h) in (a.tree_change, a.told_so, a.puts_back)

pub redo_repeats_edit : (t u : Tree) (e : Edit) (c : TreeChange) → edited_once e t ≡ Ok u → change t e ≡ Ok c → (at_path_again : Edit) × (redo_edit u c ≡ Ok at_path_again) × (edited_once at_path_again t ≡ Ok u) × (change t at_path_again ≡ Ok c)
redo_repeats_edit t u e c h g =
    let a = edit_undone_by t u e h in
    let told : a.tree_change ≡ c = ok_injective a.tree_change c (sym a.told_so ∙ g) in
    (a.anew, ap (redo_edit u) (sym told) ∙ a.anew_so, a.gives, a.changes ∙ ap Ok told)

pub undone_of_change : (t u : Tree) (e : Edit) (c : TreeChange) → edited_once e t ≡ Ok u → change t e ≡ Ok c → undone u c ≡ Ok t
undone_of_change t u e c h g =
    let a = edit_undone_by t u e h in
    ap (undone u) (ok_injective c a.tree_change (sym g ∙ a.told_so)) ∙ a.puts_back

-- ---- edits that do not apply

err_injective : {A : Type 0} (e r : EditRefusal) → ◌≡◌ {A = Changed A} (Err e) (Err r) → e ≡ r
err_injective e r h = cc

ok_not_err : {A : Type 0} (x : A) (r : EditRefusal) → ◌≡◌ {A = Changed A} (Ok x) (Err r) → ⊥
ok_not_err x r e = cc

-- where a change at a path fails, the path leads nowhere, or the value there fails it
pub at_path_err : (p : List Step) (f : Tree → Changed Tree) (t : Tree) (r : EditRefusal) → at_path p f t ≡ Err r → (lookup p t ≡ Err r) ⊎ ((c : Tree) × (lookup p t ≡ Ok c) × (f c ≡ Err r))
at_path_err p f t r h = by (lookup p t) (sym (at_path_lookup p f t) ∙ h)
  where
    more : (c : Tree) (s : Changed Tree) → within (λ n. replaced p n t) s ≡ Err r → s ≡ Err r
    more c (Ok x) h = absurd (ok_not_err (replaced p x t) r h)
    more c (Err e) h = h

    by : (s : Changed Tree) → and_then s (λ c. within (λ n. replaced p n t) (f c)) ≡ Err r → (s ≡ Err r) ⊎ ((c : Tree) × (s ≡ Ok c) × (f c ≡ Err r))
    by (Ok c) h = inr (c, refl, more c (f c) h)
    by (Err e) h = inl (ap Err (err_injective {A = Tree} e r h))

on_pairs_err : (f : Pairs → Changed Pairs) (t : Tree) (r : EditRefusal) → on_pairs f t ≡ Err r → (members_if_object t ≡ Err r) ⊎ ((ps : Pairs) × (t ≡ pairs ps) × (f ps ≡ Err r))
on_pairs_err f (pairs ps) r h = inr (ps, refl, by (f ps) h)
  where
    by : (s : Changed Pairs) → within pairs s ≡ Err r → s ≡ Err r
    by (Ok x) h = absurd (ok_not_err (pairs x) r h)
    by (Err e) h = ap Err (err_injective {A = Tree} e r h)
on_pairs_err f null r h = inl (ap Err (err_injective {A = Tree} type_unmatched r h))
on_pairs_err f (boolean b) r h = inl (ap Err (err_injective {A = Tree} type_unmatched r h))
on_pairs_err f (num l) r h = inl (ap Err (err_injective {A = Tree} type_unmatched r h))
on_pairs_err f (text s) r h = inl (ap Err (err_injective {A = Tree} type_unmatched r h))
on_pairs_err f (list ts) r h = inl (ap Err (err_injective {A = Tree} type_unmatched r h))

on_list_err : (f : Trees → Changed Trees) (t : Tree) (r : EditRefusal) → on_list f t ≡ Err r → (elements_if_array t ≡ Err r) ⊎ ((ts : Trees) × (t ≡ list ts) × (f ts ≡ Err r))
on_list_err f (list ts) r h = inr (ts, refl, by (f ts) h)
  where
    by : (s : Changed Trees) → within list s ≡ Err r → s ≡ Err r
    by (Ok x) h = absurd (ok_not_err (list x) r h)
    by (Err e) h = ap Err (err_injective {A = Tree} e r h)
on_list_err f null r h = inl (ap Err (err_injective {A = Tree} type_unmatched r h))
on_list_err f (boolean b) r h = inl (ap Err (err_injective {A = Tree} type_unmatched r h))
on_list_err f (num l) r h = inl (ap Err (err_injective {A = Tree} type_unmatched r h))
on_list_err f (text s) r h = inl (ap Err (err_injective {A = Tree} type_unmatched r h))
on_list_err f (pairs ps) r h = inl (ap Err (err_injective {A = Tree} type_unmatched r h))

without_index_err : (i : ℕ) (ts : Trees) (r : EditRefusal) → without_index i ts ≡ Err r → ok_or (slice_get (trees_list ts) i) not_found ≡ Err r
without_index_err i no_trees r h = ap Err (err_injective {A = Trees} not_found r h)
without_index_err zero (tree_and t ts) r h = absurd (ok_not_err ts r h)
without_index_err (suc i) (tree_and t ts) r h = without_index_err i ts r (by (without_index i ts) h)
  where
    by : (s : Changed Trees) → within (λ us. tree_and t us) s ≡ Err r → s ≡ Err r
    by (Ok x) h = absurd (ok_not_err (tree_and t x) r h)
    by (Err e) h = h

lookup_step_err : (i : ℕ) (c : Tree) (r : EditRefusal) → elements_if_array c ≡ Err r → lookup_step (index_step i) c ≡ Err r
lookup_step_err i (list ts) r h = absurd (ok_not_err ts r h)
lookup_step_err i null r h = ap Err (err_injective {A = Trees} type_unmatched r h)
lookup_step_err i (boolean b) r h = ap Err (err_injective {A = Trees} type_unmatched r h)
lookup_step_err i (num l) r h = ap Err (err_injective {A = Trees} type_unmatched r h)
lookup_step_err i (text s) r h = ap Err (err_injective {A = Trees} type_unmatched r h)
lookup_step_err i (pairs ps) r h = ap Err (err_injective {A = Trees} type_unmatched r h)

without_key_err : (k : List ℕ) (ps : Pairs) (r : EditRefusal) (c : TreeChange) → ◌≡◌ {A = Changed Pairs} (cond (has_key k ps) (Ok (without_key k ps)) (Err not_found)) (Err r) → ◌≡◌ {A = Changed TreeChange} (cond (has_key k ps) (Ok c) (Err not_found)) (Err r)
without_key_err k ps r c h = by (has_key k ps) h
  where
    by : (b : Bool) → ◌≡◌ {A = Changed Pairs} (cond b (Ok (without_key k ps)) (Err not_found)) (Err r) → ◌≡◌ {A = Changed TreeChange} (cond b (Ok c) (Err not_found)) (Err r)
    by true h = absurd (ok_not_err (without_key k ps) r h)
    by false h = ap Err (err_injective {A = Pairs} not_found r h)

pub change_fails_as_edit : (t : Tree) (e : Edit) (r : EditRefusal) → edited_once e t ≡ Err r → change t e ≡ Err r
change_fails_as_edit t (set_at p v) r h =
    elim (at_path_err p (λ _. Ok v) t r h) [
      | inl a ↦ ap (within (λ old. put p old)) a
      | inr a ↦ absurd (ok_not_err v r a.2)
    ]
change_fails_as_edit t (insert_at p k v) r h =
    elim (at_path_err p (on_pairs (λ ps. Ok (inserted k v ps))) t r h) [
      | inl a ↦ ap (λ s. and_then s (λ c. within (λ ps. insert_change p k (first_value k ps)) (members_if_object c))) a
      | inr a ↦ elim (on_pairs_err (λ ps. Ok (inserted k v ps)) a.0 r a.2) [
        | inl b ↦ ap (λ s. and_then s (λ c. within (λ ps. insert_change p k (first_value k ps)) (members_if_object c))) a.1 ∙ ap (within (λ ps. insert_change p k (first_value k ps))) b
        | inr b ↦ absurd (ok_not_err (inserted k v b.0) r b.2)
      ]
    ]
change_fails_as_edit t (push_at p v) r h =
    elim (at_path_err p (on_list (λ ts. Ok (pushed v ts))) t r h) [
      | inl a ↦ ap (λ s. and_then s (λ c. within (λ ts. drop_last p) (elements_if_array c))) a
      | inr a ↦ elim (on_list_err (λ ts. Ok (pushed v ts)) a.0 r a.2) [
        | inl b ↦ ap (λ s. and_then s (λ c. within (λ ts. drop_last p) (elements_if_array c))) a.1 ∙ ap (within (λ ts. drop_last p)) b
        | inr b ↦ absurd (ok_not_err (pushed v b.0) r b.2)
      ]
    ]
change_fails_as_edit t (remove_at p (index_step i)) r h =
    let q = index_step i ∷ [] in
    ap (within (λ old. put_back p i old)) (
    lookup_append p q t
    ∙ elim (at_path_err p (on_list (without_index i)) t r h) [
      | inl a ↦ ap (λ s. and_then s (lookup q)) a
      | inr a ↦ ap (λ s. and_then s (lookup q)) a.1 ∙ ap (λ s. and_then s (lookup [])) (
          elim (on_list_err (without_index i) a.0 r a.2) [
            | inl b ↦ lookup_step_err i a.0 r b
            | inr b ↦ ap (lookup_step (index_step i)) b.1 ∙ without_index_err i b.0 r b.2
          ]
          )
    ]
    )
change_fails_as_edit t (remove_at p (key_step k)) r h =
    let f : Pairs → Changed Pairs = λ ps. cond (has_key k ps) (Ok (without_key k ps)) (Err not_found) in
    let g : Tree → Changed TreeChange = λ c. and_then (members_if_object c) (λ ps. cond (has_key k ps) (Ok (put_pairs p (members_named 0 k ps))) (Err not_found)) in
    elim (at_path_err p (on_pairs f) t r h) [
      | inl a ↦ ap (λ s. and_then s g) a
      | inr a ↦ ap (λ s. and_then s g) a.1 ∙ elim (on_pairs_err f a.0 r a.2) [
        | inl b ↦ ap (λ s. and_then s (λ ps. cond (has_key k ps) (Ok (put_pairs p (members_named 0 k ps))) (Err not_found))) b
        | inr b ↦ ap g b.1 ∙ without_key_err k b.0 r (put_pairs p (members_named 0 k b.0)) b.2
      ]
    ]
