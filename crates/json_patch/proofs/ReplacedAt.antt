-- A change at a path is a change of the value there, which replaces it.
use Rattle.std.proofs.Common.{◌≡◌, ℕ, zero, suc, List, [], ◌∷◌, ◌++◌, Bool, true, false, cond, Option, Some, None, Ok, Err, refl, sym, ap, ◌∙◌, bytes_eq}
use Rattle.std.specs.Prelude.{ok_or, slice_get}
use Rattle.json_grammar.specs.Tree.{Tree, null, boolean, num, text, list, pairs, Trees, no_trees, tree_and, trees_list, Pairs, no_pairs, pair_and}
use Rattle.json_model.specs.Edit.{Step, key_step, index_step, Changed, EditRefusal, not_found, type_unmatched, within, at_key, at_index, at_path, and_then}
use Rattle.json_model.specs.Same.{first_value}
use Rattle.json_patch.specs.ValuesAt.{value_at_step, value_at_path}
use Rattle.json_patch.proofs.Results.{same_ok, no_ok, then_parts, within_same, within_then}

-- ---- one step

-- n in place of the first value of the key
abbrev pub replaced_at_key : List ℕ → Tree → Pairs → Pairs
replaced_at_key k n no_pairs = no_pairs
replaced_at_key k n (pair_and m t ps) = cond (bytes_eq m k) (pair_and m n ps) (pair_and m t (replaced_at_key k n ps))

abbrev pub replaced_at_index : ℕ → Tree → Trees → Trees
replaced_at_index i n no_trees = no_trees
replaced_at_index zero n (tree_and t ts) = tree_and n ts
replaced_at_index (suc i) n (tree_and t ts) = tree_and t (replaced_at_index i n ts)

abbrev pub replaced_at_step : Step → Tree → Tree → Tree
replaced_at_step (key_step k) n (pairs ps) = pairs (replaced_at_key k n ps)
replaced_at_step (index_step i) n (list ts) = list (replaced_at_index i n ts)
replaced_at_step _ n t = t

at_key-replaced : (k : List ℕ) (f : Tree → Changed Tree) (ps : Pairs) → at_key k f ps ≡ and_then (ok_or (first_value k ps) not_found) (λ c. within (λ n. replaced_at_key k n ps) (f c))
at_key-replaced k f no_pairs = refl
at_key-replaced k f (pair_and m t ps) = by (bytes_eq m k) (at_key-replaced k f ps)
  where
    by : (b : Bool) → at_key k f ps ≡ and_then (ok_or (first_value k ps) not_found) (λ c. within (λ n. replaced_at_key k n ps) (f c))
        → cond b (within (λ u. pair_and m u ps) (f t)) (within (λ qs. pair_and m t qs) (at_key k f ps))
        ≡ and_then (ok_or (cond b (Some t) (first_value k ps)) not_found) (λ c. within (λ n. cond b (pair_and m n ps) (pair_and m t (replaced_at_key k n ps))) (f c))
    by true h = refl
    by false h = ap (within (λ qs. pair_and m t qs)) h ∙ within_then (λ qs. pair_and m t qs) (λ n. replaced_at_key k n ps) f (ok_or (first_value k ps) not_found)

at_index-replaced : (i : ℕ) (f : Tree → Changed Tree) (ts : Trees) → at_index i f ts ≡ and_then (ok_or (slice_get (trees_list ts) i) not_found) (λ c. within (λ n. replaced_at_index i n ts) (f c))
at_index-replaced i f no_trees = refl
at_index-replaced zero f (tree_and t ts) = refl
at_index-replaced (suc i) f (tree_and t ts) =
    ap (within (λ us. tree_and t us)) (at_index-replaced i f ts) ∙ within_then (λ us. tree_and t us) (λ n. replaced_at_index i n ts) f (ok_or (slice_get (trees_list ts) i) not_found)

pub at_path-step : (s : Step) (p : List Step) (f : Tree → Changed Tree) (t : Tree) → at_path (s ∷ p) f t ≡ and_then (value_at_step s t) (λ c. within (λ n. replaced_at_step s n t) (at_path p f c))
at_path-step (key_step k) p f (pairs ps) = ap (within pairs) (at_key-replaced k (at_path p f) ps) ∙ within_then pairs (λ n. replaced_at_key k n ps) (at_path p f) (ok_or (first_value k ps) not_found)
at_path-step (key_step k) p f null = refl
at_path-step (key_step k) p f (boolean b) = refl
at_path-step (key_step k) p f (num l) = refl
at_path-step (key_step k) p f (text s) = refl
at_path-step (key_step k) p f (list ts) = refl
at_path-step (index_step i) p f (list ts) = ap (within list) (at_index-replaced i (at_path p f) ts) ∙ within_then list (λ n. replaced_at_index i n ts) (at_path p f) (ok_or (slice_get (trees_list ts) i) not_found)
at_path-step (index_step i) p f null = refl
at_path-step (index_step i) p f (boolean b) = refl
at_path-step (index_step i) p f (num l) = refl
at_path-step (index_step i) p f (text s) = refl
at_path-step (index_step i) p f (pairs ps) = refl

pub ok_parts : {A : Type 0} (o : Option A) (e : EditRefusal) (x : A) → ok_or o e ≡ Ok x → o ≡ Some x
ok_parts None e x h = absurd (no_ok x e h)
ok_parts (Some y) e x h = ap Some (same_ok y x h)

some_same : (x y : Tree) → Some x ≡ Some y → x ≡ y
some_same x y e = cc

none_some : (x : Tree) → None ≡ Some x → ⊥
none_some x e = cc

key_same : (k : List ℕ) (c : Tree) (ps : Pairs) → first_value k ps ≡ Some c → replaced_at_key k c ps ≡ ps
key_same k c no_pairs h = refl
key_same k c (pair_and m t ps) h = by (bytes_eq m k) h (key_same k c ps)
  where
    by : (b : Bool) → cond b (Some t) (first_value k ps) ≡ Some c → (first_value k ps ≡ Some c → replaced_at_key k c ps ≡ ps) → cond b (pair_and m c ps) (pair_and m t (replaced_at_key k c ps)) ≡ pair_and m t ps
    by true h i = ap (λ x. pair_and m x ps) (sym (some_same t c h))
    by false h i = ap (λ qs. pair_and m t qs) (i h)

key_now : (k : List ℕ) (c n : Tree) (ps : Pairs) → first_value k ps ≡ Some c → first_value k (replaced_at_key k n ps) ≡ Some n
key_now k c n no_pairs h = absurd (none_some c h)
key_now k c n (pair_and m t ps) h = by (bytes_eq m k) refl h (key_now k c n ps)
  where
    by : (b : Bool) → bytes_eq m k ≡ b → cond b (Some t) (first_value k ps) ≡ Some c → (first_value k ps ≡ Some c → first_value k (replaced_at_key k n ps) ≡ Some n)
        → first_value k (cond b (pair_and m n ps) (pair_and m t (replaced_at_key k n ps))) ≡ Some n
    by true e h i = ap (λ b. cond b (Some n) (first_value k ps)) e
    by false e h i = ap (λ b. cond b (Some t) (first_value k (replaced_at_key k n ps))) e ∙ i h

key_twice : (k : List ℕ) (m n : Tree) (ps : Pairs) → replaced_at_key k m (replaced_at_key k n ps) ≡ replaced_at_key k m ps
key_twice k m n no_pairs = refl
key_twice k m n (pair_and a t ps) = by (bytes_eq a k) refl (key_twice k m n ps)
  where
    by : (b : Bool) → bytes_eq a k ≡ b → replaced_at_key k m (replaced_at_key k n ps) ≡ replaced_at_key k m ps
        → replaced_at_key k m (cond b (pair_and a n ps) (pair_and a t (replaced_at_key k n ps))) ≡ cond b (pair_and a m ps) (pair_and a t (replaced_at_key k m ps))
    by true e i = ap (λ b. cond b (pair_and a m ps) (pair_and a n (replaced_at_key k m ps))) e
    by false e i = ap (λ b. cond b (pair_and a m (replaced_at_key k n ps)) (pair_and a t (replaced_at_key k m (replaced_at_key k n ps)))) e ∙ ap (λ qs. pair_and a t qs) i

pub index_same : (i : ℕ) (c : Tree) (ts : Trees) → slice_get (trees_list ts) i ≡ Some c → replaced_at_index i c ts ≡ ts
index_same i c no_trees h = refl
index_same zero c (tree_and t ts) h = ap (λ x. tree_and x ts) (sym (some_same t c h))
index_same (suc i) c (tree_and t ts) h = ap (λ us. tree_and t us) (index_same i c ts h)

index_now : (i : ℕ) (c n : Tree) (ts : Trees) → slice_get (trees_list ts) i ≡ Some c → slice_get (trees_list (replaced_at_index i n ts)) i ≡ Some n
index_now i c n no_trees h = absurd (none_some c h)
index_now zero c n (tree_and t ts) h = refl
index_now (suc i) c n (tree_and t ts) h = index_now i c n ts h

index_twice : (i : ℕ) (m n : Tree) (ts : Trees) → replaced_at_index i m (replaced_at_index i n ts) ≡ replaced_at_index i m ts
index_twice i m n no_trees = refl
index_twice zero m n (tree_and t ts) = refl
index_twice (suc i) m n (tree_and t ts) = ap (λ us. tree_and t us) (index_twice i m n ts)

pub child_same : (s : Step) (c t : Tree) → value_at_step s t ≡ Ok c → replaced_at_step s c t ≡ t
child_same (key_step k) c (pairs ps) h = ap pairs (key_same k c ps (ok_parts (first_value k ps) not_found c h))
child_same (key_step k) c null h = refl
child_same (key_step k) c (boolean b) h = refl
child_same (key_step k) c (num l) h = refl
child_same (key_step k) c (text s) h = refl
child_same (key_step k) c (list ts) h = refl
child_same (index_step i) c (list ts) h = ap list (index_same i c ts (ok_parts (slice_get (trees_list ts) i) not_found c h))
child_same (index_step i) c null h = refl
child_same (index_step i) c (boolean b) h = refl
child_same (index_step i) c (num l) h = refl
child_same (index_step i) c (text s) h = refl
child_same (index_step i) c (pairs ps) h = refl

pub child_now : (s : Step) (c n t : Tree) → value_at_step s t ≡ Ok c → value_at_step s (replaced_at_step s n t) ≡ Ok n
child_now (key_step k) c n (pairs ps) h = ap (λ o. ok_or o not_found) (key_now k c n ps (ok_parts (first_value k ps) not_found c h))
child_now (key_step k) c n null h = absurd (no_ok c type_unmatched h)
child_now (key_step k) c n (boolean b) h = absurd (no_ok c type_unmatched h)
child_now (key_step k) c n (num l) h = absurd (no_ok c type_unmatched h)
child_now (key_step k) c n (text s) h = absurd (no_ok c type_unmatched h)
child_now (key_step k) c n (list ts) h = absurd (no_ok c type_unmatched h)
child_now (index_step i) c n (list ts) h = ap (λ o. ok_or o not_found) (index_now i c n ts (ok_parts (slice_get (trees_list ts) i) not_found c h))
child_now (index_step i) c n null h = absurd (no_ok c type_unmatched h)
child_now (index_step i) c n (boolean b) h = absurd (no_ok c type_unmatched h)
child_now (index_step i) c n (num l) h = absurd (no_ok c type_unmatched h)
child_now (index_step i) c n (text s) h = absurd (no_ok c type_unmatched h)
child_now (index_step i) c n (pairs ps) h = absurd (no_ok c type_unmatched h)

pub child_twice : (s : Step) (m n t : Tree) → replaced_at_step s m (replaced_at_step s n t) ≡ replaced_at_step s m t
child_twice (key_step k) m n (pairs ps) = ap pairs (key_twice k m n ps)
child_twice (key_step k) m n null = refl
child_twice (key_step k) m n (boolean b) = refl
child_twice (key_step k) m n (num l) = refl
child_twice (key_step k) m n (text s) = refl
child_twice (key_step k) m n (list ts) = refl
child_twice (index_step i) m n (list ts) = ap list (index_twice i m n ts)
child_twice (index_step i) m n null = refl
child_twice (index_step i) m n (boolean b) = refl
child_twice (index_step i) m n (num l) = refl
child_twice (index_step i) m n (text s) = refl
child_twice (index_step i) m n (pairs ps) = refl

-- ---- a path

-- n in place of the value at a path
abbrev pub replaced_at_path : List Step → Tree → Tree → Tree
replaced_at_path [] n t = n
replaced_at_path (s ∷ p) n t = elim (value_at_step s t) as (λ _. Tree) [ Ok c ↦ replaced_at_step s (replaced_at_path p n c) t | Err e ↦ t ]

pub at_path-replaced : (p : List Step) (f : Tree → Changed Tree) (t : Tree) → at_path p f t ≡ and_then (value_at_path p t) (λ c. within (λ n. replaced_at_path p n t) (f c))
at_path-replaced [] f t = sym (within_same (f t))
at_path-replaced (s ∷ p) f t = at_path-step s p f t ∙ by (value_at_step s t) (λ c. at_path-replaced p f c)
  where
    by : (r : Changed Tree) → ((c : Tree) → at_path p f c ≡ and_then (value_at_path p c) (λ d. within (λ n. replaced_at_path p n c) (f d)))
        → and_then r (λ c. within (λ n. replaced_at_step s n t) (at_path p f c))
        ≡ and_then (and_then r (value_at_path p)) (λ c. within (λ n. elim r as (λ _. Tree) [ Ok c ↦ replaced_at_step s (replaced_at_path p n c) t | Err e ↦ t ]) (f c))
    by (Ok c) h = ap (within (λ n. replaced_at_step s n t)) (h c) ∙ within_then (λ n. replaced_at_step s n t) (λ n. replaced_at_path p n c) f (value_at_path p c)
    by (Err e) h = refl

pub replaced_at_path_step : (s : Step) (p : List Step) (n t c : Tree) → value_at_step s t ≡ Ok c → replaced_at_path (s ∷ p) n t ≡ replaced_at_step s (replaced_at_path p n c) t
replaced_at_path_step s p n t c e = ap (λ r. elim r as (λ _. Tree) [ Ok c ↦ replaced_at_step s (replaced_at_path p n c) t | Err e ↦ t ]) e

pub replaced_by_same : (p : List Step) (c t : Tree) → value_at_path p t ≡ Ok c → replaced_at_path p c t ≡ t
replaced_by_same [] c t h = sym (same_ok t c h)
replaced_by_same (s ∷ p) c t h =
    let a = then_parts (value_at_step s t) (value_at_path p) c h in
    replaced_at_path_step s p c t a.0 a.1 ∙ ap (λ x. replaced_at_step s x t) (replaced_by_same p c a.0 a.2) ∙ child_same s a.0 t a.1

pub value_at_replaced : (p : List Step) (c n t : Tree) → value_at_path p t ≡ Ok c → value_at_path p (replaced_at_path p n t) ≡ Ok n
value_at_replaced [] c n t h = refl
value_at_replaced (s ∷ p) c n t h =
    let a = then_parts (value_at_step s t) (value_at_path p) c h in
    ap (value_at_path (s ∷ p)) (replaced_at_path_step s p n t a.0 a.1) ∙ ap (λ r. and_then r (value_at_path p)) (child_now s a.0 (replaced_at_path p n a.0) t a.1) ∙ value_at_replaced p c n a.0 a.2

pub replaced_twice : (p : List Step) (c m n t : Tree) → value_at_path p t ≡ Ok c → replaced_at_path p m (replaced_at_path p n t) ≡ replaced_at_path p m t
replaced_twice [] c m n t h = refl
replaced_twice (s ∷ p) c m n t h =
    let a = then_parts (value_at_step s t) (value_at_path p) c h in
    ap (replaced_at_path (s ∷ p) m) (replaced_at_path_step s p n t a.0 a.1)
    ∙ replaced_at_path_step s p m (replaced_at_step s (replaced_at_path p n a.0) t) (replaced_at_path p n a.0) (child_now s a.0 (replaced_at_path p n a.0) t a.1)
    ∙ child_twice s (replaced_at_path p m (replaced_at_path p n a.0)) (replaced_at_path p n a.0) t
    ∙ ap (λ x. replaced_at_step s x t) (replaced_twice p c m n a.0 a.2)
    ∙ sym (replaced_at_path_step s p m t a.0 a.1)

-- ---- what a change at a path made

-- a change at a path: the value before, and after
pub record ChangedAt (p : List Step) (f : Tree → Changed Tree) (t u : Tree) : Type 0 where
  pub old : Tree
  pub new : Tree
  pub stood : value_at_path p t ≡ Ok old
  pub made : f old ≡ Ok new
  pub whole : replaced_at_path p new t ≡ u

-- a change of the value there is a change at the path
pub change_at_path : (p : List Step) (f : Tree → Changed Tree) (t old new : Tree) → value_at_path p t ≡ Ok old → f old ≡ Ok new → at_path p f t ≡ Ok (replaced_at_path p new t)
change_at_path p f t old new h g = at_path-replaced p f t ∙ ap (λ r. and_then r (λ c. within (λ n. replaced_at_path p n t) (f c))) h ∙ ap (within (λ n. replaced_at_path p n t)) g

-- ---- one path after another

pub value_at_path-append : (p q : List Step) (t : Tree) → value_at_path (p ++ q) t ≡ and_then (value_at_path p t) (value_at_path q)
value_at_path-append [] q t = refl
value_at_path-append (s ∷ p) q t = by (value_at_step s t) (λ c. value_at_path-append p q c)
  where
    by : (r : Changed Tree) → ((c : Tree) → value_at_path (p ++ q) c ≡ and_then (value_at_path p c) (value_at_path q)) → and_then r (value_at_path (p ++ q)) ≡ and_then (and_then r (value_at_path p)) (value_at_path q)
    by (Ok c) h = h c
    by (Err e) h = refl
