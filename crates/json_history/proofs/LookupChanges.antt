-- A change at the end of a path: the value there is looked up, changed and put back.
use Rattle.std.proofs.Common.{◌≡◌, ℕ, zero, suc, List, [], ◌∷◌, ◌++◌, Bool, true, false, cond, Option, Some, None, Ok, Err, refl, sym, ap, ◌∙◌, bytes_eq}
use Rattle.std.specs.Prelude.{ok_or, slice_get}
use Rattle.json_grammar.specs.Tree.{Tree, null, boolean, num, text, list, pairs, Trees, no_trees, tree_and, trees_list, Pairs, no_pairs, pair_and}
use Rattle.json_model.specs.Edit.{Step, key_step, index_step, Changed, EditRefusal, not_found, type_unmatched, within, at_key, at_index, at_path, and_then}
use Rattle.json_model.specs.Same.{first_value}
use Rattle.json_history.specs.Lookup.{lookup_step, lookup}
use Rattle.json_history.proofs.ChangedResults.{ok_injective, err_not_ok, and_then_ok, within_ok_parts, within_identity, within_and_then}

-- ---- one step

-- the members with n as the value of the key's first one
abbrev pub key_replaced : List ℕ → Tree → Pairs → Pairs
key_replaced k n no_pairs = no_pairs
key_replaced k n (pair_and m t ps) = cond (bytes_eq m k) (pair_and m n ps) (pair_and m t (key_replaced k n ps))

abbrev pub index_replaced : ℕ → Tree → Trees → Trees
index_replaced i n no_trees = no_trees
index_replaced zero n (tree_and t ts) = tree_and n ts
index_replaced (suc i) n (tree_and t ts) = tree_and t (index_replaced i n ts)

abbrev pub step_replaced : Step → Tree → Tree → Tree
step_replaced (key_step k) n (pairs ps) = pairs (key_replaced k n ps)
step_replaced (index_step i) n (list ts) = list (index_replaced i n ts)
step_replaced _ n t = t

at_key_lookup : (k : List ℕ) (f : Tree → Changed Tree) (ps : Pairs) → at_key k f ps ≡ and_then (ok_or (first_value k ps) not_found) (λ c. within (λ n. key_replaced k n ps) (f c))
at_key_lookup k f no_pairs = refl
at_key_lookup k f (pair_and m t ps) = by (bytes_eq m k) (at_key_lookup k f ps)
  where
    by : (b : Bool) → at_key k f ps ≡ and_then (ok_or (first_value k ps) not_found) (λ c. within (λ n. key_replaced k n ps) (f c))
        → cond b (within (λ u. pair_and m u ps) (f t)) (within (λ qs. pair_and m t qs) (at_key k f ps))
        ≡ and_then (ok_or (cond b (Some t) (first_value k ps)) not_found) (λ c. within (λ n. cond b (pair_and m n ps) (pair_and m t (key_replaced k n ps))) (f c))
    by true h = refl
    by false h = ap (within (λ qs. pair_and m t qs)) h ∙ within_and_then (λ qs. pair_and m t qs) (λ n. key_replaced k n ps) f (ok_or (first_value k ps) not_found)

at_index_lookup : (i : ℕ) (f : Tree → Changed Tree) (ts : Trees) → at_index i f ts ≡ and_then (ok_or (slice_get (trees_list ts) i) not_found) (λ c. within (λ n. index_replaced i n ts) (f c))
at_index_lookup i f no_trees = refl
at_index_lookup zero f (tree_and t ts) = refl
at_index_lookup (suc i) f (tree_and t ts) =
    ap (within (λ us. tree_and t us)) (at_index_lookup i f ts) ∙ within_and_then (λ us. tree_and t us) (λ n. index_replaced i n ts) f (ok_or (slice_get (trees_list ts) i) not_found)

at_path_step : (s : Step) (p : List Step) (f : Tree → Changed Tree) (t : Tree) → at_path (s ∷ p) f t ≡ and_then (lookup_step s t) (λ c. within (λ n. step_replaced s n t) (at_path p f c))
at_path_step (key_step k) p f (pairs ps) = ap (within pairs) (at_key_lookup k (at_path p f) ps) ∙ within_and_then pairs (λ n. key_replaced k n ps) (at_path p f) (ok_or (first_value k ps) not_found)
at_path_step (key_step k) p f null = refl
at_path_step (key_step k) p f (boolean b) = refl
at_path_step (key_step k) p f (num l) = refl
at_path_step (key_step k) p f (text s) = refl
at_path_step (key_step k) p f (list ts) = refl
at_path_step (index_step i) p f (list ts) = ap (within list) (at_index_lookup i (at_path p f) ts) ∙ within_and_then list (λ n. index_replaced i n ts) (at_path p f) (ok_or (slice_get (trees_list ts) i) not_found)
at_path_step (index_step i) p f null = refl
at_path_step (index_step i) p f (boolean b) = refl
at_path_step (index_step i) p f (num l) = refl
at_path_step (index_step i) p f (text s) = refl
at_path_step (index_step i) p f (pairs ps) = refl

pub ok_or_some : {A : Type 0} (o : Option A) (e : EditRefusal) (x : A) → ok_or o e ≡ Ok x → o ≡ Some x
ok_or_some None e x h = absurd (err_not_ok x e h)
ok_or_some (Some y) e x h = ap Some (ok_injective y x h)

some_same : (x y : Tree) → Some x ≡ Some y → x ≡ y
some_same x y e = cc

none_some : (x : Tree) → None ≡ Some x → ⊥
none_some x e = cc

key_replaced_same : (k : List ℕ) (c : Tree) (ps : Pairs) → first_value k ps ≡ Some c → key_replaced k c ps ≡ ps
key_replaced_same k c no_pairs h = refl
key_replaced_same k c (pair_and m t ps) h = by (bytes_eq m k) h (key_replaced_same k c ps)
  where
    by : (b : Bool) → cond b (Some t) (first_value k ps) ≡ Some c → (first_value k ps ≡ Some c → key_replaced k c ps ≡ ps) → cond b (pair_and m c ps) (pair_and m t (key_replaced k c ps)) ≡ pair_and m t ps
    by true h i = ap (λ x. pair_and m x ps) (sym (some_same t c h))
    by false h i = ap (λ qs. pair_and m t qs) (i h)

key_replaced_lookup : (k : List ℕ) (c n : Tree) (ps : Pairs) → first_value k ps ≡ Some c → first_value k (key_replaced k n ps) ≡ Some n
key_replaced_lookup k c n no_pairs h = absurd (none_some c h)
key_replaced_lookup k c n (pair_and m t ps) h = by (bytes_eq m k) refl h (key_replaced_lookup k c n ps)
  where
    by : (b : Bool) → bytes_eq m k ≡ b → cond b (Some t) (first_value k ps) ≡ Some c → (first_value k ps ≡ Some c → first_value k (key_replaced k n ps) ≡ Some n)
        → first_value k (cond b (pair_and m n ps) (pair_and m t (key_replaced k n ps))) ≡ Some n
    by true e h i = ap (λ b. cond b (Some n) (first_value k ps)) e
    by false e h i = ap (λ b. cond b (Some t) (first_value k (key_replaced k n ps))) e ∙ i h

key_replaced_twice : (k : List ℕ) (m n : Tree) (ps : Pairs) → key_replaced k m (key_replaced k n ps) ≡ key_replaced k m ps
key_replaced_twice k m n no_pairs = refl
key_replaced_twice k m n (pair_and a t ps) = by (bytes_eq a k) refl (key_replaced_twice k m n ps)
  where
    by : (b : Bool) → bytes_eq a k ≡ b → key_replaced k m (key_replaced k n ps) ≡ key_replaced k m ps
        → key_replaced k m (cond b (pair_and a n ps) (pair_and a t (key_replaced k n ps))) ≡ cond b (pair_and a m ps) (pair_and a t (key_replaced k m ps))
    by true e i = ap (λ b. cond b (pair_and a m ps) (pair_and a n (key_replaced k m ps))) e
    by false e i = ap (λ b. cond b (pair_and a m (key_replaced k n ps)) (pair_and a t (key_replaced k m (key_replaced k n ps)))) e ∙ ap (λ qs. pair_and a t qs) i

index_replaced_same : (i : ℕ) (c : Tree) (ts : Trees) → slice_get (trees_list ts) i ≡ Some c → index_replaced i c ts ≡ ts
index_replaced_same i c no_trees h = refl
index_replaced_same zero c (tree_and t ts) h = ap (λ x. tree_and x ts) (sym (some_same t c h))
index_replaced_same (suc i) c (tree_and t ts) h = ap (λ us. tree_and t us) (index_replaced_same i c ts h)

index_replaced_lookup : (i : ℕ) (c n : Tree) (ts : Trees) → slice_get (trees_list ts) i ≡ Some c → slice_get (trees_list (index_replaced i n ts)) i ≡ Some n
index_replaced_lookup i c n no_trees h = absurd (none_some c h)
index_replaced_lookup zero c n (tree_and t ts) h = refl
index_replaced_lookup (suc i) c n (tree_and t ts) h = index_replaced_lookup i c n ts h

index_replaced_twice : (i : ℕ) (m n : Tree) (ts : Trees) → index_replaced i m (index_replaced i n ts) ≡ index_replaced i m ts
index_replaced_twice i m n no_trees = refl
index_replaced_twice zero m n (tree_and t ts) = refl
index_replaced_twice (suc i) m n (tree_and t ts) = ap (λ us. tree_and t us) (index_replaced_twice i m n ts)

step_replaced_same : (s : Step) (c t : Tree) → lookup_step s t ≡ Ok c → step_replaced s c t ≡ t
step_replaced_same (key_step k) c (pairs ps) h = ap pairs (key_replaced_same k c ps (ok_or_some (first_value k ps) not_found c h))
step_replaced_same (key_step k) c null h = refl
step_replaced_same (key_step k) c (boolean b) h = refl
step_replaced_same (key_step k) c (num l) h = refl
step_replaced_same (key_step k) c (text s) h = refl
step_replaced_same (key_step k) c (list ts) h = refl
step_replaced_same (index_step i) c (list ts) h = ap list (index_replaced_same i c ts (ok_or_some (slice_get (trees_list ts) i) not_found c h))
step_replaced_same (index_step i) c null h = refl
step_replaced_same (index_step i) c (boolean b) h = refl
step_replaced_same (index_step i) c (num l) h = refl
step_replaced_same (index_step i) c (text s) h = refl
step_replaced_same (index_step i) c (pairs ps) h = refl

pub step_replaced_lookup : (s : Step) (c n t : Tree) → lookup_step s t ≡ Ok c → lookup_step s (step_replaced s n t) ≡ Ok n
step_replaced_lookup (key_step k) c n (pairs ps) h = ap (λ o. ok_or o not_found) (key_replaced_lookup k c n ps (ok_or_some (first_value k ps) not_found c h))
step_replaced_lookup (key_step k) c n null h = absurd (err_not_ok c type_unmatched h)
step_replaced_lookup (key_step k) c n (boolean b) h = absurd (err_not_ok c type_unmatched h)
step_replaced_lookup (key_step k) c n (num l) h = absurd (err_not_ok c type_unmatched h)
step_replaced_lookup (key_step k) c n (text s) h = absurd (err_not_ok c type_unmatched h)
step_replaced_lookup (key_step k) c n (list ts) h = absurd (err_not_ok c type_unmatched h)
step_replaced_lookup (index_step i) c n (list ts) h = ap (λ o. ok_or o not_found) (index_replaced_lookup i c n ts (ok_or_some (slice_get (trees_list ts) i) not_found c h))
step_replaced_lookup (index_step i) c n null h = absurd (err_not_ok c type_unmatched h)
step_replaced_lookup (index_step i) c n (boolean b) h = absurd (err_not_ok c type_unmatched h)
step_replaced_lookup (index_step i) c n (num l) h = absurd (err_not_ok c type_unmatched h)
step_replaced_lookup (index_step i) c n (text s) h = absurd (err_not_ok c type_unmatched h)
step_replaced_lookup (index_step i) c n (pairs ps) h = absurd (err_not_ok c type_unmatched h)

step_replaced_twice : (s : Step) (m n t : Tree) → step_replaced s m (step_replaced s n t) ≡ step_replaced s m t
step_replaced_twice (key_step k) m n (pairs ps) = ap pairs (key_replaced_twice k m n ps)
step_replaced_twice (key_step k) m n null = refl
step_replaced_twice (key_step k) m n (boolean b) = refl
step_replaced_twice (key_step k) m n (num l) = refl
step_replaced_twice (key_step k) m n (text s) = refl
step_replaced_twice (key_step k) m n (list ts) = refl
step_replaced_twice (index_step i) m n (list ts) = ap list (index_replaced_twice i m n ts)
step_replaced_twice (index_step i) m n null = refl
step_replaced_twice (index_step i) m n (boolean b) = refl
step_replaced_twice (index_step i) m n (num l) = refl
step_replaced_twice (index_step i) m n (text s) = refl
step_replaced_twice (index_step i) m n (pairs ps) = refl

-- ---- a path

-- the tree with n at the end of a path
abbrev pub replaced : List Step → Tree → Tree → Tree
replaced [] n t = n
replaced (s ∷ p) n t = elim (lookup_step s t) as (λ _. Tree) [ Ok c ↦ step_replaced s (replaced p n c) t | Err e ↦ t ]

pub at_path_lookup : (p : List Step) (f : Tree → Changed Tree) (t : Tree) → at_path p f t ≡ and_then (lookup p t) (λ c. within (λ n. replaced p n t) (f c))
at_path_lookup [] f t = sym (within_identity (f t))
at_path_lookup (s ∷ p) f t = at_path_step s p f t ∙ by (lookup_step s t) (λ c. at_path_lookup p f c)
  where
    by : (r : Changed Tree) → ((c : Tree) → at_path p f c ≡ and_then (lookup p c) (λ d. within (λ n. replaced p n c) (f d)))
        → and_then r (λ c. within (λ n. step_replaced s n t) (at_path p f c))
        ≡ and_then (and_then r (lookup p)) (λ c. within (λ n. elim r as (λ _. Tree) [ Ok c ↦ step_replaced s (replaced p n c) t | Err e ↦ t ]) (f c))
    by (Ok c) h = ap (within (λ n. step_replaced s n t)) (h c) ∙ within_and_then (λ n. step_replaced s n t) (λ n. replaced p n c) f (lookup p c)
    by (Err e) h = refl

pub replaced_step : (s : Step) (p : List Step) (n t c : Tree) → lookup_step s t ≡ Ok c → replaced (s ∷ p) n t ≡ step_replaced s (replaced p n c) t
replaced_step s p n t c e = ap (λ r. elim r as (λ _. Tree) [ Ok c ↦ step_replaced s (replaced p n c) t | Err e ↦ t ]) e

pub replaced_same : (p : List Step) (c t : Tree) → lookup p t ≡ Ok c → replaced p c t ≡ t
replaced_same [] c t h = sym (ok_injective t c h)
replaced_same (s ∷ p) c t h =
    let a = and_then_ok (lookup_step s t) (lookup p) c h in
    replaced_step s p c t a.0 a.1 ∙ ap (λ x. step_replaced s x t) (replaced_same p c a.0 a.2) ∙ step_replaced_same s a.0 t a.1

pub replaced_lookup : (p : List Step) (c n t : Tree) → lookup p t ≡ Ok c → lookup p (replaced p n t) ≡ Ok n
replaced_lookup [] c n t h = refl
replaced_lookup (s ∷ p) c n t h =
    let a = and_then_ok (lookup_step s t) (lookup p) c h in
    ap (lookup (s ∷ p)) (replaced_step s p n t a.0 a.1) ∙ ap (λ r. and_then r (lookup p)) (step_replaced_lookup s a.0 (replaced p n a.0) t a.1) ∙ replaced_lookup p c n a.0 a.2

pub replaced_twice : (p : List Step) (c m n t : Tree) → lookup p t ≡ Ok c → replaced p m (replaced p n t) ≡ replaced p m t
replaced_twice [] c m n t h = refl
replaced_twice (s ∷ p) c m n t h =
    let a = and_then_ok (lookup_step s t) (lookup p) c h in
    ap (replaced (s ∷ p) m) (replaced_step s p n t a.0 a.1)
    ∙ replaced_step s p m (step_replaced s (replaced p n a.0) t) (replaced p n a.0) (step_replaced_lookup s a.0 (replaced p n a.0) t a.1)
    ∙ step_replaced_twice s (replaced p m (replaced p n a.0)) (replaced p n a.0) t
    ∙ ap (λ x. step_replaced s x t) (replaced_twice p c m n a.0 a.2)
    ∙ sym (replaced_step s p m t a.0 a.1)

-- ---- what a change at the end of a path makes

-- a change at the end of a path: the old value there, and the new one
pub record PathChange (p : List Step) (f : Tree → Changed Tree) (t u : Tree) : Type 0 where
  pub old : Tree
  pub new : Tree
  pub stood : lookup p t ≡ Ok old
  pub made : f old ≡ Ok new
  pub whole : replaced p new t ≡ u

pub path_change : (p : List Step) (f : Tree → Changed Tree) (t u : Tree) → at_path p f t ≡ Ok u → PathChange p f t u
path_change p f t u h =
    let a = and_then_ok (lookup p t) (λ c. within (λ n. replaced p n t) (f c)) u (sym (at_path_lookup p f t) ∙ h) in
    let b = within_ok_parts (f a.0) (λ n. replaced p n t) u a.2 in
    record { old = a.0; new = b.0; stood = a.1; made = b.1; whole = b.2 }

-- the value at the path after the change
pub lookup_changed : (p : List Step) (f : Tree → Changed Tree) (t u : Tree) (s : PathChange p f t u) → lookup p u ≡ Ok s.new
lookup_changed p f t u s = ap (lookup p) (sym s.whole) ∙ replaced_lookup p s.old s.new t s.stood

-- a change of the value at the path is a change at the path
pub at_path_ok : (p : List Step) (f : Tree → Changed Tree) (t old new : Tree) → lookup p t ≡ Ok old → f old ≡ Ok new → at_path p f t ≡ Ok (replaced p new t)
at_path_ok p f t old new h g = at_path_lookup p f t ∙ ap (λ r. and_then r (λ c. within (λ n. replaced p n t) (f c))) h ∙ ap (within (λ n. replaced p n t)) g

-- another change to the new value makes the same whole
pub at_path_again : (p : List Step) (f g : Tree → Changed Tree) (t u : Tree) (s : PathChange p f t u) → g s.old ≡ Ok s.new → at_path p g t ≡ Ok u
at_path_again p f g t u s h = at_path_ok p g t s.old s.new s.stood h ∙ ap Ok s.whole

-- a change back to the old value makes the old whole
pub at_path_back : (p : List Step) (f g : Tree → Changed Tree) (t u : Tree) (s : PathChange p f t u) → g s.new ≡ Ok s.old → at_path p g u ≡ Ok t
at_path_back p f g t u s h =
    at_path_ok p g u s.new s.old (lookup_changed p f t u s) h ∙ ap (λ x. Ok (replaced p s.old x)) (sym s.whole) ∙ ap Ok (replaced_twice p s.old s.old s.new t s.stood ∙ replaced_same p s.old t s.stood)

-- ---- paths one after the other

pub lookup_append : (p q : List Step) (t : Tree) → lookup (p ++ q) t ≡ and_then (lookup p t) (lookup q)
lookup_append [] q t = refl
lookup_append (s ∷ p) q t = by (lookup_step s t) (λ c. lookup_append p q c)
  where
    by : (r : Changed Tree) → ((c : Tree) → lookup (p ++ q) c ≡ and_then (lookup p c) (lookup q)) → and_then r (lookup (p ++ q)) ≡ and_then (and_then r (lookup p)) (lookup q)
    by (Ok c) h = h c
    by (Err e) h = refl

pub at_path_append : (p q : List Step) (f : Tree → Changed Tree) (t : Tree) → at_path (p ++ q) f t ≡ at_path p (at_path q f) t
at_path_append [] q f t = refl
at_path_append (s ∷ p) q f t = at_path_step s (p ++ q) f t ∙ by (lookup_step s t) (λ c. at_path_append p q f c) ∙ sym (at_path_step s p (at_path q f) t)
  where
    by : (r : Changed Tree) → ((c : Tree) → at_path (p ++ q) f c ≡ at_path p (at_path q f) c)
        → and_then r (λ c. within (λ n. step_replaced s n t) (at_path (p ++ q) f c)) ≡ and_then r (λ c. within (λ n. step_replaced s n t) (at_path p (at_path q f) c))
    by (Ok c) h = ap (within (λ n. step_replaced s n t)) (h c)
    by (Err e) h = refl
