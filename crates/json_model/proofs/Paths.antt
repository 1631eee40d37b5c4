-- What a change at a path makes of the trees there and elsewhere.
use Rattle.std.proofs.Common.{◌≡◌, ◌≢◌, ℕ, zero, suc, List, [], ◌∷◌, ◌++◌, Bool, true, false, cond, Option, Some, None, slice_get, Result, Ok, Err, refl, sym, ap, ◌∙◌, subst, bytes_eq}
use Rattle.std.specs.Option.{option_and_then}
use Rattle.json_grammar.specs.Tree.{Tree, list, pairs, Trees, no_trees, tree_and, trees_list, Pairs, no_pairs, pair_and}
use Rattle.json_model.specs.Sort.{values_of}
use Rattle.json_model.specs.Edit.{Step, key_step, index_step, set_at, insert_at, push_at, remove_at, Changed, EditRefusal, not_found, type_unmatched, within, at_key, at_index, at_path, on_pairs, on_list, inserted, pushed, removed}
use Rattle.json_model.specs.Places.{part_of, part_at}
use Rattle.json_model.specs.Laws.{ChangesThere, NothingThere, ElseStays, ElseStaysAfterChange}
use Rattle.json_model.proofs.Members.{values_of-inserted, other_values}

same_some : {A : Type 0} {x y : A} → Some x ≡ Some y → x ≡ y
same_some e = cc

none_some : {A : Type 0} {x : A} → None ≡ Some x → ⊥
none_some e = cc

same_ok : {A : Type 0} {x y : A} → ◌≡◌ {A = Changed A} (Ok x) (Ok y) → x ≡ y
same_ok e = cc

err_ok : {A : Type 0} {e : EditRefusal} {x : A} → ◌≡◌ {A = Changed A} (Err e) (Ok x) → ⊥
err_ok e = cc

-- ---- elements

-- the elements with w in the place of the one of the index
with_element : ℕ → Tree → Trees → Trees
with_element i w no_trees = no_trees
with_element zero w (tree_and t ts) = tree_and w ts
with_element (suc i) w (tree_and t ts) = tree_and t (with_element i w ts)

element_changed : (i : ℕ) (f : Tree → Changed Tree) (ts : Trees) (u : Tree) → slice_get (trees_list ts) i ≡ Some u → at_index i f ts ≡ within (λ w. with_element i w ts) (f u)
unfolding with_element
element_changed i f no_trees u h = absurd (none_some h)
element_changed zero f (tree_and t ts) u h = ap (λ v. within (λ w. tree_and w ts) (f v)) (same_some h)
element_changed (suc i) f (tree_and t ts) u h = ap (within (λ us. tree_and t us)) (element_changed i f ts u h) ∙ twice (f u)
  where
    twice : (r : Changed Tree) → within (λ us. tree_and t us) (within (λ w. with_element i w ts) r) ≡ within (λ w. tree_and t (with_element i w ts)) r
    twice (Ok w) = refl
    twice (Err e) = refl

no_element : (i : ℕ) (f : Tree → Changed Tree) (ts : Trees) → slice_get (trees_list ts) i ≡ None → at_index i f ts ≡ Err not_found
no_element i f no_trees h = refl
no_element zero f (tree_and t ts) h = absurd (none_some (sym h))
no_element (suc i) f (tree_and t ts) h = ap (within (λ us. tree_and t us)) (no_element i f ts h)

element_there : (i : ℕ) (w : Tree) (ts : Trees) (u : Tree) → slice_get (trees_list ts) i ≡ Some u → slice_get (trees_list (with_element i w ts)) i ≡ Some w
unfolding with_element
element_there i w no_trees u h = absurd (none_some h)
element_there zero w (tree_and t ts) u h = refl
element_there (suc i) w (tree_and t ts) u h = element_there i w ts u h

other_element : (i j : ℕ) (w : Tree) (ts : Trees) → i ≢ j → slice_get (trees_list (with_element i w ts)) j ≡ slice_get (trees_list ts) j
unfolding with_element
other_element i j w no_trees n = refl
other_element zero zero w (tree_and t ts) n = absurd (n refl)
other_element zero (suc j) w (tree_and t ts) n = refl
other_element (suc i) zero w (tree_and t ts) n = refl
other_element (suc i) (suc j) w (tree_and t ts) n = other_element i j w ts (λ e. n (ap suc e))

-- ---- members

key_changed : (k : List ℕ) (f : Tree → Changed Tree) (ps : Pairs) (u : Tree) → slice_get (values_of k ps) 0 ≡ Some u → at_key k f ps ≡ within (λ w. inserted k w ps) (f u)
key_changed k f no_pairs u h = absurd (none_some h)
key_changed k f (pair_and n t ps) u h = by (bytes_eq n k) h (key_changed k f ps u)
  where
    twice : (r : Changed Tree) → within (λ qs. pair_and n t qs) (within (λ w. inserted k w ps) r) ≡ within (λ w. pair_and n t (inserted k w ps)) r
    twice (Ok w) = refl
    twice (Err e) = refl

    by : (b : Bool) → slice_get (cond b (t ∷ values_of k ps) (values_of k ps)) 0 ≡ Some u → (slice_get (values_of k ps) 0 ≡ Some u → at_key k f ps ≡ within (λ w. inserted k w ps) (f u))
        → cond b (within (λ v. pair_and n v ps) (f t)) (within (λ qs. pair_and n t qs) (at_key k f ps)) ≡ within (λ w. cond b (pair_and n w ps) (pair_and n t (inserted k w ps))) (f u)
    by true e i = ap (λ v. within (λ w. pair_and n w ps) (f v)) (same_some e)
    by false e i = ap (within (λ qs. pair_and n t qs)) (i e) ∙ twice (f u)

no_member : (k : List ℕ) (f : Tree → Changed Tree) (ps : Pairs) → slice_get (values_of k ps) 0 ≡ None → at_key k f ps ≡ Err not_found
no_member k f no_pairs h = refl
no_member k f (pair_and n t ps) h = by (bytes_eq n k) h (no_member k f ps)
  where
    by : (b : Bool) → slice_get (cond b (t ∷ values_of k ps) (values_of k ps)) 0 ≡ None → (slice_get (values_of k ps) 0 ≡ None → at_key k f ps ≡ Err not_found)
        → cond b (within (λ v. pair_and n v ps) (f t)) (within (λ qs. pair_and n t qs) (at_key k f ps)) ≡ Err not_found
    by true e i = absurd (none_some (sym e))
    by false e i = ap (within (λ qs. pair_and n t qs)) (i e)

-- ---- one step

-- the tree with w in the place to which the step leads
with_part : Step → Tree → Tree → Tree
with_part (key_step k) w (pairs ps) = pairs (inserted k w ps)
with_part (index_step i) w (list ts) = list (with_element i w ts)
with_part s w t = t

part_changed : (s : Step) (p : List Step) (f : Tree → Changed Tree) (t u : Tree) → part_of s t ≡ Some u → at_path (s ∷ p) f t ≡ within (λ w. with_part s w t) (at_path p f u)
unfolding with_part
part_changed (key_step k) p f (pairs ps) u h = ap (within pairs) (key_changed k (at_path p f) ps u h) ∙ twice (at_path p f u)
  where
    twice : (r : Changed Tree) → within pairs (within (λ w. inserted k w ps) r) ≡ within (λ w. pairs (inserted k w ps)) r
    twice (Ok w) = refl
    twice (Err e) = refl
part_changed (index_step i) p f (list ts) u h = ap (within list) (element_changed i (at_path p f) ts u h) ∙ twice (at_path p f u)
  where
    twice : (r : Changed Tree) → within list (within (λ w. with_element i w ts) r) ≡ within (λ w. list (with_element i w ts)) r
    twice (Ok w) = refl
    twice (Err e) = refl
part_changed s p f t u h = absurd (none_some h)

no_part : (s : Step) (t : Tree) → part_of s t ≡ None → (e : EditRefusal) × ((p : List Step) (f : Tree → Changed Tree) → at_path (s ∷ p) f t ≡ Err e)
no_part (key_step k) (pairs ps) h = (not_found, λ p f. ap (within pairs) (no_member k (at_path p f) ps h))
no_part (index_step i) (list ts) h = (not_found, λ p f. ap (within list) (no_element i (at_path p f) ts h))
no_part (key_step k) t h = (type_unmatched, λ p f. refl)
no_part (index_step i) t h = (type_unmatched, λ p f. refl)

part_there : (s : Step) (t u w : Tree) → part_of s t ≡ Some u → part_of s (with_part s w t) ≡ Some w
unfolding with_part
part_there (key_step k) (pairs ps) u w h = ap (λ vs. slice_get vs 0) (values_of-inserted k w ps)
part_there (index_step i) (list ts) u w h = element_there i w ts u h
part_there s t u w h = absurd (none_some h)

other_part : (s r : Step) (t w : Tree) → s ≢ r → part_of r (with_part s w t) ≡ part_of r t
unfolding with_part
other_part (key_step k) (key_step n) (pairs ps) w h = ap (λ vs. slice_get vs 0) (other_values k w ps n (λ e. h (ap key_step (sym e))))
other_part (key_step k) (index_step j) (pairs ps) w h = refl
other_part (index_step i) (index_step j) (list ts) w h = other_element i j w ts (λ e. h (ap index_step e))
other_part (index_step i) (key_step n) (list ts) w h = refl
other_part s r t w h = refl

-- ---- the law of a place

-- the change is one of u, at the end of the path
abbrev There : List Step → (Tree → Changed Tree) → Tree → Tree → Type 0
There p f t u = ((v : Tree) → f u ≡ Ok v → (t' : Tree) × (at_path p f t ≡ Ok t') × (part_at p t' ≡ Some v)) × ((e : EditRefusal) → f u ≡ Err e → at_path p f t ≡ Err e)

pub changes_there : ChangesThere
changes_there [] f t u h = let e : t ≡ u = same_some h in ((λ v k. (v, ap f e ∙ k, refl)), (λ r k. ap f e ∙ k))
changes_there (s ∷ p) f t u h = by (part_of s t) refl (λ x. changes_there p f x u) h
  where
    there : (x : Tree) → part_of s t ≡ Some x → There p f x u → There (s ∷ p) f t u
    there x g (ok, err) = (
      (λ v k. let y = ok v k in
          (with_part s y.0 t, part_changed s p f t x g ∙ ap (within (λ w. with_part s w t)) y.1, ap (option_and_then (part_at p)) (part_there s t x y.0 g) ∙ y.2)),
      (λ e k. part_changed s p f t x g ∙ ap (within (λ w. with_part s w t)) (err e k)),
    )

    by : (o : Option Tree) → part_of s t ≡ o → ((x : Tree) → part_at p x ≡ Some u → There p f x u) → option_and_then (part_at p) o ≡ Some u → There (s ∷ p) f t u
    by None g i h = absurd (none_some h)
    by (Some x) g i h = there x g (i x h)

-- each change there is refused, and each by one refusal
abbrev Refused : List Step → Tree → Type 0
Refused p t = (e : EditRefusal) × ((f : Tree → Changed Tree) → at_path p f t ≡ Err e)

pub nothing_there : NothingThere
nothing_there [] t h = absurd (none_some (sym h))
nothing_there (s ∷ p) t h = by (part_of s t) refl (nothing_there p) h
  where
    behind : (x : Tree) → part_of s t ≡ Some x → Refused p x → Refused (s ∷ p) t
    behind x g (e, k) = (e, λ f. part_changed s p f t x g ∙ ap (within (λ w. with_part s w t)) (k f))

    by : (o : Option Tree) → part_of s t ≡ o → ((x : Tree) → part_at p x ≡ None → Refused p x) → option_and_then (part_at p) o ≡ None → Refused (s ∷ p) t
    by None g i h = let n = no_part s t g in (n.0, λ f. n.1 p f)
    by (Some x) g i h = behind x g (i x h)

-- ---- all else

-- what a step makes of a tree is the tree with the part changed
abbrev Stepped : Step → List Step → (Tree → Changed Tree) → Tree → Tree → Type 0
Stepped s p f t t' = (x : Tree) × (y : Tree) × (part_of s t ≡ Some x) × (at_path p f x ≡ Ok y) × (t' ≡ with_part s y t)

stepped : (s : Step) (p : List Step) (f : Tree → Changed Tree) (t t' : Tree) → at_path (s ∷ p) f t ≡ Ok t' → Stepped s p f t t'
stepped s p f t t' h = by (part_of s t) refl
  where
    made : (x : Tree) → part_of s t ≡ Some x → (r : Changed Tree) → at_path p f x ≡ r → within (λ w. with_part s w t) r ≡ Ok t' → Stepped s p f t t'
    made x g (Ok y) k e = (x, y, g, k, sym (same_ok e))
    made x g (Err r) k e = absurd (err_ok e)

    by : (o : Option Tree) → part_of s t ≡ o → Stepped s p f t t'
    by None g = let n = no_part s t g in absurd (err_ok (sym (n.1 p f) ∙ h))
    by (Some x) g = made x g (at_path p f x) refl (sym (part_changed s p f t x g) ∙ h)

else_along : (c : List Step) (s r : Step) (p q : List Step) (f : Tree → Changed Tree) (t t' : Tree) → at_path (c ++ s ∷ p) f t ≡ Ok t' → s ≢ r → part_at (c ++ r ∷ q) t' ≡ part_at (c ++ r ∷ q) t
else_along [] s r p q f t t' h n = by (stepped s p f t t' h)
  where
    by : Stepped s p f t t' → part_at (r ∷ q) t' ≡ part_at (r ∷ q) t
    by (x, y, g, k, e) = ap (option_and_then (part_at q)) (ap (part_of r) e ∙ other_part s r t y n)
else_along (d ∷ c) s r p q f t t' h n = by (stepped d (c ++ s ∷ p) f t t' h) (λ x y k. else_along c s r p q f x y k n)
  where
    by : Stepped d (c ++ s ∷ p) f t t' → ((x y : Tree) → at_path (c ++ s ∷ p) f x ≡ Ok y → part_at (c ++ r ∷ q) y ≡ part_at (c ++ r ∷ q) x) → part_at (d ∷ (c ++ r ∷ q)) t' ≡ part_at (d ∷ (c ++ r ∷ q)) t
    by (x, y, g, k, e) i =
        ap (option_and_then (part_at (c ++ r ∷ q))) (ap (part_of d) e ∙ part_there d t x y g) ∙ i x y k ∙ sym (ap (option_and_then (part_at (c ++ r ∷ q))) g)

pub else_stays_after_change : ElseStaysAfterChange
else_stays_after_change p q f t t' h a =
    subst (λ q. part_at q t' ≡ part_at q t) (sym a.q_is) (else_along a.common a.step a.other a.rest a.other_rest f t t' (subst (λ p. at_path p f t ≡ Ok t') a.p_is h) a.apart)

-- the answer of one edit is that of its change
once : (r : Changed Tree) (t' : Tree) → ◌≡◌ {A = Result Tree (ℕ × EditRefusal)} (elim r [ Ok u ↦ Ok u | Err e ↦ Err (0, e) ]) (Ok t') → r ≡ Ok t'
once (Ok u) t' h = cc
once (Err e) t' h = cc

pub else_stays : ElseStays
else_stays (set_at p u) t t' q h a = else_stays_after_change p q (λ _. Ok u) t t' (once _ t' h) a
else_stays (insert_at p k u) t t' q h a = else_stays_after_change p q (on_pairs (λ ps. Ok (inserted k u ps))) t t' (once _ t' h) a
else_stays (push_at p u) t t' q h a = else_stays_after_change p q (on_list (λ ts. Ok (pushed u ts))) t t' (once _ t' h) a
else_stays (remove_at p s) t t' q h a = else_stays_after_change p q (removed s) t t' (once _ t' h) a
