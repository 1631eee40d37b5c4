-- Members that are put in turn: each key once, at its first place, with its last value.
use Rattle.std.proofs.Common.{◌≡◌, ℕ, List, Bool, true, false, cond, refl, sym, ap, ◌∙◌, subst, bytes_eq}
use Rattle.json_grammar.specs.Tree.{Tree, Pairs, no_pairs, pair_and, pairs_list}
use Rattle.json_model.specs.Edit.{inserted, without_key}
use Rattle.json_model.specs.Merged.{inserted_all, value_or, once}
use Rattle.json_model.proofs.Members.{same_key, key_itself}

other_way : (a b : List ℕ) → bytes_eq a b ≡ true → bytes_eq b a ≡ true
other_way a b e = subst (λ c. bytes_eq c a ≡ true) (same_key a b e) (key_itself a)

abbrev put : Pairs → Pairs → Pairs
put qs ps = inserted_all (pairs_list qs) ps

-- another key's value stays
other_value : (k n : List ℕ) (t : Tree) (ps : Pairs)
    → bytes_eq n k ≡ false
    → value_or k t (without_key n ps) ≡ value_or k t ps
other_value k n t no_pairs h = refl
other_value k n t (pair_and m w ps) h = by (bytes_eq m n) (bytes_eq m k) refl refl (other_value k n t ps h)
  where
    by : (a b : Bool)
        → bytes_eq m n ≡ a
        → bytes_eq m k ≡ b
        → value_or k t (without_key n ps) ≡ value_or k t ps
        → value_or k t (cond a (without_key n ps) (pair_and m w (without_key n ps))) ≡ cond b w (value_or k t ps)
    by true true e f i = let g : bytes_eq n k ≡ true = subst (λ c. bytes_eq c k ≡ true) (same_key m n e) f in absurd (cc)
    by true false e f i = i
    by false b e f i = ap (λ c. cond c w (value_or k t (without_key n ps))) f ∙ ap (λ v. cond b w v) i

-- the first member stays first
first_stays : (k : List ℕ) (t : Tree) (qs ps : Pairs)
    → put qs (pair_and k t ps) ≡ pair_and k (value_or k t (once qs)) (put (without_key k qs) ps)
first_stays k t no_pairs ps = refl
first_stays k t (pair_and n u qs) ps = by (bytes_eq k n) (bytes_eq n k) refl refl (first_stays k u qs ps) (first_stays k t qs (inserted n u ps))
  where
    by : (a b : Bool)
        → bytes_eq k n ≡ a
        → bytes_eq n k ≡ b
        → put qs (pair_and k u ps) ≡ pair_and k (value_or k u (once qs)) (put (without_key k qs) ps)
        → put qs (pair_and k t (inserted n u ps)) ≡ pair_and k (value_or k t (once qs)) (put (without_key k qs) (inserted n u ps))
        → put qs (cond a (pair_and k u ps) (pair_and k t (inserted n u ps))) ≡ pair_and k (cond b (value_or n u (once qs)) (value_or k t (without_key n (once qs)))) (put (cond b (without_key k qs) (pair_and n u (without_key k qs))) ps)
    by true true e f i j = i ∙ ap (λ m. pair_and k (value_or m u (once qs)) (put (without_key k qs) ps)) (same_key k n e)
    by true false e f i j = let g = other_way k n e in absurd (cc)
    by false true e f i j = let g = other_way n k f in absurd (cc)
    by false false e f i j = j ∙ ap (λ v. pair_and k v (put (without_key k qs) (inserted n u ps))) (sym (other_value k n t (once qs) f))

gone : (n : List ℕ) (u : Tree) (ps : Pairs) → without_key n (inserted n u ps) ≡ without_key n ps
gone n u no_pairs = ap (λ c. cond c no_pairs (pair_and n u no_pairs)) (key_itself n)
gone n u (pair_and j w ps) = by (bytes_eq j n) refl (gone n u ps)
  where
    by : (a : Bool)
        → bytes_eq j n ≡ a
        → without_key n (inserted n u ps) ≡ without_key n ps
        → without_key n (cond a (pair_and j u ps) (pair_and j w (inserted n u ps))) ≡ cond a (without_key n ps) (pair_and j w (without_key n ps))
    by true e i = ap (λ c. cond c (without_key n ps) (pair_and j u (without_key n ps))) e
    by false e i = ap (λ c. cond c (without_key n (inserted n u ps)) (pair_and j w (without_key n (inserted n u ps)))) e ∙ ap (pair_and j w) i

stays : (n m : List ℕ) (u : Tree) (ps : Pairs)
    → bytes_eq m n ≡ false
    → without_key n (inserted m u ps) ≡ inserted m u (without_key n ps)
stays n m u no_pairs h = ap (λ c. cond c no_pairs (pair_and m u no_pairs)) h
stays n m u (pair_and j w ps) h = by (bytes_eq j m) (bytes_eq j n) refl refl (stays n m u ps h)
  where
    by : (a b : Bool)
        → bytes_eq j m ≡ a
        → bytes_eq j n ≡ b
        → without_key n (inserted m u ps) ≡ inserted m u (without_key n ps)
        → without_key n (cond a (pair_and j u ps) (pair_and j w (inserted m u ps))) ≡ inserted m u (cond b (without_key n ps) (pair_and j w (without_key n ps)))
    by true true e f i = let g : bytes_eq m n ≡ true = subst (λ c. bytes_eq c n ≡ true) (same_key j m e) f in absurd (cc)
    by true false e f i = ap (λ c. cond c (without_key n ps) (pair_and j u (without_key n ps))) f ∙ ap (λ c. cond c (pair_and j u (without_key n ps)) (pair_and j w (inserted m u (without_key n ps)))) (sym e)
    by false true e f i = ap (λ c. cond c (without_key n (inserted m u ps)) (pair_and j w (without_key n (inserted m u ps)))) f ∙ i
    by false false e f i =
        ap (λ c. cond c (without_key n (inserted m u ps)) (pair_and j w (without_key n (inserted m u ps)))) f ∙ ap (pair_and j w) i
        ∙ ap (λ c. cond c (pair_and j u (without_key n ps)) (pair_and j w (inserted m u (without_key n ps)))) (sym e)

without_put : (n : List ℕ) (qs ps : Pairs)
    → without_key n (put qs ps) ≡ put (without_key n qs) (without_key n ps)
without_put n no_pairs ps = refl
without_put n (pair_and m u qs) ps = without_put n qs (inserted m u ps) ∙ by (bytes_eq m n) refl
  where
    by : (a : Bool)
        → bytes_eq m n ≡ a
        → put (without_key n qs) (without_key n (inserted m u ps)) ≡ put (cond a (without_key n qs) (pair_and m u (without_key n qs))) (without_key n ps)
    by true e = ap (put (without_key n qs)) (subst (λ c. without_key n (inserted c u ps) ≡ without_key n ps) (sym (same_key m n e)) (gone n u ps))
    by false e = ap (put (without_key n qs)) (stays n m u ps e)

-- to put the members in turn is to give each key once, at its first place, with its last value
pub once_put : (qs : Pairs) → inserted_all (pairs_list qs) no_pairs ≡ once qs
once_put no_pairs = refl
once_put (pair_and n u qs) = first_stays n u qs no_pairs ∙ ap (pair_and n (value_or n u (once qs))) (sym (without_put n qs no_pairs) ∙ ap (without_key n) (once_put qs))
