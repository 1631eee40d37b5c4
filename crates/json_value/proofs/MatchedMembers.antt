-- Objects whose members match one by one.
use Rattle.std.proofs.Common.{◌≡◌, ◌≤◌, Bool, true, false, ◌&&◌, not, is_some, cond, ℕ, zero, suc, ◌+◌, List, [], ◌∷◌, Option, Some, None, length, take, map, option_map, refl, sym, ap, ap₂, subst, ◌∙◌, arith}
use Rattle.std.specs.Prelude.{slice_get, bytes_eq}
use Rattle.std.specs.List.{list_all, list_any}
use Rattle.std.specs.Option.{option_eq}
use Rattle.std.proofs.lemmas.List.{take_all, take-map}
use Rattle.std.proofs.lemmas.Slice.Eq.{bytes_eq-Decides}
use Rattle.json_grammar.specs.Tree.{Tree, pairs, list_pairs}
use Rattle.json_model.specs.Same.{same}
use Rattle.json_value.specs.SameMembers.{value_at, keys_in, agree_at}
use Rattle.json_value.specs.Seen.{first_of}
use Rattle.json_value.proofs.SameViews.{key_of_pair, value_first, all_fail, has_own, members_same}

-- the same keys in the same order, with the same values
abbrev pub AreMatched : List (List ℕ × Tree) → List (List ℕ × Tree) → Type 0
AreMatched [] [] = Unit {0}
AreMatched (p ∷ ps) (q ∷ qs) = (p.0 ≡ q.0) × (same p.1 q.1 ≡ true) × AreMatched ps qs
AreMatched ps qs = ⊥

matched_keys : (ps qs : List (List ℕ × Tree)) → AreMatched ps qs → keys_in ps ≡ keys_in qs
matched_keys [] [] h = refl
matched_keys [] (q ∷ qs) h = absurd h
matched_keys (p ∷ ps) [] h = absurd h
matched_keys (p ∷ ps) (q ∷ qs) (e, s, h) = ap₂ (λ (k : List ℕ) (ks : List (List ℕ)). k ∷ ks) e (matched_keys ps qs h)

matched_more : (ps qs : List (List ℕ × Tree)) (i : ℕ) (k l : List ℕ) (t u : Tree) → AreMatched (take i ps) (take i qs) → slice_get ps i ≡ Some (k, t) → slice_get qs i ≡ Some (l, u) → k ≡ l → same t u ≡ true → AreMatched (take (suc i) ps) (take (suc i) qs)
matched_more [] qs i k l t u h e f s v = absurd (cc)
matched_more (p ∷ ps) [] i k l t u h e f s v = absurd (cc)
matched_more (p ∷ ps) (q ∷ qs) zero k l t u h e f s v =
    let is : p ≡ (k, t) = cc in let there : q ≡ (l, u) = cc in
    (ap (λ (x : List ℕ × Tree). x.0) is ∙ s ∙ sym (ap (λ (x : List ℕ × Tree). x.0) there), ap₂ same (ap (λ (x : List ℕ × Tree). x.1) is) (ap (λ (x : List ℕ × Tree). x.1) there) ∙ v, tt)
matched_more (p ∷ ps) (q ∷ qs) (suc i) k l t u (a, b, h) e f s v = (a, b, matched_more ps qs i k l t u h e f s v)

agree_here : (b : Bool) (k : List ℕ) (p q : List ℕ × Tree) (ps qs : List (List ℕ × Tree)) → same p.1 q.1 ≡ true → option_eq same (value_at k ps) (value_at k qs) ≡ true
    → option_eq same (option_map (λ x. x.1) (cond b (Some p) (first_of k ps))) (option_map (λ x. x.1) (cond b (Some q) (first_of k qs))) ≡ true
agree_here true k p q ps qs s h = s
agree_here false k p q ps qs s h = h

matched_agree : (ps qs : List (List ℕ × Tree)) → AreMatched ps qs → (k : List ℕ) → agree_at ps qs k ≡ true
matched_agree [] [] h k = refl
matched_agree [] (q ∷ qs) h k = absurd h
matched_agree (p ∷ ps) [] h k = absurd h
matched_agree (p ∷ ps) (q ∷ qs) (e, s, h) k =
    ap (λ (x : List ℕ). option_eq same (option_map (λ y. y.1) (cond (bytes_eq x k) (Some p) (first_of k ps))) (value_at k (q ∷ qs))) e
    ∙ agree_here (bytes_eq q.0 k) k p q ps qs s (matched_agree ps qs h k)

all_true : {X : Type 0} (f : X → Bool) (xs : List X) → ((x : X) → f x ≡ true) → list_all f xs ≡ true
all_true f [] h = refl
all_true f (x ∷ xs) h = ap₂ (λ a b. a && b) (h x) (all_true f xs h)

-- so the objects are the same
pub matched_same : (ps qs : List (List ℕ × Tree)) → length ps ≡ length qs → AreMatched ps qs → same (pairs (list_pairs ps)) (pairs (list_pairs qs)) ≡ true
matched_same ps qs n h =
    members_same ps qs true n (sym (all_true (agree_at ps qs) (keys_in ps) (matched_agree ps qs h)))
    ∙ ap (λ (ks : List (List ℕ)). list_all (λ k. is_some (first_of k ps)) ks) (sym (matched_keys ps qs h)) ∙ has_own ps

next : (i : ℕ) → suc i ≡ i + 1
next i = omega arith

-- one more on both sides
pub matched_next : (ps qs : List (List ℕ × Tree)) (i : ℕ) (k l : List ℕ) (t u : Tree) → AreMatched (take i ps) (take i qs) → slice_get ps i ≡ Some (k, t) → slice_get qs i ≡ Some (l, u) → k ≡ l → same t u ≡ true → AreMatched (take (i + 1) ps) (take (i + 1) qs)
matched_next ps qs i k l t u h e f s v = subst (λ (n : ℕ). AreMatched (take n ps) (take n qs)) (next i) (matched_more ps qs i k l t u h e f s v)

-- all of them
pub matched_whole : (ps qs : List (List ℕ × Tree)) (i : ℕ) → length ps ≤ i → length ps ≡ length qs → AreMatched (take i ps) (take i qs) → AreMatched ps qs
matched_whole ps qs i h n m =
    subst (λ (xs : List (List ℕ × Tree)). AreMatched xs qs) (take_all i ps h) (subst (λ (ys : List (List ℕ × Tree)). AreMatched (take i ps) ys) (take_all i qs (omega arith)) m)

-- after members that match, the first of a key has two values
pub differ_there : (ps qs : List (List ℕ × Tree)) (i : ℕ) (k l : List ℕ) (t u : Tree) → length ps ≡ length qs → AreMatched (take i ps) (take i qs) → slice_get ps i ≡ Some (k, t) → slice_get qs i ≡ Some (l, u) → k ≡ l → same t u ≡ false
    → list_any (λ m. bytes_eq m k) (take i (keys_in ps)) ≡ false → same (pairs (list_pairs ps)) (pairs (list_pairs qs)) ≡ false
differ_there ps qs i k l t u n h e f s v none =
    let there : slice_get qs i ≡ Some (k, u) = f ∙ ap (λ (m : List ℕ). Some (m, u)) (sym s) in
    let fronts : take i (keys_in qs) ≡ take i (keys_in ps) = take-map (λ (p : List ℕ × Tree). p.0) i qs ∙ sym (matched_keys (take i ps) (take i qs) h) ∙ sym (take-map (λ (p : List ℕ × Tree). p.0) i ps) in
    let none_there : list_any (λ m. bytes_eq m k) (take i (keys_in qs)) ≡ false = ap (list_any (λ m. bytes_eq m k)) fronts ∙ none in
    let apart : agree_at ps qs k ≡ false = ap₂ (option_eq same) (value_first ps i k t e none) (value_first qs i k u there none_there) ∙ v in
    members_same ps qs false n (sym (all_fail (agree_at ps qs) (keys_in ps) i k (key_of_pair ps i k t e) apart))

was_true : (r b : Bool) → r ≡ not b → r ≡ false → b ≡ true
was_true r true e f = refl
was_true r false e f = let both : true ≡ false = sym e ∙ f in absurd (cc)

-- keys that do not differ
pub equal_keys : (k l : List ℕ) (r : Bool) → r ≡ not (bytes_eq k l) → r ≡ false → k ≡ l
equal_keys k l r e f = (bytes_eq-Decides k l).0 (was_true r (bytes_eq k l) e f)
