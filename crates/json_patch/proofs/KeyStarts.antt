-- Starts of keys, and what a search from there finds.
use Rattle.std.proofs.Common.{◌≡◌, ℕ, zero, suc, ◌+◌, ◌-◌, ◌≤◌, ◌<◌, List, [], ◌∷◌, ◌++◌, length, get_or, set, map, filter, take, drop, Bool, true, false, cond, refl, sym, ap, ◌∙◌, subst, arith, bytes_eq}
use Rattle.std.proofs.lemmas.List.{length-take-le, take_more, take_rest, drop-map}
use Rattle.json_grammar.specs.Tree.{Tree, Pairs, no_pairs, pair_and, list_pairs}
use Rattle.json_model.specs.Edit.{has_key, without_key}
use Rattle.json_model.proofs.Members.{same_key}
use Rattle.json_patch.specs.KeyIndex.{StartsAtMost, AreStarts}
use Rattle.json_value.specs.Denotes.{text_bytes, pair_of}
use Rattle.json_value.specs.FirstMember.{IsFirstOf}
use Rattle.json_value.specs.Rows.{keyed_so}
use Rattle.json_value.specs.declared.pair.Keyed.{Keyed}
use Rattle.json_value.specs.declared.value.Value.{Value}

true_false : true ≡ false → ⊥
true_false e = cc

-- ---- starts

pub at_more : (starts k : List ℕ) (m n : ℕ) → StartsAtMost starts k m → m ≤ n → StartsAtMost starts k n
at_more starts k m n h le = record { first = omega arith; second = omega arith }

-- no slots
all_from_none : (n : ℕ) (ps : List (Keyed Value)) → AreStarts [] n ps
all_from_none n [] = tt
all_from_none n (p ∷ ps) = (record { first = omega arith; second = omega arith }, all_from_none (suc n) ps)

pub no_starts : (starts : List ℕ) (n : ℕ) (ps : List (Keyed Value)) → starts ≡ [] → AreStarts starts n ps
no_starts starts n ps e = subst (λ (xs : List ℕ). AreStarts xs n ps) (sym e) (all_from_none n ps)

-- other slots, for the same keys
pub starts_kept : (old new : List ℕ) → ((k : List ℕ) (n : ℕ) → StartsAtMost old k n → StartsAtMost new k n) → (n : ℕ) (ps : List (Keyed Value)) → AreStarts old n ps → AreStarts new n ps
starts_kept old new f n [] h = tt
starts_kept old new f n (p ∷ ps) h = (f (text_bytes p.key) n h.0, starts_kept old new f (suc n) ps h.1)

-- a member more
pub starts_pushed : (starts : List ℕ) (n : ℕ) (ps : List (Keyed Value)) (p : Keyed Value) → AreStarts starts n ps → StartsAtMost starts (text_bytes p.key) (length ps + n) → AreStarts starts n (ps ++ p ∷ [])
starts_pushed starts n [] p h g = (at_more starts (text_bytes p.key) (0 + n) n g (omega arith), tt)
starts_pushed starts n (q ∷ ps) p h g = (h.0, starts_pushed starts (suc n) ps p h.1 (at_more starts (text_bytes p.key) (suc (length ps) + n) (length ps + suc n) g (omega arith)))

pub starts_more : (old new : List ℕ) (ps : List (Keyed Value)) (i m : ℕ) (p : Keyed Value) → i < length ps → p ≡ get_or ps i p → ((k : List ℕ) (n : ℕ) → StartsAtMost old k n → StartsAtMost new k n)
    → StartsAtMost new (text_bytes p.key) m → m ≤ i → AreStarts old 0 (take i ps) → AreStarts new 0 (take (i + 1) ps)
starts_more old new ps i m p low is f at le h =
    let len : length (take i ps) ≡ i = length-take-le i ps (omega arith) in
    let here = at_more new (text_bytes p.key) m (length (take i ps) + 0) at (omega arith) in
    subst (λ (qs : List (Keyed Value)). AreStarts new 0 qs) (ap (λ (q : Keyed Value). take i ps ++ q ∷ []) is ∙ sym (take_more ps i p low)) (starts_pushed new 0 (take i ps) p (starts_kept old new f 0 (take i ps) h) here)

pub starts_appended : (old new : List ℕ) (n m : ℕ) (ps qs : List (Keyed Value)) (p : Keyed Value) (k : List ℕ) → qs ≡ ps ++ p ∷ [] → text_bytes p.key ≡ k → m ≡ n
    → ((j : List ℕ) (i : ℕ) → StartsAtMost old j i → StartsAtMost new j i) → StartsAtMost new k (length ps + n) → AreStarts old n ps → AreStarts new m qs
starts_appended old new n m ps qs p k more same e f at h =
    let here = subst (λ (j : List ℕ). StartsAtMost new j (length ps + n)) (sym same) at in
    let all = starts_pushed new n ps p (starts_kept old new f n ps h) here in
    subst (λ (i : ℕ). AreStarts new i qs) (sym e) (subst (λ (rs : List (Keyed Value)). AreStarts new n rs) (sym more) all)

-- another value of a member
pub starts_set : (starts : List ℕ) (n : ℕ) (ps : List (Keyed Value)) (i : ℕ) (p : Keyed Value) (u : Value) → p ≡ get_or ps i p → AreStarts starts n ps → AreStarts starts n (set ps i (keyed_so p.key u))
starts_set starts n [] i p u is h = tt
starts_set starts n (q ∷ ps) zero p u is h = (subst (λ (r : Keyed Value). StartsAtMost starts (text_bytes r.key) n) (sym is) h.0, h.1)
starts_set starts n (q ∷ ps) (suc i) p u is h = (h.0, starts_set starts (suc n) ps i p u is h.1)

fewer : (f : Keyed Value → Bool) (ps : List (Keyed Value)) → length (filter f ps) ≤ length ps
fewer f [] = omega arith
fewer f (p ∷ ps) = by (f p) (fewer f ps)
  where
    by : (b : Bool) → length (filter f ps) ≤ length ps → length (cond b (p ∷ filter f ps) (filter f ps)) ≤ suc (length ps)
    by true h = omega arith
    by false h = omega arith

-- members removed
pub starts_filtered : (starts : List ℕ) (f : Keyed Value → Bool) (n m : ℕ) (ps : List (Keyed Value)) → length ps + n ≤ length (filter f ps) + m → AreStarts starts n ps → AreStarts starts m (filter f ps)
starts_filtered starts f n m [] le h = tt
starts_filtered starts f n m (p ∷ ps) le h = by (f p) le (λ i j l. starts_filtered starts f i j ps l)
  where
    by : (b : Bool) → suc (length ps) + n ≤ length (cond b (p ∷ filter f ps) (filter f ps)) + m
        → ((i j : ℕ) → length ps + i ≤ length (filter f ps) + j → AreStarts starts i ps → AreStarts starts j (filter f ps))
        → AreStarts starts m (cond b (p ∷ filter f ps) (filter f ps))
    by true g rest = (at_more starts (text_bytes p.key) n m h.0 (omega (arith, fewer f ps)), rest (suc n) (suc m) (omega arith) h.1)
    by false g rest = rest (suc n) m (omega arith) h.1

pub starts_removed : (starts : List ℕ) (f : Keyed Value → Bool) (n m : ℕ) (ps qs : List (Keyed Value)) → qs ≡ filter f ps → length ps + n ≤ length qs + m → AreStarts starts n ps → AreStarts starts m qs
starts_removed starts f n m ps qs e le h = subst (λ (rs : List (Keyed Value)). AreStarts starts m rs) (sym e) (starts_filtered starts f n m ps (subst (λ (rs : List (Keyed Value)). length ps + n ≤ length rs + m) e le) h)

-- ---- a search

-- no member before a start of the key has it
pub none_before : (starts k : List ℕ) (n s : ℕ) (ps : List (Keyed Value)) → AreStarts starts n ps → ((i : ℕ) → StartsAtMost starts k (i + n) → s ≤ i) → has_key k (list_pairs (take s (map pair_of ps))) ≡ false
none_before starts k n zero ps h least = refl
none_before starts k n (suc s) [] h least = refl
none_before starts k n (suc s) (p ∷ ps) h least = by (bytes_eq (text_bytes p.key) k) refl (none_before starts k (suc n) s ps h.1 later)
  where
    later : (i : ℕ) → StartsAtMost starts k (i + suc n) → s ≤ i
    later i a = let le : suc s ≤ suc i = least (suc i) (at_more starts k (i + suc n) (suc i + n) a (omega arith)) in omega arith

    by : (b : Bool) → bytes_eq (text_bytes p.key) k ≡ b → has_key k (list_pairs (take s (map pair_of ps))) ≡ false → cond b true (has_key k (list_pairs (take s (map pair_of ps)))) ≡ false
    by true e rest =
        let here : StartsAtMost starts k n = subst (λ (m : List ℕ). StartsAtMost starts m n) (same_key (text_bytes p.key) k e) h.0 in
        let low : suc s ≤ 0 = least 0 (at_more starts k n (0 + n) here (omega arith)) in
        absurd (omega arith)
    by false e rest = rest

-- the first of the members from s on is the first of all
pub first_from : (k : List ℕ) (s i : ℕ) (qs : List (List ℕ × Tree)) → has_key k (list_pairs (take s qs)) ≡ false → IsFirstOf k (drop s qs) i → IsFirstOf k qs (s + i)
first_from k zero i qs h first = subst (λ n. IsFirstOf k qs n) (omega arith) first
first_from k (suc s) i [] h first = let low : i < 0 = first.within in absurd (omega arith)
first_from k (suc s) i (q ∷ qs) h first = by (bytes_eq q.0 k) refl h (λ g. first_from k s i qs g first)
  where
    by : (b : Bool) → bytes_eq q.0 k ≡ b → cond b true (has_key k (list_pairs (take s qs))) ≡ false → (has_key k (list_pairs (take s qs)) ≡ false → IsFirstOf k qs (s + i)) → IsFirstOf k (q ∷ qs) (suc s + i)
    by true e g rest = absurd (true_false g)
    by false e g rest =
        let more = rest g in
        let moved : IsFirstOf k (q ∷ qs) (suc (s + i)) = record {
          within = let w : s + i < length qs = more.within in omega arith;
          here = more.here;
          before = ap (λ b. cond b true (has_key k (list_pairs (take (s + i) qs)))) e ∙ more.before;
        } in
        subst (λ n. IsFirstOf k (q ∷ qs) n) (omega arith) moved

pub none_from : (k : List ℕ) (s : ℕ) (qs : List (List ℕ × Tree)) → has_key k (list_pairs (take s qs)) ≡ false → has_key k (list_pairs (drop s qs)) ≡ false → has_key k (list_pairs qs) ≡ false
none_from k zero qs h g = g
none_from k (suc s) [] h g = refl
none_from k (suc s) (q ∷ qs) h g = by (bytes_eq q.0 k) h (λ e. none_from k s qs e g)
  where
    by : (b : Bool) → cond b true (has_key k (list_pairs (take s qs))) ≡ false → (has_key k (list_pairs (take s qs)) ≡ false → has_key k (list_pairs qs) ≡ false) → cond b true (has_key k (list_pairs qs)) ≡ false
    by true e rest = absurd (true_false e)
    by false e rest = rest e

-- so of the members that a slice from s on has
module _ (starts k : List ℕ) (n s : ℕ) (ps : List (Keyed Value)) (h : AreStarts starts n ps) (least : (i : ℕ) → StartsAtMost starts k (i + n) → s ≤ i) where
  rest_pairs : map pair_of (take (length ps - s) (drop s ps)) ≡ drop s (map pair_of ps)
  rest_pairs = ap (map pair_of) (take_rest ps s) ∙ sym (drop-map pair_of s ps)

  pub found_from : (i : ℕ) → IsFirstOf k (map pair_of (take (length ps - s) (drop s ps))) i → IsFirstOf k (map pair_of ps) (s + i)
  found_from i first = first_from k s i (map pair_of ps) (none_before starts k n s ps h least) (subst (λ (qs : List (List ℕ × Tree)). IsFirstOf k qs i) rest_pairs first)

  pub not_found_from : has_key k (list_pairs (map pair_of (take (length ps - s) (drop s ps)))) ≡ false → has_key k (list_pairs (map pair_of ps)) ≡ false
  not_found_from g = none_from k s (map pair_of ps) (none_before starts k n s ps h least) (ap (λ (qs : List (List ℕ × Tree)). has_key k (list_pairs qs)) (sym rest_pairs) ∙ g)

-- ---- a removal

pub none_removed : (k : List ℕ) (ps : Pairs) → has_key k ps ≡ false → without_key k ps ≡ ps
none_removed k no_pairs h = refl
none_removed k (pair_and n t ps) h = by (bytes_eq n k) h (none_removed k ps)
  where
    by : (b : Bool) → cond b true (has_key k ps) ≡ false → (has_key k ps ≡ false → without_key k ps ≡ ps) → cond b (without_key k ps) (pair_and n t (without_key k ps)) ≡ pair_and n t ps
    by true e rest = absurd (true_false e)
    by false e rest = ap (λ qs. pair_and n t qs) (rest e)
