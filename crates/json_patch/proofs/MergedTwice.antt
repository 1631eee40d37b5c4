-- A patch merged twice makes the same as one merged once.
use Rattle.std.proofs.Common.{◌≡◌, ℕ, zero, suc, ◌+◌, ◌≤◌, ◌<◌, List, [], ◌∷◌, ◌++◌, length, drop, Bool, true, false, cond, ◌==◌, Option, Some, None, refl, sym, ap, ap₂, ◌∙◌, subst, subst₂, bytes_eq, ◌⊎◌, inl, inr, eq-eqb, arith}
use Rattle.std.specs.List.{list_all}
use Rattle.std.specs.Option.{option_eq}
use Rattle.std.proofs.lemmas.Bool.{and_from}
use Rattle.std.proofs.lemmas.Slice.Eq.{bytes_eq-Decides}
use Rattle.json_grammar.specs.Tree.{Tree, null, boolean, num, text, list, pairs, Pairs, no_pairs, pair_and}
use Rattle.json_model.specs.Edit.{inserted, without_key}
use Rattle.json_model.specs.Same.{keys, first_value, same, first_same}
use Rattle.json_model.specs.Sort.{values_of}
use Rattle.json_model.proofs.Equality.{same_itself, first_agree}
use Rattle.json_patch.specs.Merge.{members_or_none, is_null, merge_patched, pairs_merged}
use Rattle.json_patch.specs.Laws.{MergedTwiceSame}
use Rattle.json_patch.proofs.MergeLaws.{first_in, first_of_values, one_merged, values_one, key_itself}
use Rattle.json_value.specs.Steps.{tree_or_null}

-- ---- the values of one key

-- what a value of a patch makes of the values of its key
abbrev step : List Tree → Tree → List Tree
step vs v = cond (is_null v) [] (merge_patched (tree_or_null (first_in vs)) v ∷ drop 1 vs)

abbrev run : List Tree → List Tree → List Tree
run vs [] = vs
run vs (v ∷ qs) = run (step vs v) qs

values_inserted_same : (k : List ℕ) (u : Tree) (ps : Pairs) → values_of k (inserted k u ps) ≡ u ∷ drop 1 (values_of k ps)
values_inserted_same k u no_pairs = ap (λ b. cond b (u ∷ []) []) (key_itself k)
values_inserted_same k u (pair_and n t ps) = by (bytes_eq n k) refl (values_inserted_same k u ps)
  where
    by : (b : Bool) → bytes_eq n k ≡ b → values_of k (inserted k u ps) ≡ u ∷ drop 1 (values_of k ps)
        → values_of k (cond b (pair_and n u ps) (pair_and n t (inserted k u ps))) ≡ u ∷ drop 1 (cond b (t ∷ values_of k ps) (values_of k ps))
    by true e i = ap (λ b. cond b (u ∷ values_of k ps) (values_of k ps)) e
    by false e i = ap (λ b. cond b (t ∷ values_of k (inserted k u ps)) (values_of k (inserted k u ps))) e ∙ i

values_without_same : (k : List ℕ) (ps : Pairs) → values_of k (without_key k ps) ≡ []
values_without_same k no_pairs = refl
values_without_same k (pair_and n t ps) = by (bytes_eq n k) refl (values_without_same k ps)
  where
    by : (b : Bool) → bytes_eq n k ≡ b → values_of k (without_key k ps) ≡ [] → values_of k (cond b (without_key k ps) (pair_and n t (without_key k ps))) ≡ []
    by true e i = i
    by false e i = ap (λ b. cond b (t ∷ values_of k (without_key k ps)) (values_of k (without_key k ps))) e ∙ i

values_step : (k : List ℕ) (v : Tree) (ps : Pairs) → values_of k (one_merged k v ps) ≡ step (values_of k ps) v
values_step k v ps = by (is_null v) ∙ ap (λ o. cond (is_null v) [] (merge_patched (tree_or_null o) v ∷ drop 1 (values_of k ps))) (first_of_values k ps)
  where
    by : (b : Bool) → values_of k (cond b (without_key k ps) (inserted k (merge_patched (tree_or_null (first_value k ps)) v) ps)) ≡ cond b [] (merge_patched (tree_or_null (first_value k ps)) v ∷ drop 1 (values_of k ps))
    by true = values_without_same k ps
    by false = values_inserted_same k (merge_patched (tree_or_null (first_value k ps)) v) ps

values_run : (k : List ℕ) (ps qs : Pairs) → values_of k (pairs_merged ps qs) ≡ run (values_of k ps) (values_of k qs)
values_run k ps no_pairs = refl
values_run k ps (pair_and n v qs) = by (bytes_eq n k) refl (values_run k (one_merged n v ps) qs)
  where
    by : (b : Bool) → bytes_eq n k ≡ b → values_of k (pairs_merged (one_merged n v ps) qs) ≡ run (values_of k (one_merged n v ps)) (values_of k qs)
        → values_of k (pairs_merged (one_merged n v ps) qs) ≡ run (values_of k ps) (cond b (v ∷ values_of k qs) (values_of k qs))
    by true e i =
        let f : n ≡ k = (bytes_eq-Decides n k).0 e in
        i ∙ ap (λ m. run (values_of k (one_merged m v ps)) (values_of k qs)) f ∙ ap (λ vs. run vs (values_of k qs)) (values_step k v ps)
    by false e i = i ∙ ap (λ vs. run vs (values_of k qs)) (values_one n k v ps e)

-- ---- a run with a null forgets where it began, and one without puts a value first

-- what the values make of the first value
abbrev onto : Tree → List Tree → Tree
onto x [] = x
onto x (v ∷ qs) = onto (merge_patched x v) qs

abbrev has_null : List Tree → Bool
has_null [] = false
has_null (v ∷ qs) = cond (is_null v) true (has_null qs)

true_false : true ≡ false → ⊥
true_false e = cc

false_true : false ≡ true → ⊥
false_true e = cc

forgets : (vs ws qs : List Tree) → has_null qs ≡ true → run vs qs ≡ run ws qs
forgets vs ws [] h = absurd (false_true h)
forgets vs ws (v ∷ qs) h = by (is_null v) refl h (forgets (step vs v) (step ws v) qs)
  where
    by : (b : Bool) → is_null v ≡ b → cond b true (has_null qs) ≡ true → (has_null qs ≡ true → run (step vs v) qs ≡ run (step ws v) qs) → run (step vs v) qs ≡ run (step ws v) qs
    by true e h i =
        ap (λ b. run (cond b [] (merge_patched (tree_or_null (first_in vs)) v ∷ drop 1 vs)) qs) e ∙ sym (ap (λ b. run (cond b [] (merge_patched (tree_or_null (first_in ws)) v ∷ drop 1 ws)) qs) e)
    by false e h i = i h

null_parts : (v : Tree) (qs : List Tree) → has_null (v ∷ qs) ≡ false → (is_null v ≡ false) × (has_null qs ≡ false)
null_parts v qs h = by (is_null v) h
  where
    by : (b : Bool) → cond b true (has_null qs) ≡ false → (b ≡ false) × (has_null qs ≡ false)
    by true h = absurd (true_false h)
    by false h = (refl, h)

step_value : (vs : List Tree) (v : Tree) → is_null v ≡ false → step vs v ≡ merge_patched (tree_or_null (first_in vs)) v ∷ drop 1 vs
step_value vs v e = ap (λ b. cond b [] (merge_patched (tree_or_null (first_in vs)) v ∷ drop 1 vs)) e

run_after : (x : Tree) (tl qs : List Tree) → has_null qs ≡ false → run (x ∷ tl) qs ≡ onto x qs ∷ tl
run_after x tl [] h = refl
run_after x tl (v ∷ qs) h = let a = null_parts v qs h in ap (λ vs. run vs qs) (step_value (x ∷ tl) v a.0) ∙ run_after (merge_patched x v) tl qs a.1

run_value : (vs : List Tree) (v : Tree) (qs : List Tree) → has_null (v ∷ qs) ≡ false → run vs (v ∷ qs) ≡ onto (tree_or_null (first_in vs)) (v ∷ qs) ∷ drop 1 vs
run_value vs v qs h = let a = null_parts v qs h in ap (λ vs. run vs qs) (step_value vs v a.0) ∙ run_after (merge_patched (tree_or_null (first_in vs)) v) (drop 1 vs) qs a.1

-- ---- values that are objects are one object

abbrev is_object : Tree → Bool
is_object (pairs ps) = true
is_object _ = false

abbrev all_objects : List Tree → Bool
all_objects [] = true
all_objects (v ∷ qs) = cond (is_object v) (all_objects qs) false

no_object : (x y v : Tree) → is_object v ≡ false → merge_patched x v ≡ merge_patched y v
no_object x y null e = refl
no_object x y (boolean b) e = refl
no_object x y (num l) e = refl
no_object x y (text s) e = refl
no_object x y (list ts) e = refl
no_object x y (pairs ps) e = absurd (true_false e)

onto_same : (x y : Tree) (qs : List Tree) → all_objects qs ≡ false → onto x qs ≡ onto y qs
onto_same x y [] h = absurd (true_false h)
onto_same x y (v ∷ qs) h = by (is_object v) refl h (onto_same (merge_patched x v) (merge_patched y v) qs)
  where
    by : (b : Bool) → is_object v ≡ b → cond b (all_objects qs) false ≡ false → (all_objects qs ≡ false → onto (merge_patched x v) qs ≡ onto (merge_patched y v) qs) → onto (merge_patched x v) qs ≡ onto (merge_patched y v) qs
    by true e h i = i h
    by false e h i = ap (λ z. onto z qs) (no_object x y v e)

abbrev followed : Pairs → Pairs → Pairs
followed no_pairs qs = qs
followed (pair_and k t ps) qs = pair_and k t (followed ps qs)

merged_followed : (ps rs bs : Pairs) → pairs_merged ps (followed rs bs) ≡ pairs_merged (pairs_merged ps rs) bs
merged_followed ps no_pairs bs = refl
merged_followed ps (pair_and k v rs) bs = merged_followed (one_merged k v ps) rs bs

abbrev joined : List Tree → Pairs
joined [] = no_pairs
joined (v ∷ qs) = followed (members_or_none v) (joined qs)

object_parts : (v : Tree) (qs : List Tree) → all_objects (v ∷ qs) ≡ true → (v ≡ pairs (members_or_none v)) × (all_objects qs ≡ true)
object_parts (pairs ps) qs h = (refl, h)
object_parts null qs h = absurd (false_true h)
object_parts (boolean b) qs h = absurd (false_true h)
object_parts (num l) qs h = absurd (false_true h)
object_parts (text s) qs h = absurd (false_true h)
object_parts (list ts) qs h = absurd (false_true h)

onto_pairs : (ps : Pairs) (qs : List Tree) → all_objects qs ≡ true → onto (pairs ps) qs ≡ pairs (pairs_merged ps (joined qs))
onto_pairs ps [] h = refl
onto_pairs ps (v ∷ qs) h =
    let a = object_parts v qs h in
    ap (λ w. onto (merge_patched (pairs ps) w) qs) a.0 ∙ onto_pairs (pairs_merged ps (members_or_none v)) qs a.1 ∙ ap pairs (sym (merged_followed ps (members_or_none v) (joined qs)))

onto_object : (x v : Tree) (qs : List Tree) → all_objects (v ∷ qs) ≡ true → onto x (v ∷ qs) ≡ pairs (pairs_merged (members_or_none x) (joined (v ∷ qs)))
onto_object x v qs h =
    let a = object_parts v qs h in
    ap (λ w. onto (merge_patched x w) qs) a.0 ∙ onto_pairs (pairs_merged (members_or_none x) (members_or_none v)) qs a.1 ∙ ap pairs (sym (merged_followed (members_or_none x) (members_or_none v) (joined qs)))

-- ---- sizes

abbrev mutual
  size : Tree → ℕ
  size null = 0
  size (boolean b) = 0
  size (num l) = 0
  size (text s) = 0
  size (list ts) = 0
  size (pairs ps) = pairs_size ps

  pairs_size : Pairs → ℕ
  pairs_size no_pairs = 0
  pairs_size (pair_and k t ps) = suc (size t + pairs_size ps)

size_followed : (ps qs : Pairs) → pairs_size (followed ps qs) ≡ pairs_size ps + pairs_size qs
size_followed no_pairs qs = omega arith
size_followed (pair_and k t ps) qs = let e = size_followed ps qs in omega arith

size_members : (v : Tree) → pairs_size (members_or_none v) ≤ size v
size_members null = omega arith
size_members (boolean b) = omega arith
size_members (num l) = omega arith
size_members (text s) = omega arith
size_members (list ts) = omega arith
size_members (pairs ps) = omega arith

size_values : (k : List ℕ) (qs : Pairs) → pairs_size (joined (values_of k qs)) + length (values_of k qs) ≤ pairs_size qs
size_values k no_pairs = omega arith
size_values k (pair_and n t qs) = by (bytes_eq n k) (size_values k qs)
  where
    by : (b : Bool) → pairs_size (joined (values_of k qs)) + length (values_of k qs) ≤ pairs_size qs
        → pairs_size (joined (cond b (t ∷ values_of k qs) (values_of k qs))) + length (cond b (t ∷ values_of k qs) (values_of k qs)) ≤ suc (size t + pairs_size qs)
    by true h = let e = size_followed (members_or_none t) (joined (values_of k qs)) in let l = size_members t in omega arith
    by false h = omega arith

-- ---- objects that agree at each key

-- the same values, but that the first two need only be the same by their members
abbrev Alike : List Tree → List Tree → Type 0
Alike vs ws = (vs ≡ ws) ⊎ ((x : Tree) × (y : Tree) × (tl : List Tree) × (vs ≡ x ∷ tl) × (ws ≡ y ∷ tl) × (same x y ≡ true))

option_itself : (o : Option Tree) → option_eq same o o ≡ true
option_itself None = refl
option_itself (Some t) = same_itself t

alike_first : (vs ws : List Tree) → Alike vs ws → option_eq same (first_in vs) (first_in ws) ≡ true
alike_first vs ws (inl e) = ap (λ x. option_eq same (first_in vs) (first_in x)) (sym e) ∙ option_itself (first_in vs)
alike_first vs ws (inr a) = ap₂ (λ x y. option_eq same (first_in x) (first_in y)) a.3 a.4 ∙ a.5

alike_length : (vs ws : List Tree) → Alike vs ws → length vs ≡ length ws
alike_length vs ws (inl e) = ap length e
alike_length vs ws (inr a) = ap length a.3 ∙ sym (ap length a.4)

-- how often a member counts at a key
abbrev counts : List ℕ → List ℕ → ℕ
counts n k = cond (bytes_eq n k) 1 0

count_more : (n k : List ℕ) (t : Tree) (ps : Pairs) → length (values_of k (pair_and n t ps)) ≡ counts n k + length (values_of k ps)
count_more n k t ps = by (bytes_eq n k)
  where
    by : (b : Bool) → length (cond b (t ∷ values_of k ps) (values_of k ps)) ≡ cond b 1 0 + length (values_of k ps)
    by true = omega arith
    by false = omega arith

-- without the first member of a key
abbrev less : List ℕ → Pairs → Pairs
less n no_pairs = no_pairs
less n (pair_and m t ps) = cond (bytes_eq m n) ps (pair_and m t (less n ps))

less_count : (n k : List ℕ) (ps : Pairs) → 0 < length (values_of n ps) → length (values_of k ps) ≡ counts n k + length (values_of k (less n ps))
less_count n k no_pairs h = absurd (omega arith)
less_count n k (pair_and m t ps) h = by (bytes_eq m n) refl (subst (λ x. 0 < x) (count_more m n t ps) h) (less_count n k ps)
  where
    by : (b : Bool) → bytes_eq m n ≡ b → 0 < cond b 1 0 + length (values_of n ps) → (0 < length (values_of n ps) → length (values_of k ps) ≡ counts n k + length (values_of k (less n ps)))
        → length (values_of k (pair_and m t ps)) ≡ counts n k + length (values_of k (cond b ps (pair_and m t (less n ps))))
    by true e h i = count_more m k t ps ∙ ap (λ x. counts x k + length (values_of k ps)) ((bytes_eq-Decides m n).0 e)
    by false e h i = let a = count_more m k t ps in let b = count_more m k t (less n ps) in let c = i (omega arith) in omega arith

less_keys : (n : List ℕ) (ps : Pairs) → 0 < length (values_of n ps) → length (keys ps) ≡ suc (length (keys (less n ps)))
less_keys n no_pairs h = absurd (omega arith)
less_keys n (pair_and m t ps) h = by (bytes_eq m n) (subst (λ x. 0 < x) (count_more m n t ps) h) (less_keys n ps)
  where
    by : (b : Bool) → 0 < cond b 1 0 + length (values_of n ps) → (0 < length (values_of n ps) → length (keys ps) ≡ suc (length (keys (less n ps))))
        → suc (length (keys ps)) ≡ suc (length (keys (cond b ps (pair_and m t (less n ps)))))
    by true h i = refl
    by false h i = ap suc (i (omega arith))

itself_counts : (n : List ℕ) → counts n n ≡ 1
itself_counts n = ap (λ b. cond b 1 0) (key_itself n)

same_length : (rs bs : Pairs) → ((k : List ℕ) → length (values_of k rs) ≡ length (values_of k bs)) → length (keys rs) ≡ length (keys bs)
same_length no_pairs no_pairs h = refl
same_length no_pairs (pair_and n t bs) h = let a = h n in let b = count_more n n t bs in let c = itself_counts n in absurd (omega arith)
same_length (pair_and n t rs) bs h =
    let l : 0 < length (values_of n bs) = (let a = h n in let b = count_more n n t rs in let c = itself_counts n in omega arith) in
    let e = same_length rs (less n bs) (λ k. let a = h k in let b = count_more n k t rs in let c = less_count n k bs l in omega arith) in
    let f = less_keys n bs l in
    ap suc e ∙ sym f

all_pass : (f : List ℕ → Bool) (ks : List (List ℕ)) → ((k : List ℕ) → f k ≡ true) → list_all f ks ≡ true
all_pass f [] h = refl
all_pass f (k ∷ ks) h = and_from (f k) (list_all f ks) (h k) (all_pass f ks h)

alike_same : (rs bs : Pairs) → ((k : List ℕ) → Alike (values_of k rs) (values_of k bs)) → same (pairs rs) (pairs bs) ≡ true
alike_same rs bs h =
    and_from (length (keys rs) == length (keys bs)) (list_all (λ k. first_same k rs (first_value k bs)) (keys rs ++ keys bs))
    (eq-eqb (length (keys rs)) (length (keys bs)) (same_length rs bs (λ k. alike_length (values_of k rs) (values_of k bs) (h k))))
    (
    all_pass (λ k. first_same k rs (first_value k bs)) (keys rs ++ keys bs) (
    λ k. first_agree k rs (first_value k bs)
    ∙ ap₂ (option_eq same) (first_of_values k rs) (first_of_values k bs)
    ∙ alike_first (values_of k rs) (values_of k bs) (h k)
    )
    )

-- ---- twice

abbrev Twice : ℕ → Type 0
Twice n = (qs : Pairs) → pairs_size qs ≤ n → (ps : Pairs) → same (pairs (pairs_merged (pairs_merged ps qs) qs)) (pairs (pairs_merged ps qs)) ≡ true

run_twice : (n : ℕ) → Twice n → (vs qs : List Tree) → pairs_size (joined qs) + length qs ≤ suc n → Alike (run (run vs qs) qs) (run vs qs)
run_twice n i vs [] l = inl refl
run_twice n i vs (v ∷ qs) l = by (has_null (v ∷ qs)) refl
  where
    V : List Tree
    V = v ∷ qs

    x : Tree
    x = tree_or_null (first_in vs)

    once : has_null V ≡ false → run vs V ≡ onto x V ∷ drop 1 vs
    once e = run_value vs v qs e

    again : has_null V ≡ false → run (run vs V) V ≡ onto (onto x V) V ∷ drop 1 vs
    again e = ap (λ ws. run ws V) (once e) ∙ run_value (onto x V ∷ drop 1 vs) v qs e

    each : (b : Bool) → all_objects V ≡ b → has_null V ≡ false → Alike (run (run vs V) V) (run vs V)
    each false f e = inl (again e ∙ ap (λ y. y ∷ drop 1 vs) (onto_same (onto x V) x V f) ∙ sym (once e))
    each true f e = inr (
      onto (onto x V) V,
      onto x V,
      drop 1 vs,
      again e,
      once e,
      (
          let Q = joined V in
          let a = onto_object x v qs f in
          let b = onto_object (onto x V) v qs f ∙ ap (λ y. pairs (pairs_merged (members_or_none y) Q)) a in
          ap₂ same b a ∙ i Q (omega arith) (members_or_none x)
          ),
    )

    by : (b : Bool) → has_null V ≡ b → Alike (run (run vs V) V) (run vs V)
    by true e = inl (forgets (run vs V) vs V e)
    by false e = each (all_objects V) refl e

twice : (n : ℕ) → Twice n
twice zero no_pairs l ps = same_itself (pairs ps)
twice zero (pair_and k t qs) l ps = absurd (omega arith)
twice (suc n) qs l ps =
    alike_same (pairs_merged (pairs_merged ps qs) qs) (pairs_merged ps qs) (
    λ k. subst₂ Alike
    (sym (values_run k (pairs_merged ps qs) qs ∙ ap (λ vs. run vs (values_of k qs)) (values_run k ps qs)))
    (sym (values_run k ps qs))
    (run_twice n (twice n) (values_of k ps) (values_of k qs) (let a = size_values k qs in omega arith))
    )

pub merged_twice_same : MergedTwiceSame
merged_twice_same t (pairs qs) = twice (pairs_size qs) qs (omega arith) (members_or_none t)
merged_twice_same t null = refl
merged_twice_same t (boolean b) = same_itself (boolean b)
merged_twice_same t (num l) = same_itself (num l)
merged_twice_same t (text s) = same_itself (text s)
merged_twice_same t (list ts) = same_itself (list ts)
