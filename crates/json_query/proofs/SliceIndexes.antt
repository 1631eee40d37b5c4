-- The indexes that the code finds for a slice are those of the definitions.
use Rattle.std.proofs.Common.{◌≡◌, ℕ, ◌+◌, ◌-◌, ◌%◌, ◌<◌, ◌≤◌, ℤ, pos, negsuc, ◌+ℤ◌, ◌-ℤ◌, neg_ℤ, nat_abs, ◌≤ℤ◌, ◌<ℤ◌, int_lt, int_le, Bool, true, false, ◌&&◌, ◌==◌, nat_lt, nat_le, if◌then◌else◌, cond, List, [], ◌∷◌, map, filter, reverse, length, Option, unwrap_or, refl, sym, ap, ap₂, ◌∙◌, arith, lt-ltb, le-ltb, leb-true, leb-false, ltb-true, ltb-false}
use Rattle.std.specs.List.{enumerate_from}
use Rattle.std.proofs.lemmas.Int.{ints}
use Rattle.json_query.specs.Slices.{normalized, limited, Bounds, forward_bounds, backward_bounds, is_some_steps, selects, slice_bounds, items_from, slice_items}

-- ---- tests of integers

pub le_is : (a b : ℤ) → a ≤ℤ b → int_le a b ≡ true
le_is a b h = by (int_le a b) refl
  where
    by : (t : Bool) → int_le a b ≡ t → t ≡ true
    by true e = refl
    by false e = absurd (omega (arith, ints))

not_le : (a b : ℤ) → b <ℤ a → int_le a b ≡ false
not_le a b h = by (int_le a b) refl
  where
    by : (t : Bool) → int_le a b ≡ t → t ≡ false
    by true e = absurd (omega (arith, ints))
    by false e = refl

lt_is : (a b : ℤ) → a <ℤ b → int_lt a b ≡ true
lt_is a b h = by (int_lt a b) refl
  where
    by : (t : Bool) → int_lt a b ≡ t → t ≡ true
    by true e = refl
    by false e = absurd (omega (arith, ints))

not_lt : (a b : ℤ) → b ≤ℤ a → int_lt a b ≡ false
not_lt a b h = by (int_lt a b) refl
  where
    by : (t : Bool) → int_lt a b ≡ t → t ≡ false
    by true e = absurd (omega (arith, ints))
    by false e = refl

-- ---- the test of an index

abbrev between : ℤ → ℤ → Bounds
between l u = record { lower = l; upper = u }

and_false : (x : Bool) → (x && false) ≡ false
and_false true = refl
and_false false = refl

forward_selects : (step : ℤ) (lo hi k i : ℕ) → pos 0 ≤ℤ step → k ≡ nat_abs step → ((nat_le lo i && nat_lt i hi) && (nat_lt 0 k && ((i - lo) % k == 0))) ≡ selects (between (pos lo) (pos hi)) step i
forward_selects step lo hi k i h a = by (int_lt (pos 0) step) refl (nat_le lo i) refl
  where
    back : Bool
    back = (int_lt (pos lo) (pos i) && int_le (pos i) (pos hi)) && is_some_steps step (pos hi -ℤ pos i)

    by : (t : Bool) → int_lt (pos 0) step ≡ t → (u : Bool) → nat_le lo i ≡ u → ((u && nat_lt i hi) && (nat_lt 0 k && ((i - lo) % k == 0))) ≡ (if t then ((u && nat_lt i hi) && is_some_steps step (pos i -ℤ pos lo)) else (int_lt step (pos 0) && back))
    by true e true f =
        let low = leb-true lo i f in
        let some : 0 < k = omega (arith, ints) in
        let far : i - lo ≡ nat_abs (pos i -ℤ pos lo) = omega (arith, ints, low) in
        ap (λ b. nat_lt i hi && b) (ap (λ b. b && ((i - lo) % k == 0)) (lt-ltb 0 k some) ∙ ap₂ (λ m d. m % d == 0) far a)
    by true e false f = refl
    by false e u f =
        let none : k ≤ 0 = omega (arith, ints) in
        ap (λ b. (u && nat_lt i hi) && (b && ((i - lo) % k == 0))) (le-ltb 0 k none) ∙ and_false (u && nat_lt i hi) ∙ ap (λ b. b && back) (sym (not_lt step (pos 0) h))

backward_selects : (step l u : ℤ) (lo hi k i : ℕ) → step <ℤ pos 0 → k ≡ nat_abs step → pos lo ≡ l +ℤ pos 1 → pos hi ≡ u +ℤ pos 1
    → ((nat_le lo i && nat_lt i hi) && (nat_lt 0 k && ((hi - 1 - i) % k == 0))) ≡ selects (between l u) step i
backward_selects step l u lo hi k i h a el eu =
    by (nat_le lo i) refl (nat_lt i hi) refl
    ∙ sym (ap (λ t. if t then up else (int_lt step (pos 0) && down)) (not_lt (pos 0) step (omega (arith, ints))) ∙ ap (λ t. t && down) (lt_is step (pos 0) h))
  where
    up : Bool
    up = (int_le l (pos i) && int_lt (pos i) u) && is_some_steps step (pos i -ℤ l)

    down : Bool
    down = (int_lt l (pos i) && int_le (pos i) u) && is_some_steps step (u -ℤ pos i)

    by : (s : Bool) → nat_le lo i ≡ s → (t : Bool) → nat_lt i hi ≡ t → ((s && t) && (nat_lt 0 k && ((hi - 1 - i) % k == 0))) ≡ down
    by true e true f =
        let low = leb-true lo i e in
        let high = ltb-true i hi f in
        let some : 0 < k = omega (arith, ints) in
        let far : hi - 1 - i ≡ nat_abs (u -ℤ pos i) = omega (arith, ints, low, high) in
        ap (λ b. b && ((hi - 1 - i) % k == 0)) (lt-ltb 0 k some)
        ∙ ap₂ (λ m d. m % d == 0) far a
        ∙ ap (λ b. b && is_some_steps step (u -ℤ pos i)) (sym (ap₂ (λ x y. x && y) (lt_is l (pos i) (omega (arith, ints, low))) (le_is (pos i) u (omega (arith, ints, high)))))
    by true e false f =
        let high = ltb-false i hi f in
        sym (ap (λ b. (int_lt l (pos i) && b) && is_some_steps step (u -ℤ pos i)) (not_le (pos i) u (omega (arith, ints, high))) ∙ ap (λ b. b && is_some_steps step (u -ℤ pos i)) (and_false (int_lt l (pos i))))
    by false e t f =
        let low = leb-false lo i e in
        sym (ap (λ b. (b && int_le (pos i) u) && is_some_steps step (u -ℤ pos i)) (not_lt l (pos i) (omega (arith, ints, low))))

-- ---- whole slices

-- the bounds of a slice, by whether its step is at least 0
abbrev bounds_by : Bool → Option ℤ → Option ℤ → ℕ → Bounds
bounds_by t start end n =
    if t then forward_bounds (unwrap_or start (if t then pos 0 else pos n -ℤ pos 1)) (unwrap_or end (if t then pos n else neg_ℤ (pos n) -ℤ pos 1)) n
    else backward_bounds (unwrap_or start (if t then pos 0 else pos n -ℤ pos 1)) (unwrap_or end (if t then pos n else neg_ℤ (pos n) -ℤ pos 1)) n

pub forward_indexes : (start end : Option ℤ) (step : ℤ) (n lo hi k : ℕ) → pos 0 ≤ℤ step → k ≡ nat_abs step → pos lo ≡ limited (pos 0) (pos n) (normalized (unwrap_or start (pos 0)) n) → pos hi ≡ limited (pos 0) (pos n) (normalized (unwrap_or end (pos n)) n)
    → (i : ℕ) → ((nat_le lo i && nat_lt i hi) && (nat_lt 0 k && ((i - lo) % k == 0))) ≡ selects (slice_bounds start end step n) step i
forward_indexes start end step n lo hi k h a el eu i =
    let there : slice_bounds start end step n ≡ between (pos lo) (pos hi) = ap (λ t. bounds_by t start end n) (le_is (pos 0) step h) ∙ ap₂ between (sym el) (sym eu) in
    forward_selects step lo hi k i h a ∙ ap (λ b. selects b step i) (sym there)

pub backward_indexes : (start end : Option ℤ) (step : ℤ) (n lo hi k : ℕ) → step <ℤ pos 0 → k ≡ nat_abs step → pos lo ≡ limited (negsuc 0) (pos n -ℤ pos 1) (normalized (unwrap_or end (neg_ℤ (pos n) -ℤ pos 1)) n) +ℤ pos 1
    → pos hi ≡ limited (negsuc 0) (pos n -ℤ pos 1) (normalized (unwrap_or start (pos n -ℤ pos 1)) n) +ℤ pos 1 → (i : ℕ) → ((nat_le lo i && nat_lt i hi) && (nat_lt 0 k && ((hi - 1 - i) % k == 0))) ≡ selects (slice_bounds start end step n) step i
backward_indexes start end step n lo hi k h a el eu i =
    let there = ap (λ t. bounds_by t start end n) (not_le (pos 0) step h) in
    backward_selects step _ _ lo hi k i h a el eu ∙ ap (λ b. selects b step i) (sym there)

-- ---- the items of these indexes

items_from-same : {X : Type 0} (f g : ℕ → Bool) → ((i : ℕ) → f i ≡ g i) → (i : ℕ) (xs : List X) → items_from f i xs ≡ items_from g i xs
items_from-same f g h i [] = refl
items_from-same {X} f g h i (x ∷ xs) = ap (λ b. first b (passing f)) (h i) ∙ by (g i) (items_from-same f g h (i + 1) xs)
  where
    passing : (ℕ → Bool) → List (ℕ × X)
    passing test = filter (λ (q : ℕ × X). test q.0) (enumerate_from (i + 1) xs)

    first : Bool → List (ℕ × X) → List X
    first b qs = map (λ (q : ℕ × X). q.1) (cond b ((i, x) ∷ qs) qs)

    by : (b : Bool) → map (λ (q : ℕ × X). q.1) (passing f) ≡ map (λ (q : ℕ × X). q.1) (passing g) → first b (passing f) ≡ first b (passing g)
    by true e = ap (λ ys. x ∷ ys) e
    by false e = e

-- of a slice that goes forwards, and of one that goes backwards
pub forward_items : {X : Type 0} (start end : Option ℤ) (step : ℤ) (n : ℕ) (test : ℕ → Bool) (xs : List X) → pos 0 ≤ℤ step → n ≡ length xs → ((i : ℕ) → test i ≡ selects (slice_bounds start end step n) step i) → items_from test 0 xs ≡ slice_items start end step xs
forward_items start end step n test xs h l same =
    items_from-same test (selects (slice_bounds start end step n) step) same 0 xs
    ∙ ap (λ m. items_from (selects (slice_bounds start end step m) step) 0 xs) l
    ∙ sym (ap (λ t. if t then reverse (items_from (selects (slice_bounds start end step (length xs)) step) 0 xs) else items_from (selects (slice_bounds start end step (length xs)) step) 0 xs) (not_lt step (pos 0) h))

pub backward_items : {X : Type 0} (start end : Option ℤ) (step : ℤ) (n : ℕ) (test : ℕ → Bool) (xs : List X) → step <ℤ pos 0 → n ≡ length xs → ((i : ℕ) → test i ≡ selects (slice_bounds start end step n) step i)
    → reverse (items_from test 0 xs) ≡ slice_items start end step xs
backward_items start end step n test xs h l same =
    ap reverse (items_from-same test (selects (slice_bounds start end step n) step) same 0 xs ∙ ap (λ m. items_from (selects (slice_bounds start end step m) step) 0 xs) l)
    ∙ sym (ap (λ t. if t then reverse (items_from (selects (slice_bounds start end step (length xs)) step) 0 xs) else items_from (selects (slice_bounds start end step (length xs)) step) 0 xs) (lt_is step (pos 0) h))
