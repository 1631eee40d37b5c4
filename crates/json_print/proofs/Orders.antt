-- To sort by key and number is to insert each before the first whose key is not smaller.
use Rattle.std.proofs.Common.{◌≡◌, ℕ, zero, suc, ◌+◌, ◌<◌, ◌≤◌, List, [], ◌∷◌, ◌∙◌, sym, ap, ap₂, refl, subst, arith, length, map, Bool, true, false, cond, nat_lt, ◌⊎◌, inl, inr, get_or, eq-eqb, ◌==◌}
use Rattle.std.specs.Prelude.{Contains}
use Rattle.std.specs.List.{IsDistinct, AllByRecursion}
use Rattle.std.proofs.lemmas.Bool.{cases_lt, lt-ltb, le-ltb, ne_eqb, cases_eq}
use Rattle.std.specs.declared.cmp.Ordering.{Ordering}
use Rattle.std.specs.declared.cmp.Ordering.TheVariants.{Less, Equal, Greater}
use Rattle.std.specs.Ordering.{is_lt, nat_cmp, on, then_cmp, ordering_then, ordering_reverse}
use Rattle.std.specs.Cmp.{IsTotalOrder}
use Rattle.std.specs.Cmp.Lexicographic.{slice_cmp}
use Rattle.std.proofs.lemmas.Cmp.{then_total, on_total, nat_cmp_total, nat_list_cmp_total}
use Rattle.std.specs.List.Sorted.{IsPermutation, IsSortedBy}
use Rattle.std.proofs.lemmas.List.Sorted.{Contains-permutation, IsPermutation-sym, IsPermutation-map}
use Rattle.std.proofs.lemmas.Map.Keys.{IsDistinct-IsPermutation}
use Rattle.json_model.specs.Sort.{bytes_less}
use Rattle.std.proofs.lemmas.List.{get_or-map, length-map}
use Rattle.json_print.specs.Orders.{NumberedKey, IsMember, Rise, numbered_in, inserted_pairs}
use Rattle.json_print.specs.Printer.{MemberText, row_in, rows_sorted}

abbrev pub numbered_cmp : NumberedKey → NumberedKey → Ordering
numbered_cmp = then_cmp (on (λ (x : NumberedKey). x.0) (slice_cmp nat_cmp)) (on (λ (x : NumberedKey). x.1) nat_cmp)

abbrev pub Below : NumberedKey → NumberedKey → Type 0
Below x y = numbered_cmp x y ≡ Less

pub total : IsTotalOrder numbered_cmp
total = then_total (on_total (λ (x : NumberedKey). x.0) nat_list_cmp_total) (on_total (λ (x : NumberedKey). x.1) nat_cmp_total)

-- ---- lists of any kind

pub in_from : {X : Type 0} (xs : List X) (x : X) (k : ℕ) → k < length xs → get_or xs k x ≡ x → IsMember x xs
in_from [] x k l e = absurd (omega arith)
in_from (y ∷ ys) x zero l e = inl (sym e)
in_from (y ∷ ys) x (suc k) l e = inr (in_from ys x k (omega arith) e)

from_in : {X : Type 0} (xs : List X) (x : X) → IsMember x xs → Contains xs x
from_in [] x h = absurd h
from_in (y ∷ ys) x (inl e) = (0, omega arith, sym e)
from_in (y ∷ ys) x (inr h) = let r = from_in ys x h in (suc r.0, omega (arith, r.1), r.2)

abbrev pub Above : NumberedKey → List NumberedKey → Type 0
Above x ys = (y : NumberedKey) → IsMember y ys → Below x y

abbrev pub Ascends : List NumberedKey → Type 0
Ascends [] = Unit {0}
Ascends (x ∷ xs) = Above x xs × Ascends xs

not_both : (x y : NumberedKey) → Below x y → Below y x → ⊥
not_both x y p q = let r = sym p ∙ total.antisymm x y ∙ ap ordering_reverse q in less_greater r
  where
    less_greater : Less ≡ Greater → ⊥
    less_greater e = cc

not_self : (x : NumberedKey) → Below x x → ⊥
not_self x p = not_both x x p p

-- two ascending lists with the same elements are one
unique : (xs ys : List NumberedKey) → Ascends xs → Ascends ys → ((z : NumberedKey) → IsMember z xs → IsMember z ys) → ((z : NumberedKey) → IsMember z ys → IsMember z xs) → xs ≡ ys
unique [] [] a b f g = refl
unique [] (y ∷ ys) a b f g = absurd (g y (inl refl))
unique (x ∷ xs) [] a b f g = absurd (f x (inl refl))
unique (x ∷ xs) (y ∷ ys) a b f g = ap₂ (λ z zs. z ∷ zs) same (unique xs ys a.1 b.1 down up)
  where
    same : x ≡ y
    same = elim (f x (inl refl)) [ inl e ↦ e | inr h ↦ elim (g y (inl refl)) [ inl e ↦ sym e | inr k ↦ absurd (not_both x y (a.0 y k) (b.0 x h)) ] ]

    down : (z : NumberedKey) → IsMember z xs → IsMember z ys
    down z h = elim (f z (inr h)) [ inl e ↦ absurd (not_self x (subst (Below x) (e ∙ sym same) (a.0 z h))) | inr k ↦ k ]

    up : (z : NumberedKey) → IsMember z ys → IsMember z xs
    up z h = elim (g z (inr h)) [ inl e ↦ absurd (not_self y (subst (Below y) (e ∙ same) (b.0 z h))) | inr k ↦ k ]

-- ---- by insertion

false_true : false ≡ true → ⊥
false_true q = cc

true_false : true ≡ false → ⊥
true_false q = cc

less_cmp : (a b : List ℕ) → bytes_less a b ≡ is_lt (slice_cmp nat_cmp a b)
less_cmp [] [] = refl
less_cmp [] (y ∷ b) = refl
less_cmp (x ∷ a) [] = refl
less_cmp (x ∷ a) (y ∷ b) = go (cases_lt x y) (cases_lt y x) (less_cmp a b)
  where
    go : (x < y) ⊎ (y ≤ x) → (y < x) ⊎ (x ≤ y) → bytes_less a b ≡ is_lt (slice_cmp nat_cmp a b) → cond (nat_lt x y) true (cond (nat_lt y x) false (bytes_less a b)) ≡ is_lt (ordering_then (nat_cmp x y) (slice_cmp nat_cmp a b))
    go (inl l) k ih = rw (lt-ltb x y l) refl
    go (inr g) (inl l) ih = rw (le-ltb x y g, lt-ltb y x l, ne_eqb x y (λ e. omega arith)) refl
    go (inr g) (inr k) ih = let e : x ≡ y = omega arith in rw (le-ltb x y g, le-ltb y x k, eq-eqb x y e) ih

in_or : (x z : NumberedKey) (ys : List NumberedKey) → IsMember z (numbered_in x ys) → (z ≡ x) ⊎ IsMember z ys
in_or x z [] h = h
in_or x z (y ∷ ys) h = go (bytes_less y.0 x.0) (in_or x z ys) h
  where
    go : (b : Bool) → (IsMember z (numbered_in x ys) → (z ≡ x) ⊎ IsMember z ys) → IsMember z (cond b (y ∷ numbered_in x ys) (x ∷ y ∷ ys)) → (z ≡ x) ⊎ ((z ≡ y) ⊎ IsMember z ys)
    go true ih (inl e) = inr (inl e)
    go true ih (inr k) = elim (ih k) [ inl e ↦ inl e | inr j ↦ inr (inr j) ]
    go false ih k = k

or_in : (x z : NumberedKey) (ys : List NumberedKey) → (z ≡ x) ⊎ IsMember z ys → IsMember z (numbered_in x ys)
or_in x z [] h = h
or_in x z (y ∷ ys) h = go (bytes_less y.0 x.0) (or_in x z ys) h
  where
    go : (b : Bool) → ((z ≡ x) ⊎ IsMember z ys → IsMember z (numbered_in x ys)) → (z ≡ x) ⊎ ((z ≡ y) ⊎ IsMember z ys) → IsMember z (cond b (y ∷ numbered_in x ys) (x ∷ y ∷ ys))
    go true ih (inl e) = inr (ih (inl e))
    go true ih (inr (inl e)) = inl e
    go true ih (inr (inr k)) = inr (ih (inr k))
    go false ih k = k

pub all_in : (z : NumberedKey) (xs : List NumberedKey) → IsMember z (inserted_pairs xs) → IsMember z xs
all_in z [] h = h
all_in z (x ∷ xs) h = elim (in_or x z (inserted_pairs xs) h) [ inl e ↦ inl e | inr k ↦ inr (all_in z xs k) ]

in_all : (z : NumberedKey) (xs : List NumberedKey) → IsMember z xs → IsMember z (inserted_pairs xs)
in_all z [] h = h
in_all z (x ∷ xs) (inl e) = or_in x z (inserted_pairs xs) (inl e)
in_all z (x ∷ xs) (inr h) = or_in x z (inserted_pairs xs) (inr (in_all z xs h))

-- the first is below those whose numbers are greater, where its key is not greater
first_below : (x y : NumberedKey) → bytes_less y.0 x.0 ≡ false → x.1 < y.1 → Below x y
first_below x y e l = go (slice_cmp nat_cmp x.0 y.0) refl
  where
    number : nat_cmp x.1 y.1 ≡ Less
    number = rw (lt-ltb x.1 y.1 l) refl

    back : is_lt (slice_cmp nat_cmp y.0 x.0) ≡ false
    back = sym (less_cmp y.0 x.0) ∙ e

    go : (o : Ordering) → slice_cmp nat_cmp x.0 y.0 ≡ o → Below x y
    go Less p = ap (λ q. ordering_then q (nat_cmp x.1 y.1)) p
    go Equal p = ap (λ q. ordering_then q (nat_cmp x.1 y.1)) p ∙ number
    go Greater p = absurd (false_true (sym back ∙ ap is_lt (nat_list_cmp_total.antisymm y.0 x.0 ∙ ap ordering_reverse p)))

smaller_below : (x y : NumberedKey) → bytes_less y.0 x.0 ≡ true → Below y x
smaller_below x y e = go (slice_cmp nat_cmp y.0 x.0) refl
  where
    go : (o : Ordering) → slice_cmp nat_cmp y.0 x.0 ≡ o → Below y x
    go Less p = ap (λ q. ordering_then q (nat_cmp y.1 x.1)) p
    go Equal p = absurd (true_false (sym e ∙ less_cmp y.0 x.0 ∙ ap is_lt p))
    go Greater p = absurd (true_false (sym e ∙ less_cmp y.0 x.0 ∙ ap is_lt p))

in_ascends : (x : NumberedKey) (ys : List NumberedKey) → Ascends ys → ((z : NumberedKey) → IsMember z ys → x.1 < z.1) → Ascends (numbered_in x ys)
in_ascends x [] a n = (λ z h. absurd h, tt)
in_ascends x (y ∷ ys) a n = go (bytes_less y.0 x.0) refl (in_ascends x ys a.1 (λ z h. n z (inr h)))
  where
    go : (b : Bool) → bytes_less y.0 x.0 ≡ b → Ascends (numbered_in x ys) → Ascends (cond b (y ∷ numbered_in x ys) (x ∷ y ∷ ys))
    go true e ih = (λ z h. elim (in_or x z ys h) [ inl q ↦ subst (Below y) (sym q) (smaller_below x y e) | inr k ↦ a.0 z k ], ih)
    go false e ih =
        let f : Below x y = first_below x y e (n y (inl refl)) in
        (λ z h. elim h [ inl q ↦ subst (Below x) (sym q) f | inr k ↦ total.trans x y z f (a.0 z k) ], a)

all_ascends : (xs : List NumberedKey) → Rise xs → Ascends (inserted_pairs xs)
all_ascends [] r = tt
all_ascends (x ∷ xs) r = in_ascends x (inserted_pairs xs) (all_ascends xs r.1) (λ z h. r.0 z (all_in z xs h))

-- ---- by a sort

sort_inserts : (xs ys : List NumberedKey) → Rise xs → IsPermutation xs ys → Ascends ys → ys ≡ inserted_pairs xs
sort_inserts xs ys r p a =
    unique ys (inserted_pairs xs) a (all_ascends xs r)
    (λ z h. in_all z xs (let c = Contains-permutation ys xs z (IsPermutation-sym xs ys p) (from_in ys z h) in in_from xs z c.0 c.1 c.2))
    (λ z h. let c = Contains-permutation xs ys z p (from_in xs z (all_in z xs h)) in in_from ys z c.0 c.1 c.2)

-- ---- and so the rows

abbrev pub row_at : (ℕ → List ℕ) → NumberedKey → MemberText
row_at text x = record { key = x.0; text = text x.1 }

row_inserted : (text : ℕ → List ℕ) (x : NumberedKey) (ys : List NumberedKey) → map (row_at text) (numbered_in x ys) ≡ row_in (row_at text x) (map (row_at text) ys)
row_inserted text x [] = refl
row_inserted text x (y ∷ ys) = go (bytes_less y.0 x.0) (row_inserted text x ys)
  where
    go : (b : Bool) → map (row_at text) (numbered_in x ys) ≡ row_in (row_at text x) (map (row_at text) ys)
        → map (row_at text) (cond b (y ∷ numbered_in x ys) (x ∷ y ∷ ys)) ≡ cond b (row_at text y ∷ row_in (row_at text x) (map (row_at text) ys)) (row_at text x ∷ row_at text y ∷ map (row_at text) ys)
    go true ih = ap (λ zs. row_at text y ∷ zs) ih
    go false ih = refl

pub rows_inserted : (text : ℕ → List ℕ) (xs : List NumberedKey) → map (row_at text) (inserted_pairs xs) ≡ rows_sorted (map (row_at text) xs)
rows_inserted text [] = refl
rows_inserted text (x ∷ xs) = row_inserted text x (inserted_pairs xs) ∙ ap (row_in (row_at text x)) (rows_inserted text xs)

-- ---- what std's sort ensures

abbrev number_eq : NumberedKey → NumberedKey → Bool
number_eq x y = x.1 == y.1

each_apart : (x : NumberedKey) (xs : List NumberedKey) → ((z : NumberedKey) → IsMember z xs → x.1 < z.1) → AllByRecursion (λ y. number_eq x y ≡ false) xs
each_apart x [] h = tt
each_apart x (y ∷ xs) h = (ne_eqb x.1 y.1 (λ e. omega (arith, h y (inl refl))), each_apart x xs (λ z k. h z (inr k)))

rise_apart : (xs : List NumberedKey) → Rise xs → IsDistinct number_eq xs
unfolding IsDistinct
rise_apart [] r = tt
rise_apart (x ∷ xs) r = (each_apart x xs r.0, rise_apart xs r.1)

flips : (x y : NumberedKey) → number_eq x y ≡ number_eq y x
flips x y = go (cases_eq x.1 y.1)
  where
    go : (x.1 ≡ y.1) ⊎ (x.1 ≡ y.1 → ⊥) → (x.1 == y.1) ≡ (y.1 == x.1)
    go (inl e) = eq-eqb x.1 y.1 e ∙ sym (eq-eqb y.1 x.1 (sym e))
    go (inr n) = ne_eqb x.1 y.1 n ∙ sym (ne_eqb y.1 x.1 (λ e. n (sym e)))

no_equal : (b : Bool) → cond b Less Greater ≡ Equal → ⊥
no_equal true e = cc
no_equal false e = cc

next_below : (x y : NumberedKey) → is_lt (numbered_cmp y x) ≡ false → number_eq x y ≡ false → Below x y
next_below x y l n = go (numbered_cmp x y) refl
  where
    equal_number : (o : Ordering) → ordering_then o (nat_cmp x.1 y.1) ≡ Equal → nat_cmp x.1 y.1 ≡ Equal
    equal_number Less e = absurd (cc)
    equal_number Equal e = e
    equal_number Greater e = absurd (cc)

    same_number : nat_cmp x.1 y.1 ≡ Equal → ⊥
    same_number e = no_equal (nat_lt x.1 y.1) (sym (ap (λ b. cond (nat_lt x.1 y.1) Less (cond b Equal Greater)) n) ∙ e)

    go : (o : Ordering) → numbered_cmp x y ≡ o → Below x y
    go Less p = p
    go Equal p = absurd (same_number (equal_number (slice_cmp nat_cmp x.0 y.0) p))
    go Greater p = absurd (false_true (sym l ∙ ap is_lt (total.antisymm y x ∙ ap ordering_reverse p)))

ascends_from : (ys : List NumberedKey) → ((k : ℕ) (d : NumberedKey) → k + 1 < length ys → is_lt (numbered_cmp (get_or ys (k + 1) d) (get_or ys k d)) ≡ false) → IsDistinct number_eq ys → Ascends ys
unfolding IsDistinct
ascends_from [] h n = tt
ascends_from (x ∷ []) h n = (λ z k. absurd k, tt)
ascends_from (x ∷ y ∷ ys) h n =
    let rest = ascends_from (y ∷ ys) (λ k d l. let e : suc k + 1 ≡ suc (k + 1) = omega arith in subst (λ j. is_lt (numbered_cmp (get_or (x ∷ y ∷ ys) j d) (get_or (y ∷ ys) k d)) ≡ false) e (h (suc k) d (omega arith))) n.1 in
    let f : Below x y = next_below x y (h 0 x (omega arith)) n.0.0 in
    (λ z k. elim k [ inl e ↦ subst (Below x) (sym e) f | inr j ↦ total.trans x y z f (rest.0 z j) ], rest)

mapped : {X : Type 0} (f : X → NumberedKey) (ys : List X) → IsSortedBy (λ x y. is_lt (numbered_cmp (f x) (f y))) ys → (k : ℕ) (d : NumberedKey) → k + 1 < length (map f ys) → is_lt (numbered_cmp (get_or (map f ys) (k + 1) d) (get_or (map f ys) k d)) ≡ false
mapped f [] h k d l = absurd (omega arith)
mapped f (y ∷ ys) h k d l =
    let n : k + 1 < length (y ∷ ys) = subst (λ m. k + 1 < m) (length-map (y ∷ ys) f) l in
    rw (get_or-map f (y ∷ ys) (k + 1) y d n, get_or-map f (y ∷ ys) k y d (omega (arith, n))) (h k y (omega arith) n)

-- so it is of what has a key and a number
pub sort_orders : {X : Type 0} (f : X → NumberedKey) (xs ys : List X) → Rise (map f xs) → IsPermutation xs ys → IsSortedBy (λ x y. is_lt (numbered_cmp (f x) (f y))) ys → map f ys ≡ inserted_pairs (map f xs)
sort_orders f xs ys r p s =
    let moved = IsPermutation-map f xs ys p in sort_inserts (map f xs) (map f ys) r moved (ascends_from (map f ys) (mapped f ys s) (IsDistinct-IsPermutation number_eq flips _ _ moved (rise_apart _ r)))
