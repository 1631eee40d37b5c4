-- Lists to which something is appended, one part after another.
use Rattle.std.proofs.Common.{◌≡◌, ℕ, suc, ◌+◌, ◌-◌, ◌<◌, ◌≤◌, arith, length, length-append, get_or, slice_get, drop, List, [], ◌∷◌, ◌++◌, map, filter, reverse, Bool, true, false, cond, Some, refl, sym, ap, ◌∙◌, append_assoc, append-nil, bytes_eq, flat_map}
use Rattle.std.specs.List.{enumerate_from}
use Rattle.std.proofs.lemmas.List.{reverse-append, drop_more}
use Rattle.json_query.specs.Slices.{items_from}
use Rattle.json_query.specs.ViewedNodes.{member_values, with_name}

-- no part
pub appended_none : {X : Type 0} (old a : List X) → a ≡ [] → old ≡ old ++ a
appended_none old a e = sym (append-nil old) ∙ ap (λ r. old ++ r) (sym e)

-- one more of the items that are appended
pub item_more : {X : Type 0} (so_far next whole : List X) (x : X) (all left : List X) → so_far ++ all ≡ whole → all ≡ x ∷ left → next ≡ so_far ++ x ∷ [] → next ++ left ≡ whole
item_more so_far next whole x all left h s e = ap (λ r. r ++ left) e ∙ append_assoc so_far (x ∷ []) left ∙ ap (λ xs. so_far ++ xs) (sym s) ∙ h

-- one more of the items, of each of which f is appended
pub appended_more : {X Y : Type 0} (f : X → List Y) (so_far next whole : List Y) (x : X) (all left : List X) → so_far ++ flat_map f all ≡ whole → all ≡ x ∷ left → next ≡ so_far ++ f x → next ++ flat_map f left ≡ whole
appended_more f so_far next whole x all left h s e =
    ap (λ r. r ++ flat_map f left) e ∙ append_assoc so_far (f x) (flat_map f left) ∙ ap (λ xs. so_far ++ flat_map f xs) (sym s) ∙ h

-- one more of the members, whose values are appended
pub members_more : {X : Type 0} (so_far next whole : List X) (m : List ℕ × X) (all left : List (List ℕ × X)) → so_far ++ member_values all ≡ whole → all ≡ m ∷ left → next ≡ so_far ++ m.1 ∷ [] → next ++ member_values left ≡ whole
members_more so_far next whole m all left h s e =
    ap (λ r. r ++ member_values left) e ∙ append_assoc so_far (m.1 ∷ []) (member_values left) ∙ ap (λ ms. so_far ++ member_values ms) (sym s) ∙ h

-- one more of the members, if those of the name k are appended: one that has it
pub named_more : {X : Type 0} (k : List ℕ) (so_far next whole : List X) (m : List ℕ × X) (all left : List (List ℕ × X)) → so_far ++ member_values (with_name k all) ≡ whole → all ≡ m ∷ left → bytes_eq m.0 k ≡ true → next ≡ so_far ++ m.1 ∷ []
    → next ++ member_values (with_name k left) ≡ whole
named_more k so_far next whole m all left h s same e =
    ap (λ r. r ++ member_values (with_name k left)) e
    ∙ append_assoc so_far (m.1 ∷ []) (member_values (with_name k left))
    ∙ ap (λ b. so_far ++ member_values (cond b (m ∷ with_name k left) (with_name k left))) (sym same)
    ∙ ap (λ ms. so_far ++ member_values (with_name k ms)) (sym s)
    ∙ h

-- one that has another
pub named_as : {X : Type 0} (k : List ℕ) (so_far whole : List X) (m : List ℕ × X) (all left : List (List ℕ × X)) → so_far ++ member_values (with_name k all) ≡ whole → all ≡ m ∷ left → bytes_eq m.0 k ≡ false → so_far ++ member_values (with_name k left) ≡ whole
named_as k so_far whole m all left h s other =
    ap (λ b. so_far ++ member_values (cond b (m ∷ with_name k left) (with_name k left))) (sym other) ∙ ap (λ ms. so_far ++ member_values (with_name k ms)) (sym s) ∙ h

-- one more from the end of a list that is appended in reverse
pub reversed_more : {X : Type 0} (so_far next whole : List X) (x : X) (all left : List X) → so_far ++ reverse all ≡ whole → all ≡ left ++ x ∷ [] → next ≡ so_far ++ x ∷ [] → next ++ reverse left ≡ whole
reversed_more so_far next whole x all left h s e =
    ap (λ r. r ++ reverse left) e ∙ append_assoc so_far (x ∷ []) (reverse left) ∙ ap (λ r. so_far ++ r) (sym (reverse-append left (x ∷ []))) ∙ ap (λ xs. so_far ++ reverse xs) (sym s) ∙ h

-- pairs of an index and an element: those that pass, and the elements alone
abbrev passing : {X : Type 0} → (ℕ → Bool) → ℕ → List X → List (ℕ × X)
passing {X} test i ts = filter (λ (q : ℕ × X). test q.0) (enumerate_from i ts)

abbrev second : {X : Type 0} → List (ℕ × X) → List X
second {X} qs = map (λ (q : ℕ × X). q.1) qs

first_passes : {X : Type 0} (test : ℕ → Bool) (i : ℕ) (t : X) (ts : List X) → test i ≡ true → items_from test i (t ∷ ts) ≡ t ∷ items_from test (i + 1) ts
first_passes test i t ts e = ap (λ b. second (cond b ((i, t) ∷ passing test (i + 1) ts) (passing test (i + 1) ts))) e

first_fails : {X : Type 0} (test : ℕ → Bool) (i : ℕ) (t : X) (ts : List X) → test i ≡ false → items_from test i (t ∷ ts) ≡ items_from test (i + 1) ts
first_fails test i t ts e = ap (λ b. second (cond b ((i, t) ∷ passing test (i + 1) ts) (passing test (i + 1) ts))) e

-- one more of the elements, if those whose index passes a test are appended: one whose index i does
pub indexes_more : {X : Type 0} (test : ℕ → Bool) (so_far next whole : List X) (i j : ℕ) (t : X) (all left : List X) → so_far ++ items_from test i all ≡ whole → all ≡ t ∷ left → j ≡ i + 1 → test i ≡ true → next ≡ so_far ++ t ∷ []
    → next ++ items_from test j left ≡ whole
indexes_more test so_far next whole i j t all left h s n pass e =
    ap (λ r. r ++ items_from test j left) e
    ∙ append_assoc so_far (t ∷ []) (items_from test j left)
    ∙ ap (λ k. so_far ++ (t ∷ items_from test k left)) n
    ∙ ap (λ r. so_far ++ r) (sym (first_passes test i t left pass))
    ∙ ap (λ us. so_far ++ items_from test i us) (sym s)
    ∙ h

-- one whose index does not
pub indexes_as : {X : Type 0} (test : ℕ → Bool) (so_far whole : List X) (i j : ℕ) (t : X) (all left : List X) → so_far ++ items_from test i all ≡ whole → all ≡ t ∷ left → j ≡ i + 1 → test i ≡ false → so_far ++ items_from test j left ≡ whole
indexes_as test so_far whole i j t all left h s n fail =
    ap (λ k. so_far ++ items_from test k left) n ∙ ap (λ r. so_far ++ r) (sym (first_fails test i t left fail)) ∙ ap (λ us. so_far ++ items_from test i us) (sym s) ∙ h

-- the same by how many of len elements are left: one whose index passes
pub picked_more : {X : Type 0} (test : ℕ → Bool) (so_far next whole : List X) (len left : ℕ) (t : X) (all rest : List X) → so_far ++ items_from test (len - left) all ≡ whole → all ≡ t ∷ rest → left ≡ length all → left ≤ len → test (len - 1 - (left - 1)) ≡ true
    → next ≡ so_far ++ t ∷ [] → next ++ items_from test (len - (left - 1)) rest ≡ whole
picked_more test so_far next whole len left t all rest h s n w pass e =
    let some : left ≡ suc (length rest) = n ∙ ap length s in
    let here : len - 1 - (left - 1) ≡ len - left = omega arith in
    let after : len - (left - 1) ≡ (len - left) + 1 = omega arith in
    indexes_more test so_far next whole (len - left) (len - (left - 1)) t all rest h s after (ap test (sym here) ∙ pass) e

-- and one whose index does not
pub picked_as : {X : Type 0} (test : ℕ → Bool) (so_far whole : List X) (len left : ℕ) (t : X) (all rest : List X) → so_far ++ items_from test (len - left) all ≡ whole → all ≡ t ∷ rest → left ≡ length all → left ≤ len → test (len - 1 - (left - 1)) ≡ false
    → so_far ++ items_from test (len - (left - 1)) rest ≡ whole
picked_as test so_far whole len left t all rest h s n w fail =
    let some : left ≡ suc (length rest) = n ∙ ap length s in
    let here : len - 1 - (left - 1) ≡ len - left = omega arith in
    let after : len - (left - 1) ≡ (len - left) + 1 = omega arith in
    indexes_as test so_far whole (len - left) (len - (left - 1)) t all rest h s after (ap test (sym here) ∙ fail)

-- ---- the items left of a list

pub drop_item : {X : Type 0} (xs : List X) (i : ℕ) (x : X) → i < length xs → x ≡ get_or xs i x → drop i xs ≡ x ∷ drop (i + 1) xs
drop_item xs i x l e = drop_more xs i x l ∙ ap (λ y. y ∷ drop (i + 1) xs) (sym e)

-- ---- items by their index

-- the item after these, at the index i
pub item_after : {X : Type 0} (us : List X) (x : X) (vs : List X) (i : ℕ) → length us ≡ i → slice_get (us ++ x ∷ vs) i ≡ Some x
item_after {X} us x vs i n = sym (ap (slice_get (us ++ x ∷ vs)) n) ∙ by us
  where
    by : (ws : List X) → slice_get (ws ++ x ∷ vs) (length ws) ≡ Some x
    by [] = refl
    by (w ∷ ws) = by ws

pub one_longer : {X : Type 0} (us : List X) (x : X) (i : ℕ) → length us ≡ i → length (us ++ x ∷ []) ≡ suc i
one_longer us x i n = omega (arith, length-append us (x ∷ []), n)
