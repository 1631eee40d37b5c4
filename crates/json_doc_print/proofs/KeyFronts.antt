-- Keys with the numbers of their first eight bytes before them are in the order of the keys.
use Rattle.std.proofs.Common.{◌≡◌, ℕ, zero, suc, ◌+◌, ◌*◌, ◌^◌, ◌<◌, ◌≤◌, ◌⊎◌, List, [], ◌∷◌, ◌++◌, Bool, true, false, cond, Some, nat_lt, get_or, drop, length, map, refl, sym, ap, ap₂, subst, ◌∙◌, arith, inl, inr}
use Rattle.std.proofs.lemmas.Bool.{cases_lt, lt-ltb, le-ltb}
use Rattle.std.proofs.lemmas.List.{get_or-map, length-map}
use Rattle.std.proofs.lemmas.Nat.{row_fits, pow-add}
use Rattle.std.specs.Prelude.{slice_get}
use Rattle.std.specs.declared.cmp.Ordering.{Ordering}
use Rattle.std.specs.declared.cmp.Ordering.TheVariants.{Less, Equal, Greater}
use Rattle.std.specs.Ordering.{ordering_then}
use Rattle.json_grammar.specs.Sizes.{nodes, pairs_nodes}
use Rattle.json_grammar.specs.Tree.{list_pairs}
use Rattle.json_model.specs.Sort.{bytes_less}
use Rattle.json_doc.specs.Docs.{doc_tree}
use Rattle.json_doc.specs.Left.{doc_pair}
use Rattle.json_doc.specs.declared.doc.Doc.{Doc}
use Rattle.json_doc.specs.OpenNames.{front_of}
use Rattle.json_print.specs.Orders.{NumberedKey, IsMember, Rise, numbered_in, inserted_pairs}
use Rattle.json_print.proofs.Orders.{all_in}
use Rattle.json_doc_print.specs.KeyOrder.{key_and_number, IsKeyOrder, IsEntry, AreEntries, numbers_in, key_before}
use Rattle.json_doc_print.specs.declared.key_order.IndexedMember.{IndexedMember}
use Rattle.json_doc_print.proofs.KeyOrders.{place_in, place_value}
use Rattle.json_doc_print.proofs.Items.{item_there}

abbrev AreBytes : List ℕ → Type 0
AreBytes s = (i : ℕ) → get_or s i 0 < 256

-- ---- the number of the first k bytes

abbrev lead : ℕ → List ℕ → ℕ
lead zero s = 0
lead (suc k) [] = 0
lead (suc k) (x ∷ s) = x * 256 ^ k + lead k s

front_is : (s : List ℕ) → front_of s ≡ lead 8 s
front_is [] = refl
front_is (a ∷ []) = omega arith
front_is (a ∷ b ∷ []) = omega arith
front_is (a ∷ b ∷ c ∷ []) = omega arith
front_is (a ∷ b ∷ c ∷ d ∷ []) = omega arith
front_is (a ∷ b ∷ c ∷ d ∷ e ∷ []) = omega arith
front_is (a ∷ b ∷ c ∷ d ∷ e ∷ f ∷ []) = omega arith
front_is (a ∷ b ∷ c ∷ d ∷ e ∷ f ∷ g ∷ []) = omega arith
front_is (a ∷ b ∷ c ∷ d ∷ e ∷ f ∷ g ∷ h ∷ s) = omega arith

more : (k : ℕ) → 256 ^ suc k ≡ 256 * 256 ^ k
more k = let next : suc k ≡ 1 + k = omega arith in ap (λ n. 256 ^ n) next ∙ pow-add 256 1 k

lead_below : (k : ℕ) (s : List ℕ) → AreBytes s → lead k s < 256 ^ k
lead_below zero s h = omega arith
lead_below (suc k) [] h = omega (arith, more k, lead_below k [] (λ i. omega arith))
lead_below (suc k) (x ∷ s) h = omega (arith, more k, row_fits x (256 ^ k) 256 (256 ^ k) (h 0) (omega arith), lead_below k s (λ i. h (suc i)))

true_false : {A : Type 0} → true ≡ false → A
true_false e = absurd (cc)

-- where one list is not less than another, neither is its number
lead_not_less : (k : ℕ) (a b : List ℕ) → AreBytes b → bytes_less a b ≡ false → lead k b ≤ lead k a
lead_not_less zero a b h e = omega arith
lead_not_less (suc k) a [] h e = omega arith
lead_not_less (suc k) [] (y ∷ b) h e = true_false e
lead_not_less (suc k) (x ∷ a) (y ∷ b) h e = go (cases_lt x y) (cases_lt y x) (lead_not_less k a b (λ i. h (suc i)))
  where
    go : (x < y) ⊎ (y ≤ x) → (y < x) ⊎ (x ≤ y) → (bytes_less a b ≡ false → lead k b ≤ lead k a) → y * 256 ^ k + lead k b ≤ x * 256 ^ k + lead k a
    go (inl l) m ih = true_false (ap (λ c. cond c true (cond (nat_lt y x) false (bytes_less a b))) (sym (lt-ltb x y l)) ∙ e)
    go (inr g) (inl l) ih = omega (arith, row_fits y (256 ^ k) x (256 ^ k) l (omega arith), lead_below k b (λ i. h (suc i)))
    go (inr g) (inr m) ih =
        let same : x ≡ y = omega arith in
        let rest : bytes_less a b ≡ false = ap₂ (λ c d. cond c true (cond d false (bytes_less a b))) (sym (le-ltb x y g)) (sym (le-ltb y x m)) ∙ e in
        omega (arith, ap (λ n. n * 256 ^ k) same, ih rest)

-- no list is less than one that is less
less_one_way : (a b : List ℕ) → bytes_less a b ≡ true → bytes_less b a ≡ false
less_one_way [] [] e = true_false (sym e)
less_one_way [] (y ∷ b) e = refl
less_one_way (x ∷ a) [] e = true_false (sym e)
less_one_way (x ∷ a) (y ∷ b) e = go (cases_lt x y) (cases_lt y x) (less_one_way a b)
  where
    go : (x < y) ⊎ (y ≤ x) → (y < x) ⊎ (x ≤ y) → (bytes_less a b ≡ true → bytes_less b a ≡ false) → cond (nat_lt y x) true (cond (nat_lt x y) false (bytes_less b a)) ≡ false
    go (inl l) (inl m) ih = absurd (omega arith)
    go (inl l) (inr m) ih = rw (le-ltb y x m, lt-ltb x y l) refl
    go (inr g) (inl m) ih = true_false (sym (ap₂ (λ c d. cond c true (cond d false (bytes_less a b))) (sym (le-ltb x y g)) (sym (lt-ltb y x m)) ∙ e))
    go (inr g) (inr m) ih =
        let rest : bytes_less a b ≡ true = ap₂ (λ c d. cond c true (cond d false (bytes_less a b))) (sym (le-ltb x y g)) (sym (le-ltb y x m)) ∙ e in
        rw (le-ltb y x m, le-ltb x y g) (ih rest)

-- a list with its number before it
abbrev pub fronted : List ℕ → List ℕ
fronted s = front_of s ∷ s

-- two lists with their numbers before them are ordered as without them
less_fronted : (a b : List ℕ) → AreBytes a → AreBytes b → bytes_less (fronted a) (fronted b) ≡ bytes_less a b
less_fronted a b h k = go (cases_lt (front_of a) (front_of b)) (cases_lt (front_of b) (front_of a)) (bytes_less a b) refl
  where
    go : (front_of a < front_of b) ⊎ (front_of b ≤ front_of a) → (front_of b < front_of a) ⊎ (front_of a ≤ front_of b) → (c : Bool) → bytes_less a b ≡ c
        → cond (nat_lt (front_of a) (front_of b)) true (cond (nat_lt (front_of b) (front_of a)) false (bytes_less a b)) ≡ bytes_less a b
    go (inl l) m true e = rw (lt-ltb (front_of a) (front_of b) l) (sym e)
    go (inl l) m false e = absurd (omega (arith, front_is a, front_is b, lead_not_less 8 a b k e, l))
    go (inr g) (inl m) false e = rw (le-ltb (front_of a) (front_of b) g, lt-ltb (front_of b) (front_of a) m) (sym e)
    go (inr g) (inl m) true e = absurd (omega (arith, front_is a, front_is b, lead_not_less 8 b a h (less_one_way a b e), m))
    go (inr g) (inr m) c e = rw (le-ltb (front_of a) (front_of b) g, le-ltb (front_of b) (front_of a) m) refl

-- ---- what has been sorted with its numbers

abbrev plain : NumberedKey → NumberedKey
plain x = (drop 1 x.0, x.1)

abbrev IsFronted : NumberedKey → Type 0
IsFronted x = (s : List ℕ) × (x.0 ≡ fronted s) × AreBytes s

less_plain : (x y : NumberedKey) → IsFronted x → IsFronted y → bytes_less y.0 x.0 ≡ bytes_less (plain y).0 (plain x).0
less_plain x y h k = rw (h.1, k.1) (less_fronted k.0 h.0 k.2 h.2)

plain_inserted : (x : NumberedKey) (ys : List NumberedKey) → IsFronted x → ((y : NumberedKey) → IsMember y ys → IsFronted y) → map plain (numbered_in x ys) ≡ numbered_in (plain x) (map plain ys)
plain_inserted x [] h k = refl
plain_inserted x (y ∷ ys) h k = go (bytes_less y.0 x.0) (bytes_less (plain y).0 (plain x).0) (less_plain x y h (k y (inl refl))) (plain_inserted x ys h (λ z i. k z (inr i)))
  where
    go : (b c : Bool) → b ≡ c → map plain (numbered_in x ys) ≡ numbered_in (plain x) (map plain ys)
        → map plain (cond b (y ∷ numbered_in x ys) (x ∷ y ∷ ys)) ≡ cond c (plain y ∷ numbered_in (plain x) (map plain ys)) (plain x ∷ plain y ∷ map plain ys)
    go true true e ih = ap (λ zs. plain y ∷ zs) ih
    go true false e ih = true_false e
    go false true e ih = true_false (sym e)
    go false false e ih = refl

plain_all : (xs : List NumberedKey) → ((x : NumberedKey) → IsMember x xs → IsFronted x) → map plain (inserted_pairs xs) ≡ inserted_pairs (map plain xs)
plain_all [] h = refl
plain_all (x ∷ xs) h =
    plain_inserted x (inserted_pairs xs) (h x (inl refl)) (λ y i. h y (inr (all_in y xs i))) ∙ ap (numbered_in (plain x)) (plain_all xs (λ y i. h y (inr i)))

-- ---- entries

-- the key of an entry's member, with the entry's number of its first bytes before it
abbrev pub fronted_pair : (ℕ → List ℕ) → IndexedMember → NumberedKey
fronted_pair key e = (e.front ∷ key e.number, e.number)

entries_fronted : (key : ℕ → List ℕ) (es : List IndexedMember) → AreEntries key es → (x : NumberedKey) → IsMember x (map (fronted_pair key) es) → IsFronted x
entries_fronted key [] h x i = absurd i
entries_fronted key (e ∷ es) h x (inl q) = (key e.number, ap (λ (y : NumberedKey). y.0) q ∙ ap (λ n. n ∷ key e.number) h.0.0, h.0.1)
entries_fronted key (e ∷ es) h x (inr i) = entries_fronted key es h.1 x i

plain_keyed : (key : ℕ → List ℕ) (es : List IndexedMember) → map plain (map (fronted_pair key) es) ≡ map (key_and_number key) (numbers_in es)
plain_keyed key [] = refl
plain_keyed key (e ∷ es) = ap (λ ps. key_and_number key e.number ∷ ps) (plain_keyed key es)

-- sorted by the first bytes, the keys and the numbers they are in the order of the keys
pub order_by_fronts : (key : ℕ → List ℕ) (xs ys : List IndexedMember) → AreEntries key xs → map (fronted_pair key) ys ≡ inserted_pairs (map (fronted_pair key) xs) → IsKeyOrder key (numbers_in xs) (numbers_in ys)
order_by_fronts key xs ys h e =
    sym (plain_keyed key ys) ∙ ap (map plain) e ∙ plain_all (map (fronted_pair key) xs) (entries_fronted key xs h) ∙ ap inserted_pairs (plain_keyed key xs)

pub then_then : (a b c : Ordering) → ordering_then a (ordering_then b c) ≡ ordering_then (ordering_then a b) c
then_then Less b c = refl
then_then Equal b c = refl
then_then Greater b c = refl

-- their numbers rise as those of the members do
number_among : (key : ℕ → List ℕ) (es : List IndexedMember) (z : NumberedKey) → IsMember z (map (fronted_pair key) es) → (w : NumberedKey) × IsMember w (map (key_and_number key) (numbers_in es)) × (w.1 ≡ z.1)
number_among key [] z i = absurd i
number_among key (e ∷ es) z (inl q) = (key_and_number key e.number, inl refl, ap (λ (y : NumberedKey). y.1) (sym q))
number_among key (e ∷ es) z (inr i) = let r = number_among key es z i in (r.0, inr r.1, r.2)

pub rise_fronted : (key : ℕ → List ℕ) (es : List IndexedMember) → Rise (map (key_and_number key) (numbers_in es)) → Rise (map (fronted_pair key) es)
rise_fronted key [] h = tt
rise_fronted key (e ∷ es) h = (λ z i. let r = number_among key es z i in subst (λ n. e.number < n) r.2 (h.0 r.0 r.1), rise_fronted key es h.1)

-- one more
pub one_more_entry : (key : ℕ → List ℕ) (es : List IndexedMember) (e : IndexedMember) → AreEntries key es → IsEntry key e → AreEntries key (es ++ e ∷ [])
one_more_entry key [] e h i = (i, tt)
one_more_entry key (x ∷ es) e h i = (h.0, one_more_entry key es e h.1 i)

pub one_more_number : (es : List IndexedMember) (e : IndexedMember) → numbers_in (es ++ e ∷ []) ≡ numbers_in es ++ e.number ∷ []
one_more_number [] e = refl
one_more_number (x ∷ es) e = ap (λ ns. x.number ∷ ns) (one_more_number es e)

-- ---- the entry at a place of an index

abbrev pub number_of : List IndexedMember → ℕ → ℕ
number_of es i = (get_or es i (record { front = 0; number = 0 })).number

pub numbered : (es : List IndexedMember) (i : ℕ) → i < length es → i < length (numbers_in es)
numbered es i l = omega (arith, l, length-map es (λ (e : IndexedMember). e.number))

pub number_there : (es : List IndexedMember) (i : ℕ) → i < length es → get_or (numbers_in es) i 0 ≡ number_of es i
number_there es i l = get_or-map (λ (e : IndexedMember). e.number) es i (record { front = 0; number = 0 }) 0 l

pub entry_there : {X : Type 0} (f : ℕ → X) (es : List IndexedMember) (i : ℕ) → i < length es → slice_get (map f (numbers_in es)) i ≡ Some (f (number_of es i))
entry_there f es i l =
    let ns = numbers_in es in let n = number_of es i in
    item_there f ns ns i n refl (numbered es i l) (sym (get_or-map (λ (e : IndexedMember). e.number) es i (record { front = 0; number = 0 }) n l))

pub entries_end : {X : Type 0} (f : ℕ → X) (es : List IndexedMember) (i : ℕ) → length es ≤ i → length (map f (numbers_in es)) ≤ i
entries_end f es i l = omega (arith, l, length-map (numbers_in es) f, length-map es (λ (e : IndexedMember). e.number))

-- of an index of a document's members
module _ (d e : Doc) (places : List ℕ) (es : List IndexedMember) (same : e ≡ d) (is : IsKeyOrder (key_before d) places (numbers_in es)) where
  pub entry_in : (i : ℕ) → i < length es → IsMember (number_of es i) places
  entry_in i l = subst (λ n. IsMember n places) (number_there es i l) (place_in d e places (numbers_in es) same is i (numbered es i l))

  pub entry_tree : (i : ℕ) → i < length es → nodes (doc_tree d (number_of es i)) ≤ pairs_nodes (list_pairs (map (doc_pair e) places))
  entry_tree i l = subst (λ n. nodes (doc_tree d n) ≤ pairs_nodes (list_pairs (map (doc_pair e) places))) (number_there es i l) (place_value d e places (numbers_in es) same is i (numbered es i l))
