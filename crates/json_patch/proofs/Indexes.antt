-- Tokens that are indexes.
use Rattle.std.proofs.Common.{◌≡◌, ℕ, ◌+◌, ◌-◌, ◌*◌, ◌/◌, ◌%◌, ◌<◌, ◌≤◌, List, [], ◌∷◌, ◌++◌, Bool, true, false, cond, not, ◌&&◌, ◌==◌, nat_le, Option, Some, None, refl, ap, ap₂, ◌∙◌, ne_eqb, le-leb, le-ltb, lt-ltb, leb-true, zero-add, arith, inl, inr, sym}
use Rattle.std.specs.Char.{digit_value}
use Rattle.std.specs.Str.Parse.{IsNumeral, AllDigits, digits_value, digits_value_after}
use Rattle.std.proofs.lemmas.Fmt.{decimal_by_steps}
use Rattle.std.proofs.lemmas.Bool.{and_parts, and_from, cases_lt}
use Rattle.json_patch.specs.Pointer.{ReferenceToken, is_decimal_digit, index_after, index_of_token}
use Rattle.json_patch.specs.Laws.{DecimalIsIndex, IndexIsNumeral, NumeralIsIndex}

some_same : (x y : ℕ) → Some x ≡ Some y → x ≡ y
some_same x y e = cc

none_some : (x : ℕ) → None ≡ Some x → ⊥
none_some x e = cc

-- ---- digits

digit_bounds : (x : ℕ) → is_decimal_digit x ≡ true → (48 ≤ x) × (x ≤ 57)
digit_bounds x h = let a = and_parts (nat_le 48 x) (nat_le x 57) h in (leb-true 48 x a.0, leb-true x 57 a.1)

bounds_digit : (x : ℕ) → 48 ≤ x → x ≤ 57 → is_decimal_digit x ≡ true
bounds_digit x l h = and_from (nat_le 48 x) (nat_le x 57) (le-leb 48 x l) (le-leb x 57 h)

value_of_digit : (x : ℕ) → is_decimal_digit x ≡ true → digit_value x ≡ x - 48
value_of_digit x h = let a = digit_bounds x h in rw (le-ltb x 48 a.0, lt-ltb x 58 (omega arith)) refl

digit_small : (x : ℕ) → is_decimal_digit x ≡ true → digit_value x < 10
digit_small x h = let a = digit_bounds x h in let e = value_of_digit x h in omega arith

-- ---- what an index is the numeral of

after_value : (n : ℕ) (s : List ℕ) (i : ℕ) → index_after n s ≡ Some i → AllDigits 10 s × (digits_value_after 10 n s ≡ i)
after_value n [] i h = (tt, some_same n i h)
after_value n (x ∷ s) i h = by (is_decimal_digit x) refl h (after_value (n * 10 + (x - 48)) s i)
  where
    by : (b : Bool) → is_decimal_digit x ≡ b → elim b as (λ _. Option ℕ) [ true ↦ index_after (n * 10 + (x - 48)) s | false ↦ None ] ≡ Some i
        → (index_after (n * 10 + (x - 48)) s ≡ Some i → AllDigits 10 s × (digits_value_after 10 (n * 10 + (x - 48)) s ≡ i))
        → AllDigits 10 (x ∷ s) × (digits_value_after 10 n (x ∷ s) ≡ i)
    by true e h j = let a = j h in ((digit_small x e, a.0), ap (λ d. digits_value_after 10 (n * 10 + d) s) (value_of_digit x e) ∙ a.1)
    by false e h j = absurd (none_some i h)

pub index_is_numeral : IndexIsNumeral
index_is_numeral [] i h = absurd (none_some i h)
index_is_numeral (x ∷ []) i h = by (is_decimal_digit x) refl h
  where
    by : (b : Bool) → is_decimal_digit x ≡ b → cond b (Some (x - 48)) None ≡ Some i → IsNumeral 10 (x ∷ []) × (digits_value 10 (x ∷ []) ≡ i)
    by true e h = ((omega arith, (digit_small x e, tt)), zero-add (digit_value x) ∙ value_of_digit x e ∙ some_same (x - 48) i h)
    by false e h = absurd (none_some i h)
index_is_numeral (x ∷ y ∷ s) i h = by (is_decimal_digit x && not (x == 48)) refl h
  where
    by : (b : Bool) → (is_decimal_digit x && not (x == 48)) ≡ b → elim b as (λ _. Option ℕ) [ true ↦ index_after (x - 48) (y ∷ s) | false ↦ None ] ≡ Some i
        → IsNumeral 10 (x ∷ y ∷ s) × (digits_value 10 (x ∷ y ∷ s) ≡ i)
    by true e h =
        let d = (and_parts (is_decimal_digit x) (not (x == 48)) e).0 in
        let a = after_value (x - 48) (y ∷ s) i h in
        ((omega arith, (digit_small x d, a.0)), ap (λ n. digits_value_after 10 n (y ∷ s)) (zero-add (digit_value x) ∙ value_of_digit x d) ∙ a.1)
    by false e h = absurd (none_some i h)

-- ---- the index that decimal digits are

one_digit : (n : ℕ) → n < 10 → index_of_token ((48 + n) ∷ []) ≡ Some n
one_digit n l =
    let e : 48 + n - 48 ≡ n = omega arith in
    ap (λ b. cond b (Some (48 + n - 48)) None) (bounds_digit (48 + n) (omega arith) (omega arith)) ∙ ap Some e

after_more : (n : ℕ) (s : List ℕ) (m d : ℕ) → d < 10 → index_after n s ≡ Some m → index_after n (s ++ (48 + d) ∷ []) ≡ Some (m * 10 + d)
after_more n [] m d l h =
    let e : 48 + d - 48 ≡ d = omega arith in
    ap (λ b. elim b as (λ _. Option ℕ) [ true ↦ Some (n * 10 + (48 + d - 48)) | false ↦ None ]) (bounds_digit (48 + d) (omega arith) (omega arith))
    ∙ ap₂ (λ x y. Some (x * 10 + y)) (some_same n m h) e
after_more n (x ∷ s) m d l h = by (is_decimal_digit x) h (after_more (n * 10 + (x - 48)) s m d l)
  where
    by : (b : Bool) → elim b as (λ _. Option ℕ) [ true ↦ index_after (n * 10 + (x - 48)) s | false ↦ None ] ≡ Some m
        → (index_after (n * 10 + (x - 48)) s ≡ Some m → index_after (n * 10 + (x - 48)) (s ++ (48 + d) ∷ []) ≡ Some (m * 10 + d))
        → elim b as (λ _. Option ℕ) [ true ↦ index_after (n * 10 + (x - 48)) (s ++ (48 + d) ∷ []) | false ↦ None ] ≡ Some (m * 10 + d)
    by true h j = j h
    by false h j = absurd (none_some m h)

more_digits : (k : ReferenceToken) (m d : ℕ) → 0 < m → d < 10 → index_of_token k ≡ Some m → index_of_token (k ++ (48 + d) ∷ []) ≡ Some (m * 10 + d)
more_digits [] m d p l h = absurd (none_some m h)
more_digits (x ∷ []) m d p l h = by (is_decimal_digit x) refl h
  where
    first : is_decimal_digit x ≡ true → x - 48 ≡ m → (is_decimal_digit x && not (x == 48)) ≡ true
    first e f = and_from (is_decimal_digit x) (not (x == 48)) e (ap not (ne_eqb x 48 (λ g. let z : x - 48 ≡ 0 = omega arith in omega arith)))

    by : (b : Bool) → is_decimal_digit x ≡ b → cond b (Some (x - 48)) None ≡ Some m → index_of_token (x ∷ (48 + d) ∷ []) ≡ Some (m * 10 + d)
    by true e h =
        let f = some_same (x - 48) m h in
        ap (λ b. elim b as (λ _. Option ℕ) [ true ↦ index_after (x - 48) ((48 + d) ∷ []) | false ↦ None ]) (first e f) ∙ after_more (x - 48) [] m d l (ap Some f)
    by false e h = absurd (none_some m h)
more_digits (x ∷ y ∷ s) m d p l h = by (is_decimal_digit x && not (x == 48)) h
  where
    by : (b : Bool) → elim b as (λ _. Option ℕ) [ true ↦ index_after (x - 48) (y ∷ s) | false ↦ None ] ≡ Some m
        → elim b as (λ _. Option ℕ) [ true ↦ index_after (x - 48) (y ∷ (s ++ (48 + d) ∷ [])) | false ↦ None ] ≡ Some (m * 10 + d)
    by true h = after_more (x - 48) (y ∷ s) m d l h
    by false h = absurd (none_some m h)

pub decimal_is_index : DecimalIsIndex
decimal_is_index i l = decimal_by_steps (λ n ds. index_of_token ds ≡ Some n) one_digit steps i l
  where
    steps : (n : ℕ) (ds : List ℕ) → 10 ≤ n → index_of_token ds ≡ Some (n / 10) → index_of_token (ds ++ (48 + n % 10) ∷ []) ≡ Some n
    steps n ds g h =
        let e : n / 10 * 10 + n % 10 ≡ n = omega arith in
        more_digits ds (n / 10) (n % 10) (omega arith) (omega arith) h ∙ ap Some e

-- ---- a numeral is an index

digit_back : (x : ℕ) → digit_value x < 10 → is_decimal_digit x ≡ true
digit_back x h =
    elim (cases_lt x 48) [
      | inl a ↦ absurd (let e : digit_value x ≡ 36 = rw (lt-ltb x 48 a) refl in omega arith)
      | inr a ↦ elim (cases_lt x 58) [
        | inl b ↦ bounds_digit x a (omega arith)
        | inr b ↦ elim (cases_lt x 65) [
          | inl c ↦ absurd (let e : digit_value x ≡ 36 = rw (le-ltb x 48 a, le-ltb x 58 b, lt-ltb x 65 c) refl in omega arith)
          | inr c ↦ elim (cases_lt x 91) [
            | inl d ↦ absurd (let e : digit_value x ≡ x - 55 = rw (le-ltb x 48 a, le-ltb x 58 b, le-ltb x 65 c, lt-ltb x 91 d) refl in omega arith)
            | inr d ↦ elim (cases_lt x 97) [
              | inl f ↦ absurd (let e : digit_value x ≡ 36 = rw (le-ltb x 48 a, le-ltb x 58 b, le-ltb x 65 c, le-ltb x 91 d, lt-ltb x 97 f) refl in omega arith)
              | inr f ↦ elim (cases_lt x 123) [
                | inl g ↦ absurd (let e : digit_value x ≡ x - 87 = rw (le-ltb x 48 a, le-ltb x 58 b, le-ltb x 65 c, le-ltb x 91 d, le-ltb x 97 f, lt-ltb x 123 g) refl in omega arith)
                | inr g ↦ absurd (let e : digit_value x ≡ 36 = rw (le-ltb x 48 a, le-ltb x 58 b, le-ltb x 65 c, le-ltb x 91 d, le-ltb x 97 f, le-ltb x 123 g) refl in omega arith)
              ]
            ]
          ]
        ]
      ]
    ]

numeral_after : (n : ℕ) (s : List ℕ) → AllDigits 10 s → index_after n s ≡ Some (digits_value_after 10 n s)
numeral_after n [] h = refl
numeral_after n (x ∷ s) h =
    let d = digit_back x h.0 in
    ap (λ b. elim b as (λ _. Option ℕ) [ true ↦ index_after (n * 10 + (x - 48)) s | false ↦ None ]) d
    ∙ ap (λ m. index_after (n * 10 + m) s) (sym (value_of_digit x d))
    ∙ numeral_after (n * 10 + digit_value x) s h.1

no_zero : (x y : ℕ) (s : List ℕ) → x ∷ y ∷ s ≡ 48 ∷ [] → ⊥
no_zero x y s e = cc

pub numeral_is_index : NumeralIsIndex
numeral_is_index [] h z = absurd (omega arith)
numeral_is_index (x ∷ []) h z =
    let d = digit_back x h.1.0 in
    ap (λ b. cond b (Some (x - 48)) None) d ∙ ap Some (sym (zero-add (digit_value x) ∙ value_of_digit x d))
numeral_is_index (x ∷ y ∷ s) h z =
    let d = digit_back x h.1.0 in
    let n : (is_decimal_digit x && not (x == 48)) ≡ true = and_from (is_decimal_digit x) (not (x == 48)) d (ap not (ne_eqb x 48 (elim z [ inl e ↦ absurd (no_zero x y s e) | inr f ↦ f ]))) in
    ap (λ b. elim b as (λ _. Option ℕ) [ true ↦ index_after (x - 48) (y ∷ s) | false ↦ None ]) n
    ∙ numeral_after (x - 48) (y ∷ s) h.1.1
    ∙ ap (λ m. Some (digits_value_after 10 m (y ∷ s))) (sym (zero-add (digit_value x) ∙ value_of_digit x d))
