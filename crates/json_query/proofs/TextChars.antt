-- Steps of a reader of a query's text by characters.
use Rattle.std.proofs.Common.{◌≡◌, ◌≢◌, ◌⊎◌, inl, inr, ℕ, suc, ◌+◌, ◌*◌, ◌-◌, ◌^◌, ◌<◌, ◌≤◌, pos, neg_ℤ, ◌-ℤ◌, to_z, of_z, w64, List, [], ◌∷◌, ◌++◌, length, Bool, true, refl, sym, ap, ◌∙◌, subst, length-append, arith}
use Rattle.std.specs.Char.{encode_utf8, digit_value}
use Rattle.std.proofs.lemmas.Bool.{cases_lt, cond-false, le-ltb}
use Rattle.std.proofs.lemmas.Bool.Decides.{nat_tests}
use Rattle.std.proofs.lemmas.Int.{ints}
use Rattle.std.proofs.lemmas.Str.{encode_ascii}
use Rattle.json_query.specs.declared.error.Fault.{Fault}
use Rattle.json_query.specs.declared.error.QueryCode.{QueryCode}
use Rattle.json_query.specs.declared.error.QueryCode.TheVariants as code
use Rattle.json_query.specs.declared.cursor.Class.{Class}
use Rattle.json_query.specs.declared.cursor.Class.TheVariants.{Blank, Minus, ZeroDigit, Digit, BeyondAscii, Other}
use Rattle.json_query.specs.Reading.{ClassAt, Skips, NoDigit, BeginsInteger, starts, starts_integer}
use Rattle.json_query.specs.TextStates.{class_of, Brackets, IntegerRole, State, after_minus, in_integer, after_integer, goes_to, stops, step, digit_step, more_step, minus_step, is_refused, outcome}
use Rattle.json_query.proofs.TextClasses.{InClass, in_class, class_high, class_digit, class_any_digit, goes, halts}
use Rattle.json_query.proofs.TextReading.{digit_goes, start_minus, start_zero}
use Rattle.json_query.proofs.TextStops.{HighBytes, high_bytes}

-- the first character of a text
pub class_at_char : (c : ℕ) (b r : List ℕ) → b ≡ encode_utf8 c ++ r → ClassAt (class_of c) b r
class_at_char c b r e = by (cases_lt c 128)
  where
    by : (c < 128) ⊎ (128 ≤ c) → ClassAt (class_of c) b r
    by (inl l) =
        let row : b ≡ c ∷ r = e ∙ ap (λ u. u ++ r) (encode_ascii c l) in
        record { at_end = λ f. let g : [] ≡ c ∷ r = sym f ∙ row in cc; at_byte = λ x d f. let g : x ∷ d ≡ c ∷ r = sym f ∙ row in let same : x ≡ c = cc in ap class_of same; after = λ f g. (c, row) }
    by (inr g) =
        let h : HighBytes c = high_bytes c g in
        let row : b ≡ h.first ∷ (h.others ++ r) = e ∙ ap (λ u. u ++ r) h.row in
        record {
          at_end = λ f. let g : [] ≡ h.first ∷ (h.others ++ r) = sym f ∙ row in cc;
          at_byte = λ x d f. let k : x ∷ d ≡ h.first ∷ (h.others ++ r) = sym f ∙ row in let same : x ≡ h.first = cc in ap class_of same ∙ class_high h.first h.first_high ∙ sym (class_high c g);
          after = λ k l. absurd (l (class_high c g));
        }

pub char_shorter : (c : ℕ) (b r : List ℕ) → b ≡ encode_utf8 c ++ r → length r < length b
char_shorter c b r e = by (cases_lt c 128)
  where
    by : (c < 128) ⊎ (128 ≤ c) → length r < length b
    by (inl l) = let size : length b ≡ suc (length r) = ap length (e ∙ ap (λ u. u ++ r) (encode_ascii c l)) in omega arith
    by (inr g) =
        let h : HighBytes c = high_bytes c g in
        let size : length b ≡ suc (length (h.others ++ r)) = ap length (e ∙ ap (λ u. u ++ r) h.row) in
        let parts : length (h.others ++ r) ≡ length h.others + length r = length-append h.others r in
        omega arith

-- a byte of the class leads from one state to another
pub class_goes : (s t : State) (c : Class) (b r : List ℕ) → ClassAt c b r → c ≢ Other → c ≢ BeyondAscii → ((x : ℕ) → class_of x ≡ c → step s x ≡ goes_to t) → outcome s b ≡ outcome t r
class_goes s t c b r h f g k =
    let a : (x : ℕ) × (b ≡ x ∷ r) = h.after f g in
    ap (outcome s) a.1 ∙ goes s t a.0 r (k a.0 (h.at_byte a.0 r a.1))

pub class_shorter : (c : Class) (b r : List ℕ) → ClassAt c b r → c ≢ Other → c ≢ BeyondAscii → length r < length b
class_shorter c b r h f g =
    let a : (x : ℕ) × (b ≡ x ∷ r) = h.after f g in
    let size : length b ≡ suc (length r) = ap length a.1 in
    omega arith

pub blank_skipped : (s : State) (b r : List ℕ) → ClassAt Blank b r → Skips s → outcome s b ≡ outcome s r
blank_skipped s b r h k = class_goes s s Blank b r h (λ e. cc) (λ e. cc) k

-- ---- digits

digit_class : (c : ℕ) → class_of c ≡ Digit → (49 ≤ c) × (c ≤ 57)
digit_class c e = subst (λ k. InClass k c) e (in_class c)

zero_class : (c : ℕ) → class_of c ≡ ZeroDigit → c ≡ 48
zero_class c e = subst (λ k. InClass k c) e (in_class c)

small_value : (c : ℕ) → 48 ≤ c → c ≤ 57 → digit_value c < 10
small_value c l u = grind (arith, nat_tests)

pub no_digit_at : (c : ℕ) (b r : List ℕ) → b ≡ encode_utf8 c ++ r → 10 ≤ digit_value c → NoDigit b
no_digit_at c b r e g = by b (class_at_char c b r e)
  where
    by : (b : List ℕ) → ClassAt (class_of c) b r → NoDigit b
    by [] h = tt
    by (x ∷ d) h =
        let same : class_of x ≡ class_of c = h.at_byte x d refl in (
          λ f. let z : c ≡ 48 = zero_class c (sym same ∙ f) in let l : digit_value c < 10 = small_value c (omega arith) (omega arith) in omega arith,
          λ f. let z : (49 ≤ c) × (c ≤ 57) = digit_class c (sym same ∙ f) in let l : digit_value c < 10 = small_value c (omega arith) (omega arith) in omega arith,
        )

-- a digit within a numeral
pub digit_read : (r : IntegerRole) (o : Brackets) (negative : Bool) (n d : ℕ) (b a : List ℕ) → b ≡ (48 + d) ∷ a → d < 10 → n * 10 + d < 2 ^ 53 → outcome (in_integer r o negative n) b ≡ outcome (in_integer r o negative (n * 10 + d)) a
digit_read r o negative n d b a e l fits =
    let same : (48 + d) - 48 ≡ d = omega arith in
    let same_next : n * 10 + ((48 + d) - 48) ≡ n * 10 + d = ap (λ d. n * 10 + d) same in
    ap (outcome (in_integer r o negative n)) e
    ∙ goes (in_integer r o negative n) (in_integer r o negative (n * 10 + ((48 + d) - 48))) (48 + d) a (digit_goes r o negative n (48 + d) (omega arith, omega arith) (omega arith))
    ∙ ap (λ m. outcome (in_integer r o negative m) a) same_next

pub digit_refused : (r : IntegerRole) (o : Brackets) (negative : Bool) (n d : ℕ) (b a : List ℕ) → b ≡ (48 + d) ∷ a → d < 10 → 2 ^ 53 ≤ n * 10 + d → outcome (in_integer r o negative n) b ≡ is_refused code.IntegerOutOfRange (length b)
digit_refused r o negative n d b a e l much =
    let stop : digit_step r o negative (n * 10 + ((48 + d) - 48)) ≡ stops code.IntegerOutOfRange = cond-false _ _ _ (le-ltb (n * 10 + ((48 + d) - 48)) (2 ^ 53) (omega arith)) in
    let here : step (in_integer r o negative n) (48 + d) ≡ stops code.IntegerOutOfRange =
    elim (class_any_digit (48 + d) (omega arith, omega arith)) [ inl f ↦ ap (λ c. more_step r o negative n c (48 + d)) f ∙ stop | inr f ↦ ap (λ c. more_step r o negative n c (48 + d)) f ∙ stop ]
    in
    ap (outcome (in_integer r o negative n)) e ∙ halts (in_integer r o negative n) code.IntegerOutOfRange (48 + d) a here ∙ ap (λ b. is_refused code.IntegerOutOfRange (length b)) (sym e)

-- the first digit of a numeral, from a state that a digit leads on
pub first_digit_read : (r : IntegerRole) (o : Brackets) (negative : Bool) (s : State) (d : ℕ) (b a : List ℕ) → ((x : ℕ) → class_of x ≡ Digit → step s x ≡ goes_to (in_integer r o negative (x - 48))) → b ≡ (48 + d) ∷ a → 0 < d → d < 10
    → outcome s b ≡ outcome (in_integer r o negative d) a
first_digit_read r o negative s d b a first e some l =
    let same : (48 + d) - 48 ≡ d = omega arith in
    ap (outcome s) e ∙ goes s (in_integer r o negative ((48 + d) - 48)) (48 + d) a (first (48 + d) (class_digit (48 + d) (omega arith) (omega arith))) ∙ ap (λ m. outcome (in_integer r o negative m) a) same

pub minus_digit : (r : IntegerRole) (o : Brackets) (x : ℕ) → class_of x ≡ Digit → step (after_minus r o) x ≡ goes_to (in_integer r o true (x - 48))
minus_digit r o x e = ap (λ c. minus_step r o c x) e

pub minus_zero : (r : IntegerRole) (o : Brackets) (d : ℕ) (b a : List ℕ) → b ≡ (48 + d) ∷ a → d ≡ 0 → outcome (after_minus r o) b ≡ is_refused code.ExpectedDigit (length b)
unfolding class_of
minus_zero r o d b a e z =
    let row : b ≡ 48 ∷ a = e ∙ ap (λ d. (48 + d) ∷ a) z in
    ap (outcome (after_minus r o)) row ∙ ap (λ b. is_refused code.ExpectedDigit (length b)) (sym row)

-- an integer begins with `-` if it begins with no digit
minus_class : (c : Class) → starts_integer c ≡ true → c ≢ ZeroDigit → c ≢ Digit → c ≡ Minus
minus_class Minus e f g = refl
minus_class ZeroDigit e f g = absurd (f refl)
minus_class Digit e f g = absurd (g refl)
minus_class _ e f g = cc

pub begins_minus : (b r : List ℕ) (c : Class) → BeginsInteger b → NoDigit b → ClassAt c b r → b ≡ 45 ∷ r
begins_minus b r c (x, d, e, i) n h =
    let none : (class_of x ≢ ZeroDigit) × (class_of x ≢ Digit) = subst NoDigit e n in
    let is : class_of x ≡ Minus = minus_class (class_of x) i none.0 none.1 in
    let k : c ≡ Minus = sym (h.at_byte x d e) ∙ is in
    let a : (y : ℕ) × (b ≡ y ∷ r) = h.after (λ f. let g : Minus ≡ Other = sym k ∙ f in cc) (λ f. let g : Minus ≡ BeyondAscii = sym k ∙ f in cc) in
    let same : a.0 ∷ r ≡ x ∷ d = sym a.1 ∙ e in
    let first : a.0 ≡ x = cc in
    a.1 ∙ ap (λ y. y ∷ r) (first ∙ subst (λ k. InClass k x) is (in_class x))

pub minus_read : (r : IntegerRole) (o : Brackets) (b a : List ℕ) → b ≡ 45 ∷ a → outcome (starts r o) b ≡ outcome (after_minus r o) a
minus_read r o b a e = ap (outcome (starts r o)) e ∙ goes (starts r o) (after_minus r o) 45 a (start_minus r o)

pub zero_read : (r : IntegerRole) (o : Brackets) (d : ℕ) (b a : List ℕ) → b ≡ (48 + d) ∷ a → d ≡ 0 → outcome (starts r o) b ≡ outcome (after_integer r o (pos 0)) a
zero_read r o d b a e z = ap (outcome (starts r o)) (e ∙ ap (λ d. (48 + d) ∷ a) z) ∙ goes (starts r o) (after_integer r o (pos 0)) 48 a (start_zero r o)

-- a fault that the code made
pub refused_as : (f : Fault) (k : QueryCode) (n : ℕ) → f.code ≡ k → f.left ≡ n → is_refused k n ≡ is_refused f.code f.left
refused_as f k n e g = ap (λ k. is_refused k n) (sym e) ∙ ap (λ n. is_refused f.code n) (sym g)

-- the integers that a numeral below 2^53 makes, with a sign and without
pub negated : (m : ℕ) → m < 2 ^ 53 → to_z w64 (of_z w64 (pos 0 -ℤ to_z w64 m)) ≡ neg_ℤ (pos m)
negated m l = omega (arith, ints)

pub unsigned_as : (m : ℕ) → m < 2 ^ 53 → to_z w64 m ≡ pos m
unsigned_as m l = omega (arith, ints)
