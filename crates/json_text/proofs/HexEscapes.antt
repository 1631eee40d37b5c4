-- An escape by `\u` and four hexadecimal digits, or by two of them, seen at once.
use Rattle.std.proofs.Common.{◌≡◌, ◌≢◌, Bool, true, false, ℕ, ◌+◌, ◌*◌, ◌<◌, ◌≤◌, ◌⊎◌, List, length, get_or, Some, inl, inr, refl, ap, subst, sym, arith}
use Rattle.std.proofs.lemmas.Bool.{lt-ltb, le-ltb, ne_eqb, eq-eqb, cases_eq}
use Rattle.std.specs.Char.{digit_value}
use Rattle.json_grammar.specs.Given.{piece}
use Rattle.json_grammar.proofs.Moves.{piece_none}
use Rattle.json_text.specs.declared.escape.Escape.{Escape}
use Rattle.json_text.specs.declared.escape.Escape.TheVariants.{Backslash as backslash, U as letter_u, One as one, D as letter_d, Two as two, Three as three, HighTwo as high_two, HighThree as high_three, High as high, LowBackslash as low_backslash, LowU as low_u, LowD as low_d, LowTwo as low_two, LowThree as low_three, Done as finished}
use Rattle.json_text.specs.Escapes.{escape_step, escape_run, first_step, one_len, EscapeTo, HexAfter, HighAt, LowAt}
use Rattle.json_text.proofs.Escaping.{escape_on, Hex}

-- the escape was read from i up to j
abbrev pub Leads : Bool → List ℕ → ℕ → ℕ → Escape → Type 0
Leads lossy b i j s = escape_run lossy (Some backslash) (piece b i j) ≡ Some s

step_to : (lossy : Bool) (s t : Escape) (b : List ℕ) (i j k : ℕ) → Leads lossy b i j s → k ≡ j + 1 → i ≤ j → j < length b → escape_step lossy s (get_or b j 0) ≡ Some t → Leads lossy b i k t
step_to lossy s t b i j k h e l m n = subst (λ x. Leads lossy b i x t) (sym e) (escape_on lossy s t b i j h l m n)

at_letter : (lossy : Bool) (b : List ℕ) (i k : ℕ) → k ≡ i + 1 → i < length b → get_or b i 0 ≡ 117 → Leads lossy b i k letter_u
at_letter lossy b i k e l u = step_to lossy backslash letter_u b i i k (ap (escape_run lossy (Some backslash)) (piece_none b i)) e (omega arith) l (ap (escape_step lossy backslash) u)

one_step : (lossy : Bool) (x : ℕ) → Hex x → digit_value x ≢ 13 → escape_step lossy letter_u x ≡ Some one
one_step true x h n = rw (lt-ltb (digit_value x) 16 h) refl
one_step false x h n = rw (ne_eqb (digit_value x) 13 n, lt-ltb (digit_value x) 16 h) refl

hex_step : (lossy : Bool) (x : ℕ) → Hex x → (escape_step lossy one x ≡ Some two) × (escape_step lossy two x ≡ Some three) × (escape_step lossy three x ≡ Some finished)
hex_step lossy x h = (rw (lt-ltb (digit_value x) 16 h) refl, rw (lt-ltb (digit_value x) 16 h) refl, rw (lt-ltb (digit_value x) 16 h) refl)

-- `u` and four hexadecimal digits, the first of which is no `d`
pub record UnitAt (b : List ℕ) (i : ℕ) : Type 0 where
  pub room : i + 5 ≤ length b
  pub letter : get_or b i 0 ≡ 117
  pub first : Hex (get_or b (i + 1) 0)
  pub no_d : digit_value (get_or b (i + 1) 0) ≢ 13
  pub second : Hex (get_or b (i + 2) 0)
  pub third : Hex (get_or b (i + 3) 0)
  pub fourth : Hex (get_or b (i + 4) 0)

pub unit_leads : (lossy : Bool) (b : List ℕ) (i : ℕ) → UnitAt b i → Leads lossy b i (i + 5) finished
unit_leads lossy b i h =
    let room : i + 5 ≤ length b = h.room in
    let a = at_letter lossy b i (i + 1) refl (omega arith) h.letter in
    let c = step_to lossy letter_u one b i (i + 1) (i + 2) a (omega arith) (omega arith) (omega arith) (one_step lossy (get_or b (i + 1) 0) h.first h.no_d) in
    let d = step_to lossy one two b i (i + 2) (i + 3) c (omega arith) (omega arith) (omega arith) (hex_step lossy (get_or b (i + 2) 0) h.second).0 in
    let e = step_to lossy two three b i (i + 3) (i + 4) d (omega arith) (omega arith) (omega arith) (hex_step lossy (get_or b (i + 3) 0) h.third).1 in
    step_to lossy three finished b i (i + 4) (i + 5) e (omega arith) (omega arith) (omega arith) (hex_step lossy (get_or b (i + 4) 0) h.fourth).2

short_leads : (lossy : Bool) (b : List ℕ) (i : ℕ) → i < length b → first_step (get_or b i 0) ≡ Some finished → Leads lossy b i (i + 1) finished
short_leads lossy b i l e = step_to lossy backslash finished b i i (i + 1) (ap (escape_run lossy (Some backslash)) (piece_none b i)) refl (omega arith) l e

-- digits of a code unit of which no surrogate begins so
no_d_first : (a b c d u : ℕ) → a * 4096 + b * 256 + c * 16 + d ≡ u → b < 16 → c < 16 → d < 16 → (u < 53248) ⊎ (57344 ≤ u) → a ≢ 13
no_d_first a b c d u e k l m (inl h) = λ f. omega arith
no_d_first a b c d u e k l m (inr h) = λ f. omega arith

pub unit_to : (lossy : Bool) (b : List ℕ) (i u : ℕ) → i + 5 ≤ length b → get_or b i 0 ≡ 117 → HexAfter b i u → (u < 53248) ⊎ (57344 ≤ u) → EscapeTo lossy b i (i + 5)
unit_to lossy b i u room letter h n =
    let at : UnitAt b i = record { room = room; letter = letter; first = h.first; no_d = no_d_first _ _ _ _ u h.value h.second h.third h.fourth n; second = h.second; third = h.third; fourth = h.fourth } in
    record { order = omega arith; within = room; leads = unit_leads lossy b i at }

-- an escape that one test recognizes
pub usual_to : (lossy : Bool) (b : List ℕ) (i u m : ℕ) → i + 5 ≤ length b → (u < 65536 → HexAfter b i u) → (get_or b i 0 ≡ 117 → m ≡ 53248) → (get_or b i 0 ≢ 117 → 0 < m → first_step (get_or b i 0) ≡ Some finished) → u < m
    → EscapeTo lossy b i (i + one_len (get_or b i 0))
usual_to lossy b i u m room h long short l = elim (cases_eq (get_or b i 0) 117) [ inl e ↦ rw (eq-eqb (get_or b i 0) 117 e) (letter e) | inr n ↦ rw (ne_eqb (get_or b i 0) 117 n) (other n) ]
  where
    letter : get_or b i 0 ≡ 117 → EscapeTo lossy b i (i + 5)
    letter e = let f : m ≡ 53248 = long e in unit_to lossy b i u room e (h (omega arith)) (inl (omega arith))

    other : get_or b i 0 ≢ 117 → EscapeTo lossy b i (i + 1)
    other n = record { order = omega arith; within = omega arith; leads = short_leads lossy b i (omega arith) (short n (omega arith)) }

high_digits : (a b c d u : ℕ) → a * 4096 + b * 256 + c * 16 + d ≡ u → a < 16 → b < 16 → c < 16 → d < 16 → 55296 ≤ u → u < 56320 → (a ≡ 13) × (8 ≤ b) × (b < 12)
high_digits a b c d u e k l m n f g = (omega arith, omega arith, omega arith)

pub high_at : (b : List ℕ) (i u : ℕ) → get_or b i 0 ≡ 117 → HexAfter b i u → 55296 ≤ u → u < 56320 → HighAt b i
high_at b i u letter h l m =
    let d = high_digits _ _ _ _ u h.value h.first h.second h.third h.fourth l m in
    record { letter = letter; d = d.0; from_eight = d.1; to_eleven = d.2; third = h.third; fourth = h.fourth }

d_step : (x : ℕ) → digit_value x ≡ 13 → (escape_step false letter_u x ≡ Some letter_d) × (escape_step false low_u x ≡ Some low_d)
d_step x h = (rw (eq-eqb (digit_value x) 13 h) refl, rw (eq-eqb (digit_value x) 13 h) refl)

high_step : (x : ℕ) → 8 ≤ digit_value x → digit_value x < 12 → escape_step false letter_d x ≡ Some high_two
high_step x l h = rw (le-ltb (digit_value x) 8 l, lt-ltb (digit_value x) 12 h) refl

high_hex_step : (x : ℕ) → Hex x → (escape_step false high_two x ≡ Some high_three) × (escape_step false high_three x ≡ Some high)
high_hex_step x h = (rw (lt-ltb (digit_value x) 16 h) refl, rw (lt-ltb (digit_value x) 16 h) refl)

low_step : (x : ℕ) → 12 ≤ digit_value x → Hex x → escape_step false low_d x ≡ Some low_two
low_step x l h = rw (le-ltb (digit_value x) 12 l, lt-ltb (digit_value x) 16 h) refl

low_hex_step : (x : ℕ) → Hex x → (escape_step false low_two x ≡ Some low_three) × (escape_step false low_three x ≡ Some finished)
low_hex_step x h = (rw (lt-ltb (digit_value x) 16 h) refl, rw (lt-ltb (digit_value x) 16 h) refl)

high_leads : (b : List ℕ) (i : ℕ) → i + 5 ≤ length b → HighAt b i → Leads false b i (i + 5) high
high_leads b i room h =
    let a = at_letter false b i (i + 1) refl (omega arith) h.letter in
    let c = step_to false letter_u letter_d b i (i + 1) (i + 2) a (omega arith) (omega arith) (omega arith) (d_step (get_or b (i + 1) 0) h.d).0 in
    let d = step_to false letter_d high_two b i (i + 2) (i + 3) c (omega arith) (omega arith) (omega arith) (high_step (get_or b (i + 2) 0) h.from_eight h.to_eleven) in
    let e = step_to false high_two high_three b i (i + 3) (i + 4) d (omega arith) (omega arith) (omega arith) (high_hex_step (get_or b (i + 3) 0) h.third).0 in
    step_to false high_three high b i (i + 4) (i + 5) e (omega arith) (omega arith) (omega arith) (high_hex_step (get_or b (i + 4) 0) h.fourth).1

low_leads : (b : List ℕ) (i j : ℕ) → i ≤ j → j + 6 ≤ length b → Leads false b i j high → LowAt b j → Leads false b i (j + 6) finished
low_leads b i j l room s h =
    let a = step_to false high low_backslash b i j (j + 1) s refl l (omega arith) (ap (escape_step false high) h.mark) in
    let c = step_to false low_backslash low_u b i (j + 1) (j + 2) a (omega arith) (omega arith) (omega arith) (ap (escape_step false low_backslash) h.letter) in
    let d = step_to false low_u low_d b i (j + 2) (j + 3) c (omega arith) (omega arith) (omega arith) (d_step (get_or b (j + 2) 0) h.d).1 in
    let e = step_to false low_d low_two b i (j + 3) (j + 4) d (omega arith) (omega arith) (omega arith) (low_step (get_or b (j + 3) 0) h.from_twelve h.second) in
    let f = step_to false low_two low_three b i (j + 4) (j + 5) e (omega arith) (omega arith) (omega arith) (low_hex_step (get_or b (j + 4) 0) h.third).0 in
    step_to false low_three finished b i (j + 5) (j + 6) f (omega arith) (omega arith) (omega arith) (low_hex_step (get_or b (j + 5) 0) h.fourth).1

pub pair_leads : (b : List ℕ) (i : ℕ) → i + 11 ≤ length b → HighAt b i → LowAt b (i + 5) → Leads false b i (i + 11) finished
pair_leads b i room h k =
    let e : i + 5 + 6 ≡ i + 11 = omega arith in
    subst (λ n. Leads false b i n finished) e (low_leads b i (i + 5) (omega arith) (omega (arith, room)) (high_leads b i (omega arith) h) k)
