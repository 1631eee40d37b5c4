-- Steps of a reader of a query's text in strings, by digits and characters.
use Rattle.std.proofs.Common.{◌≡◌, ◌≢◌, ◌⊎◌, inl, inr, ℕ, ◌+◌, ◌*◌, ◌-◌, ◌%◌, ◌<◌, ◌≤◌, List, [], ◌∷◌, ◌++◌, length, Bool, true, false, cond, nat_lt, nat_le, ◌==◌, ◌&&◌, Option, Some, None, refl, sym, ap, ◌∙◌, append_assoc, append-nil, arith}
use Rattle.std.specs.Char.{encode_utf8, digit_value, is_digit, IsScalar}
use Rattle.std.proofs.lemmas.Bool.{cases_lt, cond-true, cond-false, le-ltb, ne_eqb, eqb-true, eqb-false}
use Rattle.std.proofs.lemmas.Bool.Decides.{nat_tests}
use Rattle.std.proofs.lemmas.Str.{encode_ascii}
use Rattle.json_grammar.specs.Grammar.{surrogate_pair, IsLowSurrogate}
use Rattle.json_query.specs.declared.error.QueryCode.TheVariants as code
use Rattle.json_query.specs.Reading.{HexAt, IsMark, escaped, escaped_or}
use Rattle.json_query.specs.TextStates.{is_between, Brackets, in_string, after_backslash, in_unit, before_low, short_escape_of, short_step, only_low, unit_end, unit_next, is_refused, outcome}
use Rattle.json_query.proofs.TextClasses.{goes, halts}
use Rattle.json_query.proofs.TextStrings.{plain_goes, small}
use Rattle.json_query.proofs.TextStops.{High, HighBytes, high_bytes, string_high, no_short, no_hex, mark_small}

-- ---- hexadecimal digits

pub no_hex_at : (c : ℕ) (b r : List ℕ) → b ≡ encode_utf8 c ++ r → 16 ≤ digit_value c → (x : ℕ) × (d : List ℕ) × (b ≡ x ∷ d) × (is_digit x 16 ≡ false)
no_hex_at c b r e g = by (cases_lt c 128)
  where
    by : (c < 128) ⊎ (128 ≤ c) → (x : ℕ) × (d : List ℕ) × (b ≡ x ∷ d) × (is_digit x 16 ≡ false)
    by (inl l) = (c, r, e ∙ ap (λ u. u ++ r) (encode_ascii c l), le-ltb (digit_value c) 16 g)
    by (inr h) = let k : HighBytes c = high_bytes c h in (k.first, k.others ++ r, e ∙ ap (λ u. u ++ r) k.row, no_hex k.first k.first_high)

pub hex_small : (v : ℕ) (b r : List ℕ) → HexAt v b r → v < 16
hex_small v b r h = let l : digit_value h.digit < 16 = small h.digit h.is_hex in let e : v ≡ digit_value h.digit = h.value in omega arith

pub unit_hex_goes : (m : ℕ) (o : Brackets) (k : List ℕ) (more w v : ℕ) (b r : List ℕ) → HexAt v b r → only_low more (w * 16 + v) ≡ false → outcome (in_unit m o k more w) b ≡ outcome (unit_next m o k more (w * 16 + v)) r
unit_hex_goes m o k more w v b r h e =
    let u : w * 16 + digit_value h.digit ≡ w * 16 + v = ap (λ v. w * 16 + v) (sym h.value) in
    ap (outcome (in_unit m o k more w)) h.row
    ∙ goes (in_unit m o k more w) (unit_next m o k more (w * 16 + digit_value h.digit)) h.digit r (cond-true _ _ _ h.is_hex ∙ cond-false _ _ _ (ap (only_low more) u ∙ e))
    ∙ ap (λ u. outcome (unit_next m o k more u) r) u

pub unit_hex_halts : (m : ℕ) (o : Brackets) (k : List ℕ) (more w v : ℕ) (b r : List ℕ) → HexAt v b r → only_low more (w * 16 + v) ≡ true → outcome (in_unit m o k more w) b ≡ is_refused code.InvalidSurrogate (length b)
unit_hex_halts m o k more w v b r h e =
    let u : w * 16 + digit_value h.digit ≡ w * 16 + v = ap (λ v. w * 16 + v) (sym h.value) in
    ap (outcome (in_unit m o k more w)) h.row
    ∙ halts (in_unit m o k more w) code.InvalidSurrogate h.digit r (cond-true _ _ _ h.is_hex ∙ cond-true _ _ _ (ap (only_low more) u ∙ e))
    ∙ ap (λ b. is_refused code.InvalidSurrogate (length b)) (sym h.row)

-- ---- surrogates

pub other_char_at : (d c : ℕ) (b r : List ℕ) → b ≡ encode_utf8 d ++ r → d ≢ c → c < 128 → (x : ℕ) × (e : List ℕ) × (b ≡ x ∷ e) × (x ≢ c)
other_char_at d c b r e n l = by (cases_lt d 128)
  where
    by : (d < 128) ⊎ (128 ≤ d) → (x : ℕ) × (e : List ℕ) × (b ≡ x ∷ e) × (x ≢ c)
    by (inl s) = (d, r, e ∙ ap (λ u. u ++ r) (encode_ascii d s), n)
    by (inr h) = let k : HighBytes d = high_bytes d h in let g : 128 ≤ k.first = k.first_high in (k.first, k.others ++ r, e ∙ ap (λ u. u ++ r) k.row, omega arith)

-- ---- tests on the digits of an escape

pub unit_plain : (m : ℕ) (o : Brackets) (k : List ℕ) (u : ℕ) → (u < 0xd800) ⊎ (0xdc00 ≤ u) → unit_end m o k u ≡ in_string m o (k ++ encode_utf8 u)
unit_plain m o k u h = let e : (nat_le 0xd800 u && nat_lt u 0xdc00) ≡ false = grind (arith, nat_tests) in cond-false _ _ _ e

pub unit_high : (m : ℕ) (o : Brackets) (k : List ℕ) (u : ℕ) → 0xd800 ≤ u → u < 0xdc00 → unit_end m o k u ≡ before_low m o k u
unit_high m o k u a b = let e : (nat_le 0xd800 u && nat_lt u 0xdc00) ≡ true = grind (arith, nat_tests) in cond-true _ _ _ e

-- the character of a surrogate pair, as the code computes it
pub pair_is : (h l : ℕ) → 0xd800 ≤ h → h < 0xdc00 → IsLowSurrogate l → surrogate_pair h l ≡ 0x10000 + (h % 0x400) * 0x400 + l % 0x400
unfolding surrogate_pair
pair_is h l a b c =
    let lo : 0xdc00 ≤ l = c.0 in
    let up : l < 0xe000 = c.1 in
    let x : h % 0x400 ≡ h - 0xd800 = omega arith in
    let y : l % 0x400 ≡ l - 0xdc00 = omega arith in
    omega arith

pub plain_scalar : (u : ℕ) → (u < 0xd800) ⊎ ((0xe000 ≤ u) × (u < 0x110000)) → IsScalar u
plain_scalar u h = grind (arith, nat_tests)

-- the two first digits after `\u`
pub two_digits_read : (m : ℕ) (o : Brackets) (k : List ℕ) (v w : ℕ) (b r a : List ℕ) → HexAt v b r → HexAt w r a → only_low 2 (v * 16 + w) ≡ false → outcome (in_unit m o k 3 0) b ≡ outcome (in_unit m o k 1 (v * 16 + w)) a
two_digits_read m o k v w b r a h g e =
    let same : 0 * 16 + v ≡ v = omega arith in
    unit_hex_goes m o k 3 0 v b r h refl ∙ ap (λ v. outcome (in_unit m o k 2 v) r) same ∙ unit_hex_goes m o k 2 v w r a g e

pub two_digits_halt : (m : ℕ) (o : Brackets) (k : List ℕ) (v w : ℕ) (b r a : List ℕ) → HexAt v b r → HexAt w r a → only_low 2 (v * 16 + w) ≡ true → outcome (in_unit m o k 3 0) b ≡ is_refused code.InvalidSurrogate (length r)
two_digits_halt m o k v w b r a h g e =
    let same : 0 * 16 + v ≡ v = omega arith in
    unit_hex_goes m o k 3 0 v b r h refl ∙ ap (λ v. outcome (in_unit m o k 2 v) r) same ∙ unit_hex_halts m o k 2 v w r a g e

-- four digits u, of which the two first make high
pub unit_read : (m : ℕ) (o : Brackets) (k : List ℕ) (high v u : ℕ) → only_low 2 high ≡ false → is_between 0xd8 0xdb high ≡ false → high < 256 → v < 256 → u ≡ high * 256 + v
    → (unit_end m o k u ≡ in_string m o (k ++ encode_utf8 u)) × IsScalar u
unit_read m o k high v u e f l g s =
    let apart : (high < 0xd8) ⊎ (0xe0 ≤ high) = grind (arith, nat_tests) in
    elim apart [ inl a ↦ (unit_plain m o k u (inl (omega arith)), plain_scalar u (inl (omega arith))) | inr a ↦ (unit_plain m o k u (inr (omega arith)), plain_scalar u (inr (omega arith, omega arith))) ]

pub high_unit : (high v u : ℕ) → is_between 0xd8 0xdb high ≡ true → v < 256 → u ≡ high * 256 + v → (0xd800 ≤ u) × (u < 0xdc00)
high_unit high v u e l s =
    let within : (0xd8 ≤ high) × (high ≤ 0xdb) = grind (arith, nat_tests) in
    (omega arith, omega arith)

pub pair_scalar : (h l : ℕ) → IsScalar (0x10000 + (h % 0x400) * 0x400 + l % 0x400)
pair_scalar h l = plain_scalar (0x10000 + (h % 0x400) * 0x400 + l % 0x400) (inr (omega arith, omega arith))

-- ---- characters of a string

-- bytes from 128 on spell themselves
high_read : (m : ℕ) (o : Brackets) (k e r : List ℕ) → IsMark m → High e → outcome (in_string m o k) (e ++ r) ≡ outcome (in_string m o (k ++ e)) r
high_read m o k [] r w h = ap (λ k. outcome (in_string m o k) r) (sym (append-nil k))
high_read m o k (x ∷ e) r w h =
    goes (in_string m o k) (in_string m o (k ++ x ∷ [])) x (e ++ r) (string_high m o k x w h.0) ∙ high_read m o (k ++ x ∷ []) e r w h.1 ∙ ap (λ k. outcome (in_string m o k) r) (append_assoc k (x ∷ []) e)

-- a character that spells itself
pub char_read : (m : ℕ) (o : Brackets) (k b r : List ℕ) (c : ℕ) → IsMark m → b ≡ encode_utf8 c ++ r → c ≢ 92 → c ≢ m → 32 ≤ c → outcome (in_string m o k) b ≡ outcome (in_string m o (k ++ encode_utf8 c)) r
char_read m o k b r c w e not_backslash not_mark ge = by (cases_lt c 128)
  where
    by : (c < 128) ⊎ (128 ≤ c) → outcome (in_string m o k) b ≡ outcome (in_string m o (k ++ encode_utf8 c)) r
    by (inl l) =
        let same : encode_utf8 c ≡ c ∷ [] = encode_ascii c l in
        ap (outcome (in_string m o k)) (e ∙ ap (λ u. u ++ r) same) ∙ goes (in_string m o k) (in_string m o (k ++ c ∷ [])) c r (plain_goes m o k c ge not_mark not_backslash) ∙ ap (λ u. outcome (in_string m o (k ++ u)) r) (sym same)
    by (inr g) =
        let h : HighBytes c = high_bytes c g in
        let rest : outcome (in_string m o (k ++ h.first ∷ [])) (h.others ++ r) ≡ outcome (in_string m o ((k ++ h.first ∷ []) ++ h.others)) r = high_read m o (k ++ h.first ∷ []) h.others r w h.others_high in
        ap (outcome (in_string m o k)) (e ∙ ap (λ u. u ++ r) h.row)
        ∙ goes (in_string m o k) (in_string m o (k ++ h.first ∷ [])) h.first (h.others ++ r) (string_high m o k h.first w h.first_high)
        ∙ rest
        ∙ ap (λ k. outcome (in_string m o k) r) (append_assoc k (h.first ∷ []) h.others ∙ ap (λ u. k ++ u) (sym h.row))

-- ---- escapes of two characters

-- which character is denoted
short_known : (c d : ℕ) → short_escape_of c ≡ Some d → (c < 128) × (d < 128)
unfolding short_escape_of
short_known c d e = grind (arith, nat_tests)

pub short_read : (m : ℕ) (o : Brackets) (k b r : List ℕ) (c d : ℕ) → IsMark m → b ≡ encode_utf8 c ++ r → c ≢ 117 → escaped m c ≡ Some d → outcome (after_backslash m o k) b ≡ outcome (in_string m o (k ++ encode_utf8 d)) r
short_read m o k b r c d w e n f = by (short_escape_of c) refl f
  where
    ascii : c < 128 → b ≡ c ∷ r
    ascii l = e ∙ ap (λ u. u ++ r) (encode_ascii c l)

    ends : d < 128 → outcome (in_string m o (k ++ d ∷ [])) r ≡ outcome (in_string m o (k ++ encode_utf8 d)) r
    ends l = ap (λ u. outcome (in_string m o (k ++ u)) r) (sym (encode_ascii d l))

    marked : (t : Bool) → (c == m) ≡ t → short_escape_of c ≡ None → cond t (Some c) None ≡ Some d → outcome (after_backslash m o k) b ≡ outcome (in_string m o (k ++ encode_utf8 d)) r
    marked true g i j =
        let is : c ≡ m = eqb-true c m g in
        let same : d ≡ m = cc in
        let l : m < 128 = mark_small m w in
        ap (outcome (after_backslash m o k)) (ascii (omega arith))
        ∙ goes (after_backslash m o k) (in_string m o (k ++ m ∷ [])) c r (cond-false _ _ _ (ne_eqb c 117 n) ∙ ap (short_step m o k c) i ∙ cond-true _ _ _ g)
        ∙ ap (λ d. outcome (in_string m o (k ++ d ∷ [])) r) (sym same)
        ∙ ends (omega arith)
    marked false g i j = cc

    by : (s : Option ℕ) → short_escape_of c ≡ s → escaped_or m c s ≡ Some d → outcome (after_backslash m o k) b ≡ outcome (in_string m o (k ++ encode_utf8 d)) r
    by (Some v) g j =
        let same : v ≡ d = cc in
        let known : (c < 128) × (d < 128) = short_known c d (g ∙ ap (λ v. Some v) same) in
        ap (outcome (after_backslash m o k)) (ascii known.0)
        ∙ goes (after_backslash m o k) (in_string m o (k ++ v ∷ [])) c r (cond-false _ _ _ (ne_eqb c 117 n) ∙ ap (short_step m o k c) g)
        ∙ ap (λ d. outcome (in_string m o (k ++ d ∷ [])) r) same
        ∙ ends known.1
    by None g j = marked (c == m) refl g j

pub short_halts : (m : ℕ) (o : Brackets) (k b r : List ℕ) (c : ℕ) → IsMark m → b ≡ encode_utf8 c ++ r → c ≢ 117 → escaped m c ≡ None → outcome (after_backslash m o k) b ≡ is_refused code.InvalidEscape (length b)
short_halts m o k b r c w e n f = by (cases_lt c 128)
  where
    halts_at : (x : ℕ) (d : List ℕ) → b ≡ x ∷ d → x ≢ 117 → short_escape_of x ≡ None → x ≢ m → outcome (after_backslash m o k) b ≡ is_refused code.InvalidEscape (length b)
    halts_at x d row a s t =
        ap (outcome (after_backslash m o k)) row
        ∙ halts (after_backslash m o k) code.InvalidEscape x d (cond-false _ _ _ (ne_eqb x 117 a) ∙ ap (short_step m o k x) s ∙ cond-false _ _ _ (ne_eqb x m t))
        ∙ ap (λ b. is_refused code.InvalidEscape (length b)) (sym row)

    apart : (t : Bool) → (c == m) ≡ t → cond t (Some c) None ≡ None → c ≢ m
    apart true g j = cc
    apart false g j = eqb-false c m g

    parts : (s : Option ℕ) → short_escape_of c ≡ s → escaped_or m c s ≡ None → (short_escape_of c ≡ None) × (c ≢ m)
    parts (Some v) g j = cc
    parts None g j = (g, apart (c == m) refl j)

    by : (c < 128) ⊎ (128 ≤ c) → outcome (after_backslash m o k) b ≡ is_refused code.InvalidEscape (length b)
    by (inl l) = let p : (short_escape_of c ≡ None) × (c ≢ m) = parts (short_escape_of c) refl f in halts_at c r (e ∙ ap (λ u. u ++ r) (encode_ascii c l)) n p.0 p.1
    by (inr g) =
        let h : HighBytes c = high_bytes c g in
        let ge : 128 ≤ h.first = h.first_high in
        let l : m < 128 = mark_small m w in
        halts_at h.first (h.others ++ r) (e ∙ ap (λ u. u ++ r) h.row) (omega arith) (no_short h.first ge) (omega arith)
