-- A reader of a query's text reads what string literals have.
use Rattle.std.proofs.Common.{◌≡◌, ◌≢◌, inl, inr, ℕ, ◌+◌, ◌*◌, ◌<◌, ◌≤◌, List, [], ◌∷◌, ◌++◌, Bool, true, false, cond, nat_lt, nat_le, ◌&&◌, Some, None, refl, sym, ap, ◌∙◌, append_assoc, append-nil, arith}
use Rattle.std.specs.Char.{encode_utf8, digit_value, is_digit}
use Rattle.std.proofs.lemmas.Bool.{cond-true, cond-false, le-ltb, ne_eqb, ltb-true}
use Rattle.std.proofs.lemmas.Bool.Decides.{nat_tests}
use Rattle.json_grammar.specs.Grammar.{ShortEscape, quote, backslash, slash, backspace, form_feed, line_feed, carriage_return, tab, hex4, IsHighSurrogate, IsLowSurrogate, surrogate_pair, ◌then◌, byte}
use Rattle.json_query.specs.Query.{name_selector}
use Rattle.json_query.specs.Text.{SpellsIn, unescaped, escaped_mark, short_escape, unicode_escape, surrogate_escapes, chars_in, no_chars, char_and, string_literal}
use Rattle.json_query.specs.TextStates.{Brackets, with_selector, before_selector, after_selector, in_string, after_backslash, in_unit, before_low, in_low, goes_to, step, short_escape_of, only_low, some_low, unit_end, unit_next, low_next, class_of, outcome}
use Rattle.json_query.specs.Reading.{IsMark, double_mark, single_mark}
use Rattle.json_query.proofs.TextClasses.{goes}

-- ---- hexadecimal digits

-- four digits and their number
pub record Hex (p q r s u : ℕ) : Type 0 where
  pub first : is_digit p 16 ≡ true
  pub second : is_digit q 16 ≡ true
  pub third : is_digit r 16 ≡ true
  pub fourth : is_digit s 16 ≡ true
  pub is : u ≡ digit_value p * 4096 + digit_value q * 256 + digit_value r * 16 + digit_value s

pub hex_parts : (p q r s u : ℕ) → hex4 p q r s ≡ Some u → Hex p q r s u
unfolding hex4
hex_parts p q r s u e = by (is_digit p 16) (is_digit q 16) (is_digit r 16) (is_digit s 16) refl refl refl refl e
  where
    all : ℕ
    all = digit_value p * 4096 + digit_value q * 256 + digit_value r * 16 + digit_value s

    by : (a b c d : Bool) → is_digit p 16 ≡ a → is_digit q 16 ≡ b → is_digit r 16 ≡ c → is_digit s 16 ≡ d → cond (a && b && c && d) (Some all) None ≡ Some u → Hex p q r s u
    by true true true true ha hb hc hd f = record { first = ha; second = hb; third = hc; fourth = hd; is = cc }
    by true true true false ha hb hc hd f = cc
    by true true false d ha hb hc hd f = cc
    by true false c d ha hb hc hd f = cc
    by false b c d ha hb hc hd f = cc

pub hex_from : (p q r s : ℕ) → is_digit p 16 ≡ true → is_digit q 16 ≡ true → is_digit r 16 ≡ true → is_digit s 16 ≡ true → hex4 p q r s ≡ Some (digit_value p * 4096 + digit_value q * 256 + digit_value r * 16 + digit_value s)
unfolding hex4
hex_from p q r s a b c d = rw (a, b, c, d) refl

pub small : (x : ℕ) → is_digit x 16 ≡ true → digit_value x < 16
small x h = ltb-true (digit_value x) 16 h

-- the values of the digits one after another
pub hex_value : (a b c d : ℕ) → ((((0 * 16 + a) * 16 + b) * 16) + c) * 16 + d ≡ a * 4096 + b * 256 + c * 16 + d
hex_value a b c d = omega arith

-- ---- steps at digits

unit_goes : (m : ℕ) (o : Brackets) (k : List ℕ) (more v x : ℕ) → is_digit x 16 ≡ true → only_low more (v * 16 + digit_value x) ≡ false → step (in_unit m o k more v) x ≡ goes_to (unit_next m o k more (v * 16 + digit_value x))
unit_goes m o k more v x d h = cond-true _ _ _ d ∙ cond-false _ _ _ h

low_goes : (m : ℕ) (o : Brackets) (k : List ℕ) (h more v x : ℕ) → is_digit x 16 ≡ true → some_low more (v * 16 + digit_value x) ≡ true → step (in_low m o k h more v) x ≡ goes_to (low_next m o k h more (v * 16 + digit_value x))
low_goes m o k h more v x d l = cond-true _ _ _ d ∙ cond-true _ _ _ l

-- within the numbers of low surrogates, and not
between : (l u v : ℕ) → l ≤ v → v < u → (nat_le l v && nat_lt v u) ≡ true
between l u v a b = grind (arith, nat_tests)

outside : (l u v : ℕ) → ¬ ((l ≤ v) × (v < u)) → (nat_le l v && nat_lt v u) ≡ false
outside l u v h = grind (arith, nat_tests)

unit_leads : (m : ℕ) (o : Brackets) (k : List ℕ) (p q r s u : ℕ) (rest : List ℕ) → Hex p q r s u → ¬ (IsLowSurrogate u) → outcome (in_unit m o k 3 0) (p ∷ q ∷ r ∷ s ∷ rest) ≡ outcome (unit_end m o k u) rest
unit_leads m o k p q r s u rest h apart =
    let a : ℕ = digit_value p in
    let b : ℕ = digit_value q in
    let c : ℕ = digit_value r in
    let d : ℕ = digit_value s in
    let ha : a < 16 = small p h.first in
    let hb : b < 16 = small q h.second in
    let hc : c < 16 = small r h.third in
    let hd : d < 16 = small s h.fourth in
    let v1 : ℕ = 0 * 16 + a in
    let v2 : ℕ = v1 * 16 + b in
    let v3 : ℕ = v2 * 16 + c in
    let v4 : ℕ = v3 * 16 + d in
    let is : v4 ≡ u = hex_value a b c d ∙ sym h.is in
    goes (in_unit m o k 3 0) (in_unit m o k 2 v1) p (q ∷ r ∷ s ∷ rest) (unit_goes m o k 3 0 p h.first refl)
    ∙ goes (in_unit m o k 2 v1) (in_unit m o k 1 v2) q (r ∷ s ∷ rest) (unit_goes m o k 2 v1 q h.second (outside 0xdc 0xe0 v2 (λ f. apart (omega arith, omega arith))))
    ∙ goes (in_unit m o k 1 v2) (in_unit m o k 0 v3) r (s ∷ rest) (unit_goes m o k 1 v2 r h.third (outside 0xdc0 0xe00 v3 (λ f. apart (omega arith, omega arith))))
    ∙ goes (in_unit m o k 0 v3) (unit_end m o k v4) s rest (unit_goes m o k 0 v3 s h.fourth (outside 0xdc00 0xe000 v4 (λ f. apart (omega arith, omega arith))))
    ∙ ap (λ u. outcome (unit_end m o k u) rest) is

low_leads : (m : ℕ) (o : Brackets) (k : List ℕ) (h p q r s u : ℕ) (rest : List ℕ) → Hex p q r s u → IsLowSurrogate u → outcome (in_low m o k h 3 0) (p ∷ q ∷ r ∷ s ∷ rest) ≡ outcome (in_string m o (k ++ encode_utf8 (surrogate_pair h u))) rest
low_leads m o k h p q r s u rest x low =
    let a : ℕ = digit_value p in
    let b : ℕ = digit_value q in
    let c : ℕ = digit_value r in
    let d : ℕ = digit_value s in
    let ha : a < 16 = small p x.first in
    let hb : b < 16 = small q x.second in
    let hc : c < 16 = small r x.third in
    let hd : d < 16 = small s x.fourth in
    let v1 : ℕ = 0 * 16 + a in
    let v2 : ℕ = v1 * 16 + b in
    let v3 : ℕ = v2 * 16 + c in
    let v4 : ℕ = v3 * 16 + d in
    let is : v4 ≡ u = hex_value a b c d ∙ sym x.is in
    let ge : 0xdc00 ≤ u = low.0 in
    let lt : u < 0xe000 = low.1 in
    let d1 : v1 ≡ 13 = omega arith in
    goes (in_low m o k h 3 0) (in_low m o k h 2 v1) p (q ∷ r ∷ s ∷ rest) (low_goes m o k h 3 0 p x.first (rw d1 refl))
    ∙ goes (in_low m o k h 2 v1) (in_low m o k h 1 v2) q (r ∷ s ∷ rest) (low_goes m o k h 2 v1 q x.second (between 0xdc 0xe0 v2 (omega arith) (omega arith)))
    ∙ goes (in_low m o k h 1 v2) (in_low m o k h 0 v3) r (s ∷ rest) (low_goes m o k h 1 v2 r x.third (between 0xdc0 0xe00 v3 (omega arith) (omega arith)))
    ∙ goes (in_low m o k h 0 v3) (in_string m o (k ++ encode_utf8 (surrogate_pair h v4))) s rest (low_goes m o k h 0 v3 s x.fourth (between 0xdc00 0xe000 v4 (omega arith) (omega arith)))
    ∙ ap (λ u. outcome (in_string m o (k ++ encode_utf8 (surrogate_pair h u))) rest) is

-- ---- characters

mark_escape : (m : ℕ) → IsMark m → (o : Brackets) (k : List ℕ) → step (after_backslash m o k) m ≡ goes_to (in_string m o (k ++ m ∷ []))
unfolding short_escape_of
mark_escape m double_mark o k = refl
mark_escape m single_mark o k = refl

short_goes : (m : ℕ) (o : Brackets) (k : List ℕ) (x c : ℕ) → ShortEscape x c → x ≢ 34 → step (after_backslash m o k) x ≡ goes_to (in_string m o (k ++ c ∷ []))
unfolding short_escape_of
short_goes m o k x c quote n = absurd (n refl)
short_goes m o k x c backslash n = refl
short_goes m o k x c slash n = refl
short_goes m o k x c backspace n = refl
short_goes m o k x c form_feed n = refl
short_goes m o k x c line_feed n = refl
short_goes m o k x c carriage_return n = refl
short_goes m o k x c tab n = refl

pub plain_goes : (m : ℕ) (o : Brackets) (k : List ℕ) (x : ℕ) → 32 ≤ x → x ≢ m → x ≢ 92 → step (in_string m o k) x ≡ goes_to (in_string m o (k ++ x ∷ []))
plain_goes m o k x ge no_mark no_backslash = cond-false _ _ _ (ne_eqb x 92 no_backslash) ∙ cond-false _ _ _ (ne_eqb x m no_mark) ∙ cond-false _ _ _ (le-ltb x 32 ge)

high_unit : (m : ℕ) (o : Brackets) (k : List ℕ) (u : ℕ) → IsHighSurrogate u → unit_end m o k u ≡ before_low m o k u
high_unit m o k u h = cond-true _ _ _ (between 0xd800 0xdc00 u h.0 h.1)

other_unit : (m : ℕ) (o : Brackets) (k : List ℕ) (u : ℕ) → ¬ (IsHighSurrogate u) → unit_end m o k u ≡ in_string m o (k ++ encode_utf8 u)
other_unit m o k u h = cond-false _ _ _ (outside 0xd800 0xdc00 u h)

backslash_goes : (m : ℕ) (o : Brackets) (k r : List ℕ) → outcome (in_string m o k) (92 ∷ r) ≡ outcome (after_backslash m o k) r
backslash_goes m o k r = refl

spelling_leads : (m : ℕ) (o : Brackets) (k d e r : List ℕ) → IsMark m → SpellsIn m d e → outcome (in_string m o k) (e ++ r) ≡ outcome (in_string m o (k ++ d)) r
spelling_leads m o k d e r w (unescaped {x} ge no_mark no_backslash) = goes (in_string m o k) (in_string m o (k ++ x ∷ [])) x r (plain_goes m o k x ge no_mark no_backslash)
spelling_leads m o k d e r w escaped_mark = backslash_goes m o k (m ∷ r) ∙ goes (after_backslash m o k) (in_string m o (k ++ m ∷ [])) m r (mark_escape m w o k)
spelling_leads m o k d e r w (short_escape {c} {x} h n) = backslash_goes m o k (x ∷ r) ∙ goes (after_backslash m o k) (in_string m o (k ++ c ∷ [])) x r (short_goes m o k x c h n)
spelling_leads m o k d e r w (unicode_escape {u} {p} {q} {r = x} {s} h not_high not_low) =
    unit_leads m o k p q x s u r (hex_parts p q x s u h) not_low ∙ ap (λ t. outcome t r) (other_unit m o k u not_high)
spelling_leads m o k d e r w (surrogate_escapes {h} {l} {p} {q} {r = x} {s} {p'} {q'} {r' = x'} {s'} f BeyondAscii g low) =
    unit_leads m o k p q x s h (92 ∷ 117 ∷ p' ∷ q' ∷ x' ∷ s' ∷ r) (hex_parts p q x s h f) (λ i. omega arith)
    ∙ ap (λ t. outcome t (92 ∷ 117 ∷ p' ∷ q' ∷ x' ∷ s' ∷ r)) (high_unit m o k h BeyondAscii)
    ∙ low_leads m o k h p' q' x' s' l r (hex_parts p' q' x' s' l g) low

chars_lead : (m : ℕ) (o : Brackets) (k s b r : List ℕ) → IsMark m → chars_in m s b → outcome (in_string m o k) (b ++ r) ≡ outcome (in_string m o (k ++ s)) r
chars_lead m o k s b r w no_chars = ap (λ k. outcome (in_string m o k) r) (sym (append-nil k))
chars_lead m o k s b r w (char_and {d} {e} {s = t} {b = c} h g) =
    ap (outcome (in_string m o k)) (append_assoc e c r)
    ∙ spelling_leads m o k d e (c ++ r) w h
    ∙ chars_lead m o (k ++ d) t c r w g
    ∙ ap (λ k. outcome (in_string m o k) r) (append_assoc k d t)

mark_opens : (m : ℕ) → IsMark m → (o : Brackets) → step (before_selector o) m ≡ goes_to (in_string m o [])
unfolding class_of
mark_opens m double_mark o = refl
mark_opens m single_mark o = refl

mark_closes : (m : ℕ) → IsMark m → (o : Brackets) (k : List ℕ) → step (in_string m o k) m ≡ goes_to (after_selector (with_selector o (name_selector k)))
mark_closes m double_mark o k = refl
mark_closes m single_mark o k = refl

quoted_leads : (m : ℕ) (o : Brackets) (s t r : List ℕ) → IsMark m → (byte m then chars_in m s then byte m) t → outcome (before_selector o) (t ++ r) ≡ outcome (after_selector (with_selector o (name_selector s))) r
quoted_leads m o s t r w (a, u, e, ha, (b, c, f, hb, hc)) =
    ap (λ u. outcome (before_selector o) (u ++ r)) (e ∙ ap (λ a. a ++ u) ha ∙ ap (λ u. m ∷ u) (f ∙ ap (λ c. b ++ c) hc))
    ∙ goes (before_selector o) (in_string m o []) m ((b ++ m ∷ []) ++ r) (mark_opens m w o)
    ∙ ap (outcome (in_string m o [])) (append_assoc b (m ∷ []) r)
    ∙ chars_lead m o [] s b (m ∷ r) w hb
    ∙ goes (in_string m o s) (after_selector (with_selector o (name_selector s))) m r (mark_closes m w o s)

pub string_leads : (o : Brackets) (s t r : List ℕ) → string_literal s t → outcome (before_selector o) (t ++ r) ≡ outcome (after_selector (with_selector o (name_selector s))) r
string_leads o s t r (inl h) = quoted_leads 34 o s t r double_mark h
string_leads o s t r (inr h) = quoted_leads 39 o s t r single_mark h
