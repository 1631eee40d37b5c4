-- How a part of a string that begins with a backslash goes on.
use Rattle.std.proofs.Common.{◌≡◌, ◌≢◌, ℕ, ◌<◌, ◌≤◌, List, [], ◌∷◌, ◌++◌, length, Bool, true, false, ◌⊎◌, inl, inr, Some, refl, sym, ap, ◌∙◌, subst, arith, append-nil}
use Rattle.std.specs.Char.{encode_utf8, is_digit}
use Rattle.std.proofs.lemmas.Bool.{cases_eq}
use Rattle.json_grammar.specs.Grammar.{hex4, ShortEscape, quote, backslash, slash, backspace, form_feed, line_feed, carriage_return, tab, IsHighSurrogate, IsLowSurrogate, Spelling, unescaped, short_escape, unicode_escape, surrogate_escapes, Atom, spelling, lone_surrogate}
use Rattle.json_grammar.specs.Fault.{is_surrogate}
use Rattle.json_grammar.proofs.Spellings.{unescaped_first, short_no_u}
use Rattle.json_grammar.proofs.FirstBytes.{false_true, head, some_same, tail}
use Rattle.json_grammar.proofs.HexDigits.{Hex, IsCToF, IsD, hex_c_to_f, hex_parts, is_low}

-- ---- short escapes

pub data Escaped (x : ℕ) : Type 0 where
  stands : {c : ℕ} → ShortEscape x c → Escaped x
  is_u : x ≡ 117 → Escaped x
  nothing : ((c : ℕ) → ShortEscape x c → ⊥) → x ≢ 117 → Escaped x

pub escaped : (x : ℕ) → Escaped x
escaped x = go (cases_eq x 34) (cases_eq x 92) (cases_eq x 47) (cases_eq x 98) (cases_eq x 102) (cases_eq x 110) (cases_eq x 114) (cases_eq x 116) (cases_eq x 117)
  where
    at : {y c : ℕ} → x ≡ y → ShortEscape y c → Escaped x
    at {y} {c} e h = stands {c = c} (subst (λ o. ShortEscape o c) (sym e) h)

    none : {x c : ℕ} → ShortEscape x c → (x ≡ 34 → ⊥) → (x ≡ 92 → ⊥) → (x ≡ 47 → ⊥) → (x ≡ 98 → ⊥) → (x ≡ 102 → ⊥) → (x ≡ 110 → ⊥) → (x ≡ 114 → ⊥) → (x ≡ 116 → ⊥) → ⊥
    none quote a b c d e f g h = a refl
    none backslash a b c d e f g h = b refl
    none slash a b c d e f g h = c refl
    none backspace a b c d e f g h = d refl
    none form_feed a b c d e f g h = e refl
    none line_feed a b c d e f g h = f refl
    none carriage_return a b c d e f g h = g refl
    none tab a b c d e f g h = h refl

    go : (x ≡ 34) ⊎ (x ≡ 34 → ⊥) → (x ≡ 92) ⊎ (x ≡ 92 → ⊥) → (x ≡ 47) ⊎ (x ≡ 47 → ⊥) → (x ≡ 98) ⊎ (x ≡ 98 → ⊥) → (x ≡ 102) ⊎ (x ≡ 102 → ⊥) → (x ≡ 110) ⊎ (x ≡ 110 → ⊥) → (x ≡ 114) ⊎ (x ≡ 114 → ⊥)
        → (x ≡ 116) ⊎ (x ≡ 116 → ⊥) → (x ≡ 117) ⊎ (x ≡ 117 → ⊥) → Escaped x
    go (inl e) b c d f g h i j = at e quote
    go (inr a) (inl e) c d f g h i j = at e backslash
    go (inr a) (inr b) (inl e) d f g h i j = at e slash
    go (inr a) (inr b) (inr c) (inl e) f g h i j = at e backspace
    go (inr a) (inr b) (inr c) (inr d) (inl e) g h i j = at e form_feed
    go (inr a) (inr b) (inr c) (inr d) (inr f) (inl e) h i j = at e line_feed
    go (inr a) (inr b) (inr c) (inr d) (inr f) (inr g) (inl e) i j = at e carriage_return
    go (inr a) (inr b) (inr c) (inr d) (inr f) (inr g) (inr h) (inl e) j = at e tab
    go (inr a) (inr b) (inr c) (inr d) (inr f) (inr g) (inr h) (inr i) (inl e) = is_u e
    go (inr a) (inr b) (inr c) (inr d) (inr f) (inr g) (inr h) (inr i) (inr j) = nothing (λ y k. none k a b c d f g h i) j

pub short_low : {x c : ℕ} → ShortEscape x c → x < 128
short_low quote = omega arith
short_low backslash = omega arith
short_low slash = omega arith
short_low backspace = omega arith
short_low form_feed = omega arith
short_low line_feed = omega arith
short_low carriage_return = omega arith
short_low tab = omega arith

-- ---- what is no fault of a surrogate

pub surrogate_long : (v : Bool) (e : List ℕ) (x : ℕ) → is_surrogate v e x → 3 ≤ length e
surrogate_long true e x h = absurd h
surrogate_long false e x (inl (h, m, f, (a, b, c, d, u, g, i, j))) = let k : length e ≡ length (92 ∷ 117 ∷ a ∷ b ∷ c ∷ d ∷ m) = ap length (f ∙ ap (λ o. o ++ m) g) in omega arith
surrogate_long false e x (inr (d, f, g, i)) = let k : length e ≡ 3 = ap length f in omega arith

pub surrogate_hex : (v : Bool) (e : List ℕ) (x : ℕ) → is_surrogate v e x → length e < 6 → is_digit x 16 ≡ true
surrogate_hex true e x h l = absurd h
surrogate_hex false e x (inl (h, m, f, (a, b, c, d, u, g, i, j))) l = let k : length e ≡ length (92 ∷ 117 ∷ a ∷ b ∷ c ∷ d ∷ m) = ap length (f ∙ ap (λ o. o ++ m) g) in absurd (omega arith)
surrogate_hex false e x (inr (d, f, g, i)) l = hex_c_to_f x i

module _ (lossy : Bool) where
  -- what follows the first escape of a part
  abbrev pub LowEscape : List ℕ → Type 0
  LowEscape n = (p q r s l : ℕ) × (n ≡ 92 ∷ 117 ∷ p ∷ q ∷ r ∷ s ∷ []) × (hex4 p q r s ≡ Some l) × IsLowSurrogate l

  abbrev After : ℕ → List ℕ → Type 0
  After u n = ((n ≡ []) × ((lossy ≡ true) ⊎ (¬ (IsHighSurrogate u) × ¬ (IsLowSurrogate u)))) ⊎ ((lossy ≡ false) × IsHighSurrogate u × LowEscape n)

  record Escape (n : List ℕ) : Type 0 where
    p : ℕ
    q : ℕ
    r : ℕ
    s : ℕ
    u : ℕ
    more : List ℕ
    bytes : n ≡ p ∷ q ∷ r ∷ s ∷ more
    hex : hex4 p q r s ≡ Some u
    after : After u more

  escape_spelling : {c : ℕ} {v : List ℕ} (n : List ℕ) → Spelling c v → (lossy ≡ true → length v ≤ 6) → v ≡ 92 ∷ 117 ∷ n → Escape n
  escape_spelling n (unescaped {c = c} s l q b) i e = absurd (b (unescaped_first c 92 [] (117 ∷ n) (omega arith) (append-nil (encode_utf8 c) ∙ e)))
  escape_spelling n (short_escape h) i e = absurd (short_no_u h (head (tail e)))
  escape_spelling n (unicode_escape {u = u} {p = p} {q = q} {r = r} {s = s} h a b) i e = record { p = p; q = q; r = r; s = s; u = u; more = []; bytes = sym (tail (tail e)); hex = h; after = inl (refl, inr (a, b)) }
  escape_spelling n (surrogate_escapes {h = h} {l = l} {p = p} {q = q} {r = r} {s = s} {p' = p'} {q' = q'} {r' = r'} {s' = s'} j a k b) i e = by lossy refl
    where
      long : 12 ≤ 6 → ⊥
      long l = omega arith

      by : (v : Bool) → lossy ≡ v → Escape n
      by true f = absurd (long (i f))
      by false f = record { p = p; q = q; r = r; s = s; u = h; more = 92 ∷ 117 ∷ p' ∷ q' ∷ r' ∷ s' ∷ []; bytes = sym (tail (tail e)); hex = j; after = inr (f, a, (p', q', r', s', l, refl, k, b)) }

  -- a part that begins with `\u`
  escape : {v : List ℕ} (n : List ℕ) → Atom lossy v → v ≡ 92 ∷ 117 ∷ n → Escape n
  escape n (spelling h i) e = escape_spelling n h i e
  escape n (lone_surrogate {u = u} {p = p} {q = q} {r = r} {t = t} x h a) e = record { p = p; q = q; r = r; s = t; u = u; more = []; bytes = sym (tail (tail e)); hex = h; after = inl (refl, inl x) }

  -- no part begins with a control character
  pub no_control : (x : ℕ) (n : List ℕ) → x < 32 → Atom lossy (x ∷ n) → ⊥
  no_control x n l h = go h refl
    where
      first : (v : List ℕ) → 92 ∷ v ≡ x ∷ n → ⊥
      first v e = let f : x ≡ 92 = sym (head e) in absurd (omega arith)

      spelled : {c : ℕ} {v : List ℕ} → Spelling c v → v ≡ x ∷ n → ⊥
      spelled (unescaped {c = c} s k q b) e = let f = unescaped_first c x [] n (omega arith) (append-nil (encode_utf8 c) ∙ e) in absurd (omega arith)
      spelled (short_escape k) e = first _ e
      spelled (unicode_escape k a b) e = first _ e
      spelled (surrogate_escapes k a j b) e = first _ e

      go : {v : List ℕ} → Atom lossy v → v ≡ x ∷ n → ⊥
      go (spelling k i) e = spelled k e
      go (lone_surrogate k j a) e = first _ e

  -- none goes on with another byte after a backslash
  pub no_escape : (x : ℕ) (n : List ℕ) → ((c : ℕ) → ShortEscape x c → ⊥) → x ≢ 117 → Atom lossy (92 ∷ x ∷ n) → ⊥
  no_escape x n m u h = go h refl
    where
      second : (v : List ℕ) → 92 ∷ 117 ∷ v ≡ 92 ∷ x ∷ n → ⊥
      second v e = u (sym (head (tail e)))

      spelled : {c : ℕ} {v : List ℕ} → Spelling c v → v ≡ 92 ∷ x ∷ n → ⊥
      spelled (unescaped {c = c} s k q b) e = b (unescaped_first c 92 [] (x ∷ n) (omega arith) (append-nil (encode_utf8 c) ∙ e))
      spelled (short_escape {c = c} k) e = m c (subst (λ o. ShortEscape o c) (head (tail e)) k)
      spelled (unicode_escape k a b) e = second _ e
      spelled (surrogate_escapes k a j b) e = second _ e

      go : {v : List ℕ} → Atom lossy v → v ≡ 92 ∷ x ∷ n → ⊥
      go (spelling k i) e = spelled k e
      go (lone_surrogate k j a) e = second _ e

  -- none has another byte than a digit among the four
  abbrev pub Fourth : ℕ → ℕ → ℕ → ℕ → Type 0
  Fourth p q r s = (is_digit p 16 ≡ true) × (is_digit q 16 ≡ true) × (is_digit r 16 ≡ true) × (is_digit s 16 ≡ true)

  escape_hex : (n : List ℕ) (a : Escape n) → Hex a.p a.q a.r a.s a.u
  escape_hex n a = hex_parts a.p a.q a.r a.s a.u a.hex

  pub no_hex : (x : ℕ) → is_digit x 16 ≡ false → (y : ℕ) → y ≡ x → is_digit y 16 ≡ true → ⊥
  no_hex x f y e h = false_true (sym f ∙ ap (λ o. is_digit o 16) (sym e) ∙ h)

  pub no_hex_0 : (x : ℕ) (n : List ℕ) → is_digit x 16 ≡ false → Atom lossy (92 ∷ 117 ∷ x ∷ n) → ⊥
  no_hex_0 x n f h = let a = escape (x ∷ n) h refl in no_hex x f a.p (sym (head a.bytes)) (escape_hex _ a).p_hex

  pub no_hex_1 : (p x : ℕ) (n : List ℕ) → is_digit x 16 ≡ false → Atom lossy (92 ∷ 117 ∷ p ∷ x ∷ n) → ⊥
  no_hex_1 p x n f h = let a = escape (p ∷ x ∷ n) h refl in no_hex x f a.q (sym (head (tail a.bytes))) (escape_hex _ a).q_hex

  pub no_hex_2 : (p q x : ℕ) (n : List ℕ) → is_digit x 16 ≡ false → Atom lossy (92 ∷ 117 ∷ p ∷ q ∷ x ∷ n) → ⊥
  no_hex_2 p q x n f h = let a = escape (p ∷ q ∷ x ∷ n) h refl in no_hex x f a.r (sym (head (tail (tail a.bytes)))) (escape_hex _ a).r_hex

  pub no_hex_3 : (p q r x : ℕ) (n : List ℕ) → is_digit x 16 ≡ false → Atom lossy (92 ∷ 117 ∷ p ∷ q ∷ r ∷ x ∷ n) → ⊥
  no_hex_3 p q r x n f h = let a = escape (p ∷ q ∷ r ∷ x ∷ n) h refl in no_hex x f a.s (sym (head (tail (tail (tail a.bytes))))) (escape_hex _ a).s_hex

  high_low : (u : ℕ) → IsHighSurrogate u → IsLowSurrogate u → ⊥
  high_low u a b = omega arith

  -- strictly none begins with the escape of a low surrogate
  pub no_low : (p q : ℕ) (n : List ℕ) → lossy ≡ false → IsD p → IsCToF q → Atom lossy (92 ∷ 117 ∷ p ∷ q ∷ n) → ⊥
  no_low p q n f d c h = go a.after
    where
      a : Escape (p ∷ q ∷ n)
      a = escape (p ∷ q ∷ n) h refl

      low : IsLowSurrogate a.u
      low = is_low a.p a.q a.r a.s a.u (escape_hex _ a) (subst IsD (head a.bytes) d) (subst IsCToF (head (tail a.bytes)) c)

      go : After a.u a.more → ⊥
      go (inl (e, inl t)) = false_true (sym f ∙ t)
      go (inl (e, inr t)) = t.1 low
      go (inr t) = high_low a.u t.1 low

  -- in the strict mode the escape of a low surrogate follows that of a high one
  pub low_comes : (p q r s u : ℕ) (n : List ℕ) → lossy ≡ false → hex4 p q r s ≡ Some u → IsHighSurrogate u → Atom lossy (92 ∷ 117 ∷ p ∷ q ∷ r ∷ s ∷ n) → LowEscape n
  low_comes p q r s u n f k g h = go a.after
    where
      a : Escape (p ∷ q ∷ r ∷ s ∷ n)
      a = escape (p ∷ q ∷ r ∷ s ∷ n) h refl

      same : (p q r s p' q' r' s' u u' : ℕ) (m m' : List ℕ) → p ∷ q ∷ r ∷ s ∷ m ≡ p' ∷ q' ∷ r' ∷ s' ∷ m' → hex4 p q r s ≡ Some u → hex4 p' q' r' s' ≡ Some u' → u ≡ u'
      same p q r s p' q' r' s' u u' m m' e h k = let a : p ≡ p' = cc in let b : q ≡ q' = cc in let c : r ≡ r' = cc in let d : s ≡ s' = cc in some_same (sym h ∙ rw (a, b, c, d) k)

      high : IsHighSurrogate a.u
      high = subst IsHighSurrogate (same p q r s a.p a.q a.r a.s u a.u n a.more a.bytes k a.hex) g

      go : After a.u a.more → LowEscape n
      go (inl (e, inl t)) = absurd (false_true (sym f ∙ t))
      go (inl (e, inr t)) = absurd (t.0 high)
      go (inr t) = subst LowEscape (sym (tail (tail (tail (tail a.bytes))))) t.2
