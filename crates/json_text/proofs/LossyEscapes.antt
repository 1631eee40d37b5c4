-- How an escape goes on in the lossy mode, where each `\u` and its digits are read by themselves.
use Rattle.std.proofs.Common.{◌≡◌, ℕ, ◌<◌, ◌≤◌, length, List, [], ◌∷◌, ◌++◌, Bool, true, false, ◌⊎◌, inl, inr, nat_lt, ◌==◌, cond, Option, Some, None, MatchOption, refl, sym, ap, ◌∙◌, subst, arith, append_assoc, append-nil}
use Rattle.std.proofs.lemmas.Bool.{eqb-true, ltb-true, cond_both, cases_lt}
use Rattle.std.specs.Char.{digit_value}
use Rattle.json_grammar.specs.Grammar.{ShortEscape, quote, backslash as short_backslash, slash, backspace, form_feed, line_feed, carriage_return, tab, Spelling, unescaped, short_escape, unicode_escape, surrogate_escapes, Atom, spelling, lone_surrogate}
use Rattle.json_grammar.proofs.Spellings.{unescaped_first}
use Rattle.json_text.specs.declared.escape.Escape.{Escape}
use Rattle.json_text.specs.declared.escape.Escape.TheVariants.{Backslash as backslash, U as letter_u, One as one, D as letter_d, Two as two, Three as three, HighTwo as high_two, HighThree as high_three, High as high, LowBackslash as low_backslash, LowU as low_u, LowD as low_d, LowTwo as low_two, LowThree as low_three, Done as finished}
use Rattle.json_text.specs.Escapes.{hex_then, escape_step, escape_run}
use Rattle.json_text.proofs.Escaping.{Hex, Digits, hex_to, hex_from, hex_value, dead, short_runs, hex_step, four, grow, shape_of, spelling_runs}

-- ---- each atom runs through

unit_runs : (p q r s u : ℕ) → Digits p q r s u → escape_run true (Some letter_u) (p ∷ q ∷ r ∷ s ∷ []) ≡ Some finished
unit_runs p q r s u d = four true letter_u one two three finished p q r s [] (hex_step one p d.first) (hex_step two q d.second) (hex_step three r d.third) (hex_step finished s d.fourth)

spelling_runs_lossy : {c : ℕ} {b : List ℕ} (m : List ℕ) → Spelling c b → length b ≤ 6 → b ≡ 92 ∷ m → escape_run true (Some backslash) m ≡ Some finished
spelling_runs_lossy m (unescaped {c = c} sc lo q s) l e = absurd (s (unescaped_first c 92 [] m (omega arith) (append-nil _ ∙ e)))
spelling_runs_lossy m (short_escape {x = x} h) l e = let f : x ∷ [] ≡ m = cc in subst (λ y. escape_run true (Some backslash) y ≡ Some finished) f (short_runs true h)
spelling_runs_lossy m (unicode_escape {u = u} {p = p} {q = q} {r = r} {s = s} h a b) l e =
    let f : 117 ∷ p ∷ q ∷ r ∷ s ∷ [] ≡ m = cc in subst (λ y. escape_run true (Some backslash) y ≡ Some finished) f (unit_runs p q r s u (hex_to p q r s u h))
spelling_runs_lossy m (surrogate_escapes i a k b) l e = absurd (omega arith)

pub atom_runs : (lossy : Bool) {v : List ℕ} (m : List ℕ) → Atom lossy v → v ≡ 92 ∷ m → escape_run lossy (Some backslash) m ≡ Some finished
atom_runs false m (spelling h i) e = spelling_runs m h e
atom_runs false m (lone_surrogate f h a) e = absurd (cc)
atom_runs true m (spelling h i) e = spelling_runs_lossy m h (i refl) e
atom_runs true m (lone_surrogate {u = u} {p = p} {q = q} {r = r} {t = t} f h a) e =
    let g : 117 ∷ p ∷ q ∷ r ∷ t ∷ [] ≡ m = cc in subst (λ y. escape_run true (Some backslash) y ≡ Some finished) g (unit_runs p q r t u (hex_to p q r t u h))

-- ---- what precedes a state

abbrev pub LossyShape : Escape → List ℕ → Type 0
LossyShape backslash m = m ≡ []
LossyShape letter_u m = m ≡ 117 ∷ []
LossyShape one m = (p : ℕ) × (m ≡ 117 ∷ p ∷ []) × Hex p
LossyShape two m = (p q : ℕ) × (m ≡ 117 ∷ p ∷ q ∷ []) × Hex p × Hex q
LossyShape three m = (p q r : ℕ) × (m ≡ 117 ∷ p ∷ q ∷ r ∷ []) × Hex p × Hex q × Hex r
LossyShape finished m = Atom true (92 ∷ m)
LossyShape _ m = ⊥

abbrev Shaped : Option Escape → List ℕ → Type 0
Shaped o m = MatchOption o (Unit {0}) (λ s. LossyShape s m)

hex_shape : (s : Escape) (x : ℕ) (m : List ℕ) → (Hex x → LossyShape s m) → Shaped (hex_then s x) m
hex_shape s x m f = cond_both (nat_lt (digit_value x) 16) (Some s) None (λ o. Shaped o m) (λ e. f (ltb-true _ _ e)) (λ e. tt)

short_shape : (x y c : ℕ) (o : Option Escape) → ShortEscape y c → Shaped o (x ∷ []) → Shaped (cond (x == y) (Some finished) o) (x ∷ [])
short_shape x y c o h k = cond_both (x == y) (Some finished) o (λ o. Shaped o (x ∷ [])) (λ e. subst (λ z. Atom true (92 ∷ z ∷ [])) (sym (eqb-true x y e)) (spelling (short_escape h) (λ f. omega arith))) (λ e. k)

-- four digits spell a character, or are a surrogate's
unit_atom : (p q r s : ℕ) → Hex p → Hex q → Hex r → Hex s → Atom true (92 ∷ 117 ∷ p ∷ q ∷ r ∷ s ∷ [])
unit_atom p q r s a b c d = by (cases_lt u 55296) (cases_lt u 56320) (cases_lt u 57344)
  where
    u : ℕ
    u = hex_value p q r s

    over : (n m : ℕ) → n < m → m ≤ n → ⊥
    over n m h k = omega arith

    by : (u < 55296) ⊎ (55296 ≤ u) → (u < 56320) ⊎ (56320 ≤ u) → (u < 57344) ⊎ (57344 ≤ u) → Atom true (92 ∷ 117 ∷ p ∷ q ∷ r ∷ s ∷ [])
    by (inl l) m n = spelling (unicode_escape (hex_from p q r s a b c d) (λ h. over u 55296 l h.0) (λ h. over u 56320 (omega arith) h.0)) (λ f. omega arith)
    by (inr l) (inl m) n = lone_surrogate refl (hex_from p q r s a b c d) (inl (l, m))
    by (inr l) (inr m) (inl n) = lone_surrogate refl (hex_from p q r s a b c d) (inr (m, n))
    by (inr l) (inr m) (inr n) = spelling (unicode_escape (hex_from p q r s a b c d) (λ h. over u 56320 h.1 m) (λ h. over u 57344 h.1 n)) (λ f. omega arith)

shape_step : (s : Escape) (m : List ℕ) (x : ℕ) → LossyShape s m → Shaped (escape_step true s x) (m ++ x ∷ [])
shape_step backslash m x h =
    subst (λ y. Shaped (escape_step true backslash x) (y ++ x ∷ [])) (sym h)
    (cond_both (x == 117) (Some letter_u) _ (λ o. Shaped o (x ∷ [])) (λ e. ap (λ y. y ∷ []) (eqb-true x 117 e))
    (λ e. short_shape x 34 34 _ quote (short_shape x 92 92 _ short_backslash (short_shape x 47 47 _ slash (short_shape x 98 8 _ backspace
    (short_shape x 102 12 _ form_feed (short_shape x 110 10 _ line_feed (short_shape x 114 13 _ carriage_return (short_shape x 116 9 None tab tt)))))))))
shape_step letter_u m x h = subst (λ y. Shaped (escape_step true letter_u x) (y ++ x ∷ [])) (sym h) (hex_shape one x (117 ∷ x ∷ []) (λ k. (x, refl, k)))
shape_step one m x (p, e, h) = hex_shape two x (m ++ x ∷ []) (λ k. (p, x, grow m (117 ∷ p ∷ []) [] x (e ∙ sym (append-nil _)), h, k))
shape_step two m x (p, q, e, h, i) = hex_shape three x (m ++ x ∷ []) (λ k. (p, q, x, grow m (117 ∷ p ∷ q ∷ []) [] x (e ∙ sym (append-nil _)), h, i, k))
shape_step three m x (p, q, r, e, h, i, j) =
    hex_shape finished x (m ++ x ∷ []) (λ k. subst (λ y. Atom true (92 ∷ y)) (sym (grow m (117 ∷ p ∷ q ∷ r ∷ []) [] x (e ∙ sym (append-nil _)))) (unit_atom p q r x h i j k))
shape_step finished m x h = tt
shape_step letter_d m x h = absurd h
shape_step high_two m x h = absurd h
shape_step high_three m x h = absurd h
shape_step high m x h = absurd h
shape_step low_backslash m x h = absurd h
shape_step low_u m x h = absurd h
shape_step low_d m x h = absurd h
shape_step low_two m x h = absurd h
shape_step low_three m x h = absurd h

shapes : (o : Option Escape) (a b : List ℕ) → Shaped o a → Shaped (escape_run true o b) (a ++ b)
shapes o a [] h = subst (Shaped o) (sym (append-nil a)) h
shapes None a (x ∷ b) h = subst (λ y. Shaped y (a ++ x ∷ b)) (sym (dead true b)) tt
shapes (Some s) a (x ∷ b) h = subst (Shaped (escape_run true (escape_step true s x) b)) (append_assoc a (x ∷ []) b) (shapes (escape_step true s x) (a ++ x ∷ []) b (shape_step s a x h))

pub lossy_shape_of : (s : Escape) (m : List ℕ) → escape_run true (Some backslash) m ≡ Some s → LossyShape s m
lossy_shape_of s m e = subst (λ o. Shaped o m) e (shapes (Some backslash) [] m refl)

-- in the strict mode each spelling is read at once
pub strict_atom : {c : ℕ} {e : List ℕ} → Spelling c e → Atom false e
strict_atom h = spelling h (λ t. absurd (cc))

-- an escape that was read to its end is an atom
pub atom_of : (lossy : Bool) (m : List ℕ) → escape_run lossy (Some backslash) m ≡ Some finished → Atom lossy (92 ∷ m)
atom_of true m e = lossy_shape_of finished m e
atom_of false m e = strict_atom (shape_of finished m e).1
