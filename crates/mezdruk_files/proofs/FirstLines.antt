-- The first line of some bytes, and lines that have only whitespace.
use Rattle.std.proofs.Common.{◌≡◌, ℕ, zero, suc, ◌+◌, ◌-◌, ◌<◌, ◌≤◌, ◌==◌, Bool, true, false, List, [], ◌∷◌, length, take, drop, get_or, subst, ap, ◌∙◌, refl, arith, inl, inr}
use Rattle.std.proofs.lemmas.Bool.{false_from_ne_true, cond-true, cond-false, cases_lt, eqb-true, eqb-false}
use Rattle.std.proofs.lemmas.List.{take_all}
use Rattle.std.specs.List.{onto_first}
use Rattle.json_grammar.specs.Grammar.{ws, IsWhitespace}
use Rattle.json_grammar.specs.Given.{piece}
use Rattle.memchr.specs.Find.{Passes, is_byte, Nowhere}
use Rattle.mezdruk_files.specs.Parts.{lines_of}
use Rattle.json_command.specs.Input.{BlankTest}

-- ---- lines

-- up to the first newline
pub lines_of-at : (bytes : List ℕ) (k : ℕ) → k < length bytes → Nowhere (Passes (is_byte 10) bytes) 0 k → Passes (is_byte 10) bytes k → lines_of bytes ≡ take k bytes ∷ lines_of (drop (k + 1) bytes)
lines_of-at [] k high before here = absurd (omega arith)
lines_of-at (b ∷ bs) zero high before here = cond-true (b == 10) ([] ∷ lines_of bs) (onto_first b (lines_of bs)) here
lines_of-at (b ∷ bs) (suc k) high before here =
    let skip : (b == 10) ≡ false = false_from_ne_true (b == 10) (before 0 (omega arith) (omega arith)) in
    let shift : suc (k + 1) ≡ suc k + 1 = omega arith in
    let later = lines_of-at bs k (omega arith) (λ i low below. before (suc i) (omega arith) (omega arith)) here in
    cond-false (b == 10) ([] ∷ lines_of bs) (onto_first b (lines_of bs)) skip ∙ ap (onto_first b) later ∙ ap (λ n. (b ∷ take k bs) ∷ lines_of (drop n (b ∷ bs))) shift

-- bytes without a newline
pub lines_of-alone : (bytes : List ℕ) → 0 < length bytes → Nowhere (Passes (is_byte 10) bytes) 0 (length bytes) → lines_of bytes ≡ bytes ∷ []
lines_of-alone [] some none = absurd (omega arith)
lines_of-alone (b ∷ []) some none = cond-false (b == 10) ([] ∷ []) ((b ∷ []) ∷ []) (false_from_ne_true (b == 10) (none 0 (omega arith) (omega arith)))
lines_of-alone (b ∷ c ∷ bs) some none =
    let skip : (b == 10) ≡ false = false_from_ne_true (b == 10) (none 0 (omega arith) (omega arith)) in
    cond-false (b == 10) ([] ∷ lines_of (c ∷ bs)) (onto_first b (lines_of (c ∷ bs))) skip
    ∙ ap (onto_first b) (lines_of-alone (c ∷ bs) (omega arith) (λ i low below. none (suc i) (omega arith) (omega arith)))

-- ---- whitespace

pub ws_at : (b : List ℕ) (k : ℕ) → ws b → k < length b → IsWhitespace (get_or b k 0)
ws_at [] k w l = absurd (omega (arith, l))
ws_at (x ∷ b) zero w l = w.0
ws_at (x ∷ b) (suc k) w l = ws_at b k w.1 (omega (arith, l))

pub blank_known : (b : List ℕ) (k : ℕ) (t : Bool) → (k == length b) ≡ t → k ≤ length b → ws (piece b 0 k) → (k < length b → ¬ (IsWhitespace (get_or b k 0))) → BlankTest b t
blank_known b k true is short space stop = subst ws (ap (λ n. take n b) {x = k - 0} {y = length b} (omega (arith, eqb-true k (length b) is)) ∙ take_all (length b) b (omega arith)) space
blank_known b k false is short space stop = λ w. let l = below b k short (eqb-false k (length b) is) in stop l (ws_at b k w l)
  where
    below : (b : List ℕ) (k : ℕ) → k ≤ length b → (k ≡ length b → ⊥) → k < length b
    below b k short n = elim (cases_lt k (length b)) [ inl l ↦ l | inr m ↦ absurd (n (omega (arith, m, short))) ]
