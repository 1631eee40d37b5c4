-- Strings by their plain runs.
use Rattle.std.proofs.Common.{◌≡◌, ℕ, ◌+◌, ◌-◌, ◌^◌, ◌<◌, ◌≤◌, false, List, [], ◌∷◌, ◌++◌, length, take, drop, get_or, inl, inr, refl, sym, ap, ap₂, ◌∙◌, subst, arith, append-nil, Ok, Err, Result}
use Rattle.std.proofs.Math.Seq.{take-add}
use Rattle.std.proofs.lemmas.Bool.{ne_eqb, lt-ltb, cases_lt}
use Rattle.std.proofs.lemmas.Fmt.{hex_byte}
use Rattle.std.proofs.lemmas.List.{take_all, take_more, take-append-drop}
use Rattle.std.specs.Fmt.{digits, format_spec, padded_integral}
use Rattle.json_model.specs.Print.{shown_byte, shown_bytes, unit_escape}
use Rattle.json_model.proofs.Printing.{plain_shown, shown_append}
use Rattle.json_io.specs.declared.sink.SinkError.{SinkError}
use Rattle.json_io.specs.Outside.{SinkState}
use Rattle.json_layout.specs.Adding.{Adds}
use Rattle.json_layout.proofs.Pieces.{Adds-first, Adds-then}
use Rattle.json_grammar.specs.Given.{piece}
use Rattle.json_scan.specs.Runs.{IsPlain, plain}

-- a byte that has to be escaped and is neither a quote nor a backslash
control : (x : ℕ) → ¬ (IsPlain x) → (x ≡ 34 → ⊥) → (x ≡ 92 → ⊥) → x < 32
control x n q b = elim (cases_lt x 32) [ inl m ↦ m | inr m ↦ absurd (n (m, q, b)) ]

-- it has no letter
pub control_shown : (x : ℕ) → ¬ (IsPlain x) → (x ≡ 34 → ⊥) → (x ≡ 92 → ⊥) → (x ≡ 8 → ⊥) → (x ≡ 9 → ⊥) → (x ≡ 10 → ⊥) → (x ≡ 12 → ⊥) → (x ≡ 13 → ⊥) → shown_byte x ≡ unit_escape x
unfolding shown_byte
control_shown x p q s b t n f r = rw (ne_eqb x 34 q, ne_eqb x 92 s, lt-ltb x 32 (control x p q s), ne_eqb x 8 b, ne_eqb x 9 t, ne_eqb x 10 n, ne_eqb x 12 f, ne_eqb x 13 r) refl

-- such a byte is ASCII
pub special_ascii : (x : ℕ) → ¬ (IsPlain x) → x < 128
special_ascii x n = elim (cases_lt x 128) [ inl m ↦ m | inr m ↦ absurd (n (omega arith, (λ e. absurd (omega arith)), (λ e. absurd (omega arith)))) ]

-- the four digits that a formatter writes of it, after a backslash and a `u`
pub unit_text : (x : ℕ) → x < 256 → 92 ∷ 117 ∷ 48 ∷ 48 ∷ padded_integral (format_spec 32 0 4 2 (2 ^ 64 - 1)) false [] (digits 16 false x) ≡ unit_escape x
unit_text x l = ap (λ d. 92 ∷ 117 ∷ 48 ∷ 48 ∷ d) (hex_byte false x l)

pub plain_all : (l : List ℕ) → plain l → shown_bytes l ≡ l
plain_all [] h = refl
plain_all (x ∷ l) h = ap₂ (λ a b. a ++ b) (plain_shown x h.0.1 h.0.2 h.0.0) (plain_all l h.1)

-- the bytes after what was shown
pub batch_shown : (b : List ℕ) (i j : ℕ) → i ≤ j → shown_bytes (take i b) ++ shown_bytes (piece b i j) ≡ shown_bytes (take j b)
batch_shown b i j l =
    let e : i + (j - i) ≡ j = omega (arith, l) in
    sym (shown_append (take i b) (piece b i j)) ∙ ap shown_bytes (sym (take-add i (j - i) b)) ∙ ap (λ n. shown_bytes (take n b)) e

-- a plain run after what was shown
pub run_shown : (b : List ℕ) (i j : ℕ) → i ≤ j → plain (piece b i j) → shown_bytes (take i b) ++ piece b i j ≡ shown_bytes (take j b)
run_shown b i j l h = ap (λ x. shown_bytes (take i b) ++ x) (sym (plain_all (piece b i j) h)) ∙ batch_shown b i j l

-- where the run reaches the end, no byte is special
pub whole_plain : (b : List ℕ) (j : ℕ) → j ≡ length b → plain (piece b 0 j) → plain b
whole_plain b j e h = let l : length b ≤ j - 0 = omega arith in subst plain (take_all (j - 0) b l) h

-- a special byte after it
pub byte_shown : (b : List ℕ) (i : ℕ) → i < length b → shown_bytes (take i b) ++ shown_byte (get_or b i 0) ≡ shown_bytes (take (i + 1) b)
byte_shown b i l = rw (take_more b i 0 l, shown_append (take i b) (get_or b i 0 ∷ []), append-nil (shown_byte (get_or b i 0))) refl

-- a run to the end, and a run with a special byte after it
pub all_shown : (b : List ℕ) (i j : ℕ) (r : List ℕ) → i ≤ j → j ≡ length b → plain (piece b i j) → r ≡ piece b i j → shown_bytes (take i b) ++ r ≡ shown_bytes b
all_shown b i j r l e h p = ap (λ x. shown_bytes (take i b) ++ x) p ∙ run_shown b i j l h ∙ ap shown_bytes (take_all j b (omega arith))

pub more_shown : (b c : List ℕ) (i j : ℕ) (r : List ℕ) → c ≡ b → i ≤ j → j < length b → plain (piece b i j) → r ≡ piece b i j
    → (shown_bytes (take i b) ++ r) ++ shown_byte (get_or c j 0) ≡ shown_bytes (take (j + 1) b)
more_shown b c i j r e l m h p = rw (e, p) (ap (λ o. o ++ shown_byte (get_or b j 0)) (run_shown b i j l h) ∙ byte_shown b j m)

-- ---- what a sink has

pub run_put : (a b c : SinkState) (value : List ℕ) (i j : ℕ) (r : Result (Unit {0}) SinkError) → i ≤ j → plain (piece value i j) → Adds a b (shown_bytes (take i value)) (Ok tt) → Adds b c (piece value i j) r
    → Adds a c (shown_bytes (take j value)) r
run_put a b c value i j r l h p q = subst (λ l. Adds a c l r) (run_shown value i j l h) (Adds-then a b c _ _ tt r p q)

pub batch_put : (a b c : SinkState) (value : List ℕ) (i j : ℕ) (r : Result (Unit {0}) SinkError) → i ≤ j → Adds a b (shown_bytes (take i value)) (Ok tt) → Adds b c (shown_bytes (piece value i j)) r → Adds a c (shown_bytes (take j value)) r
batch_put a b c value i j r l p q = subst (λ s. Adds a c s r) (batch_shown value i j l) (Adds-then a b c _ _ tt r p q)

pub shown_failed : (a b : SinkState) (value : List ℕ) (i : ℕ) (e : SinkError) → Adds a b (shown_bytes (take i value)) (Err e) → Adds a b (shown_bytes value) (Err e)
shown_failed a b value i e p =
    subst (λ l. Adds a b l (Err e)) (sym (shown_append (take i value) (drop i value)) ∙ ap shown_bytes (take-append-drop i value)) (Adds-first a b _ (shown_bytes (drop i value)) e p)
