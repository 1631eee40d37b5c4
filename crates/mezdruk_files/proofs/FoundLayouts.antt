-- The whitespace of a text, and the indent that is found there.
use Rattle.std.proofs.Common.{◌≡◌, ◌⊎◌, inl, inr, ℕ, zero, suc, ◌+◌, ◌-◌, ◌<◌, ◌≤◌, ◌==◌, ◌||◌, Bool, true, false, cond, List, [], ◌∷◌, length, take, drop, get_or, Option, Some, None, option_map, refl, sym, ap, subst, ◌∙◌, arith, lit<}
use Rattle.std.proofs.lemmas.Bool.{false_from_ne_true, cond-true, cond-false, eqb-true}
use Rattle.std.specs.Str.{IsAscii, IsUtf8}
use Rattle.std.proofs.lemmas.Str.{IsUtf8-from_ascii}
use Rattle.std.specs.List.{prefix_len, take_while}
use Rattle.std.proofs.lemmas.List.Sums.{take_while-cons}
use Rattle.memchr.specs.Find.{Passes, is_byte, Nowhere, IsLastByte, NoneAfter}
use Rattle.json_grammar.specs.Grammar.{ws, IsWhitespace}
use Rattle.json_grammar.specs.Given.{piece}
use Rattle.json_model.specs.Print.{IsIndent}
use Rattle.mezdruk_files.specs.FoundLayouts.{is_whitespace, after_whitespace, is_opening, is_empty_before, gap_before_first, gap_after_bracket, after_newline, found_indent}

-- ---- runs of whitespace

true_or : (a b c d : Bool) → (a || b || c || d) ≡ true → (a ≡ true) ⊎ (b ≡ true) ⊎ (c ≡ true) ⊎ (d ≡ true)
true_or true b c d h = inl refl
true_or false true c d h = inr (inl refl)
true_or false false true d h = inr (inr (inl refl))
true_or false false false d h = inr (inr (inr h))

is_true : (x : ℕ) → IsWhitespace x → is_whitespace x ≡ true
is_true x (inl e) = rw e refl
is_true x (inr (inl e)) = rw e refl
is_true x (inr (inr (inl e))) = rw e refl
is_true x (inr (inr (inr e))) = rw e refl

from_true : (x : ℕ) → is_whitespace x ≡ true → IsWhitespace x
from_true x h = elim (true_or (x == 32) (x == 9) (x == 10) (x == 13) h) [ inl e ↦ inl (eqb-true x 32 e) | inr r ↦ elim r [ inl e ↦ inr (inl (eqb-true x 9 e)) | inr s ↦ elim s [ inl e ↦ inr (inr (inl (eqb-true x 10 e))) | inr e ↦ inr (inr (inr (eqb-true x 13 e))) ] ] ]

is_false : (x : ℕ) → ¬ (IsWhitespace x) → is_whitespace x ≡ false
is_false x n = false_from_ne_true (is_whitespace x) (λ e. n (from_true x e))

-- a run of whitespace that ends at e
pub run_len : (b : List ℕ) (e : ℕ) → e ≤ length b → ws (take e b) → (e < length b → ¬ (IsWhitespace (get_or b e 0))) → prefix_len is_whitespace b ≡ e
run_len [] e within space stop = omega (arith, within)
run_len (x ∷ b) zero within space stop = cond-false (is_whitespace x) (1 + prefix_len is_whitespace b) 0 (is_false x (stop (omega arith)))
run_len (x ∷ b) (suc e) within space stop =
    cond-true (is_whitespace x) (1 + prefix_len is_whitespace b) 0 (is_true x space.0) ∙ ap (λ n. 1 + n) (run_len b e (omega (arith, within)) space.1 (λ l. stop (omega (arith, l)))) ∙ omega arith

pub run_is : (b : List ℕ) (e : ℕ) → e ≤ length b → ws (piece b 0 e) → (e < length b → ¬ (IsWhitespace (get_or b e 0))) → prefix_len is_whitespace b ≡ e
run_is b e within space stop = run_len b e within (subst (λ n. ws (take n b)) {x = e - 0} {y = e} (omega arith) space) stop

-- ---- it is whitespace

pub ws_leading : (b : List ℕ) → ws (take_while is_whitespace b)
ws_leading [] = tt
ws_leading (x ∷ b) = by (is_whitespace x) refl (ws_leading b)
  where
    by : (t : Bool) → is_whitespace x ≡ t → ws (take_while is_whitespace b) → ws (take_while is_whitespace (x ∷ b))
    by true e h = subst ws (sym (take_while-cons is_whitespace x b ∙ cond-true (is_whitespace x) (x ∷ take_while is_whitespace b) [] e)) (from_true x e, h)
    by false e h = subst ws (sym (take_while-cons is_whitespace x b ∙ cond-false (is_whitespace x) (x ∷ take_while is_whitespace b) [] e)) tt

ws_cond : (t : Bool) (b c : List ℕ) → ws b → ws c → ws (cond t b c)
ws_cond true b c h g = h
ws_cond false b c h g = g

ws_gap : (b : List ℕ) → ws (gap_after_bracket b)
ws_gap [] = tt
ws_gap (x ∷ b) = ws_cond (is_opening x) (gap_before_first b) [] (ws_cond (is_empty_before (after_whitespace b)) [] (take_while is_whitespace b) tt (ws_leading b)) tt

ws_after : (b s : List ℕ) → ws b → after_newline b ≡ Some s → ws s
ws_after [] s h e = absurd (cc)
ws_after (x ∷ b) s h e = by (after_newline b) (x == 10) refl (ws_after b s h.1) e
  where
    by : (o : Option (List ℕ)) (t : Bool) → after_newline b ≡ o → (after_newline b ≡ Some s → ws s) → elim o as (λ (u : Option (List ℕ)). Option (List ℕ)) [ Some line ↦ Some line | None ↦ cond t (Some b) None ] ≡ Some s → ws s
    by (Some line) t f k g = k (f ∙ g)
    by None true f k g = let same : b ≡ s = cc in subst ws same h.1
    by None false f k g = absurd (cc)

-- the indent of a text is whitespace
pub ws_indent : (b s : List ℕ) → found_indent b ≡ Some s → ws s
ws_indent b s e = ws_after (gap_after_bracket (after_whitespace b)) s (ws_gap (after_whitespace b)) e

ascii_byte : (x : ℕ) → IsWhitespace x → x < 128
ascii_byte x (inl e) = omega (arith, e)
ascii_byte x (inr (inl e)) = omega (arith, e)
ascii_byte x (inr (inr (inl e))) = omega (arith, e)
ascii_byte x (inr (inr (inr e))) = omega (arith, e)

ascii : (b : List ℕ) → ws b → IsAscii b
ascii [] h i = lit< tt
ascii (x ∷ b) h zero = ascii_byte x h.0
ascii (x ∷ b) h (suc i) = ascii b h.1 i

-- and so UTF-8
pub utf8_whitespace : (b : List ℕ) → ws b → IsUtf8 b
utf8_whitespace b h = IsUtf8-from_ascii b (ascii b h)

-- ---- the last newline

pub after_newline-none : (b : List ℕ) → Nowhere (Passes (is_byte 10) b) 0 (length b) → after_newline b ≡ None
after_newline-none [] none = refl
after_newline-none (x ∷ b) none =
    let later : after_newline b ≡ None = after_newline-none b (λ i low below. none (suc i) (omega arith) (omega (arith, below))) in
    let here : (x == 10) ≡ false = false_from_ne_true (x == 10) (none 0 (omega arith) (omega arith)) in
    rw (later, here) refl

pub after_newline-at : (b : List ℕ) (k : ℕ) → k < length b → Passes (is_byte 10) b k → Nowhere (Passes (is_byte 10) b) (k + 1) (length b) → after_newline b ≡ Some (drop (k + 1) b)
after_newline-at [] k high here none = absurd (omega (arith, high))
after_newline-at (x ∷ b) zero high here none =
    let later : after_newline b ≡ None = after_newline-none b (λ i low below. none (suc i) (omega arith) (omega (arith, below))) in
    let this : (x == 10) ≡ true = here in
    rw (later, this) refl
after_newline-at (x ∷ b) (suc k) high here none =
    let later : after_newline b ≡ Some (drop (k + 1) b) = after_newline-at b k (omega (arith, high)) here (λ i low below. none (suc i) (omega (arith, low)) (omega (arith, below))) in
    let shift : suc (k + 1) ≡ suc k + 1 = omega arith in
    rw later (ap (λ n. Some (drop n (x ∷ b))) shift)

-- ---- as an indent

pub indent_is_whitespace : (b : List ℕ) → IsIndent (found_indent b)
indent_is_whitespace b = by (found_indent b) (ws_indent b)
  where
    by : (o : Option (List ℕ)) → ((s : List ℕ) → o ≡ Some s → ws s) → IsIndent o
    by None h = tt
    by (Some s) h = h s refl
