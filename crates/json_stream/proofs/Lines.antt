-- Lines within bytes that follow others.
use Rattle.std.proofs.Common.{◌≡◌, ◌≢◌, ℕ, suc, ◌+◌, ◌-◌, ◌<◌, ◌==◌, not, eqb, true, false, cond, List, [], ◌∷◌, ◌++◌, length, get_or, reverse, refl, ◌∙◌, ap, arith, length-drop}
use Rattle.std.specs.Prelude.{count_by}
use Rattle.std.specs.List.{suffix_len, prefix_len, after_last}
use Rattle.std.proofs.lemmas.Bool.{cond-true, cond-false}
use Rattle.std.proofs.lemmas.Bool.Decides.{nat_tests}
use Rattle.std.proofs.lemmas.List.{reverse-append, length-reverse}
use Rattle.std.proofs.lemmas.List.Folds.{prefix_len-append}
use Rattle.std.proofs.lemmas.List.Sums.{suffix_len-le-length, suffix_len_is, sum_by-append, sum_by-cons}

-- how many bytes follow the last 0A, or all where there is none
abbrev pub after_line : List ℕ → ℕ
after_line b = suffix_len (λ x. not (x == 10)) b

abbrev pub lines : List ℕ → ℕ
lines b = count_by (λ x. x == 10) b

pub column_is : (b : List ℕ) → length (after_last (λ x. x == 10) b) ≡ after_line b
column_is b = let s = suffix_len-le-length (λ x. not (x == 10)) b in omega (arith, length-drop (length b - after_line b) b)

pub after_some : (a b : List ℕ) → after_line b < length b → after_line (a ++ b) ≡ after_line b
after_some a b h =
    let p = λ (x : ℕ). not (x == 10) in
    let n = length-reverse b in
    let no : eqb (prefix_len p (reverse b)) (length (reverse b)) ≡ false = grind (arith, nat_tests) in
    ap (prefix_len p) (reverse-append a b) ∙ prefix_len-append p (reverse b) (reverse a) ∙ cond-false _ _ _ no

pub after_all : (a b : List ℕ) → after_line b ≡ length b → after_line (a ++ b) ≡ after_line a + length b
after_all a b h =
    let p = λ (x : ℕ). not (x == 10) in
    let n = length-reverse b in
    let yes : eqb (prefix_len p (reverse b)) (length (reverse b)) ≡ true = grind (arith, nat_tests) in
    ap (prefix_len p) (reverse-append a b) ∙ prefix_len-append p (reverse b) (reverse a) ∙ cond-true _ _ _ yes ∙ omega arith

pub lines_more : (a b : List ℕ) → lines (a ++ b) ≡ lines a + lines b
lines_more a b = sum_by-append (λ x. cond (x == 10) 1 0) a b

-- no byte is 0A
abbrev pub InLine : List ℕ → Type 0
InLine b = (k : ℕ) → k < length b → get_or b k 0 ≢ 10

pub after_none : (b : List ℕ) → InLine b → after_line b ≡ length b
after_none b h = suffix_len_is (λ x. not (x == 10)) b 0 0 (omega arith) (λ k m n. let e = h k n in grind (arith, nat_tests)) (λ n. absurd (omega arith)) ∙ omega arith

pub lines_none : (b : List ℕ) → InLine b → lines b ≡ 0
lines_none [] h = refl
lines_none (x ∷ b) h =
    let no : x == 10 ≡ false = (let e = h 0 (omega arith) in grind (arith, nat_tests)) in
    sum_by-cons (λ y. cond (y == 10) 1 0) x b ∙ ap (λ t. cond t 1 0 + lines b) no ∙ (let rest : lines b ≡ 0 = lines_none b (λ k n. h (suc k) (omega arith)) in omega arith)
