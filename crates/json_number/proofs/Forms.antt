-- Numbers of one value are the same number, with the same text.
use Rattle.std.proofs.Common.{◌≡◌, ◌↔◌, ℕ, suc, ◌<◌, ◌^◌, pos, negsuc, List, ◌∷◌, true, Some, sym, ap, ◌∙◌, arith}
use Rattle.std.proofs.lemmas.Bool.{ltb-true}
use Rattle.std.proofs.lemmas.Fmt.{decimal_injective, digits_decimal}
use Rattle.std.specs.Fmt.{decimal, signed_decimal}
use Rattle.std.specs.Str.{all_ascii_digits}
use Rattle.json_grammar.specs.Grammar.{number}
use Rattle.json_number.specs.Integers.{integer_in}
use Rattle.json_number.proofs.Integers.{own, decimal_number, decimal_reads, negative_number, negative_reads}
use mathlib.Core.Bool.{Bool-set}
use mathlib.Core.HLevel.{is_prop→PathP}
use Rattle.json_number.specs.BySign.{integer_value, is_formed}
use Rattle.json_number.specs.Numbers.{value_of, text_of_number}
use Rattle.json_number.specs.declared.number.Integer.{Integer}
use Rattle.json_number.specs.declared.number.Integer.TheVariants.{Unsigned, Negative}
use Rattle.json_number.specs.declared.number.Number.{Number}

same_form : (f g : Integer) → is_formed f ≡ true → is_formed g ≡ true → integer_value f ≡ integer_value g → f ≡ g
same_form (Unsigned m) (Unsigned n) p q e = cc
same_form (Unsigned m) (Negative (pos n)) p q e = cc
same_form (Unsigned m) (Negative (negsuc n)) p q e = cc
same_form (Negative (pos m)) g p q e = cc
same_form (Negative (negsuc m)) (Unsigned n) p q e = cc
same_form (Negative (negsuc m)) (Negative (pos n)) p q e = cc
same_form (Negative (negsuc m)) (Negative (negsuc n)) p q e = cc

by_form : (x y : Number) → x.form ≡ y.form → x ≡ y
by_form x y q = λ i. record { form = q i; formed = is_prop→PathP (λ j. is_formed (q j) ≡ true) (λ j. Bool-set (is_formed (q j)) true) x.formed y.formed i }

pub same_value : (x y : Number) → value_of x ≡ value_of y → x ≡ y
same_value x y e = by_form x y (same_form x.form y.form x.formed y.formed e)

-- ---- texts

no_minus : (m : ℕ) (b : List ℕ) → m < 2 ^ 64 → decimal m ≡ 45 ∷ b → ⊥
no_minus m b h e = let d : all_ascii_digits (45 ∷ b) ≡ true = ap all_ascii_digits (sym e) ∙ digits_decimal own m h in cc

same_text : (f g : Integer) → is_formed f ≡ true → is_formed g ≡ true → signed_decimal (integer_value f) ≡ signed_decimal (integer_value g) → integer_value f ≡ integer_value g
same_text (Unsigned m) (Unsigned n) p q e = ap pos (decimal_injective m n (ltb-true _ _ p) (ltb-true _ _ q) e)
same_text (Unsigned m) (Negative (pos n)) p q e = cc
same_text (Unsigned m) (Negative (negsuc n)) p q e = absurd (no_minus m _ (ltb-true _ _ p) e)
same_text (Negative (pos m)) g p q e = cc
same_text (Negative (negsuc m)) (Unsigned n) p q e = absurd (no_minus n _ (ltb-true _ _ q) (sym e))
same_text (Negative (negsuc m)) (Negative (pos n)) p q e = cc
same_text (Negative (negsuc m)) (Negative (negsuc n)) p q e =
    let k = ltb-true _ _ p in
    let i = ltb-true _ _ q in
    let t : decimal (suc m) ≡ decimal (suc n) = cc in
    let s : suc m ≡ suc n = decimal_injective (suc m) (suc n) (omega arith) (omega arith) t in
    let r : m ≡ n = omega arith in
    ap negsuc r

pub texts : (x y : Number) → (value_of x ≡ value_of y) ↔ (text_of_number x ≡ text_of_number y)
texts x y = (λ e. ap signed_decimal e, same_text x.form y.form x.formed y.formed)

pub reads : (x : Number) → number (text_of_number x) × (integer_in (text_of_number x) ≡ Some (value_of x))
reads x = by x.form x.formed
  where
    by : (f : Integer) → is_formed f ≡ true → number (signed_decimal (integer_value f)) × (integer_in (signed_decimal (integer_value f)) ≡ Some (integer_value f))
    by (Unsigned n) p = let h = ltb-true _ _ p in (decimal_number n h, decimal_reads n h)
    by (Negative (pos n)) p = cc
    by (Negative (negsuc n)) p = let h = ltb-true _ _ p in (negative_number n (omega arith), negative_reads n h)
