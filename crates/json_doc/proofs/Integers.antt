-- Integers by value: their literals, and what is kept of those.
use Rattle.std.proofs.Common.{◌≡◌, ◌<◌, ◌^◌, ℕ, ℤ, pos, negsuc, List, [], Option, Some, None, SFits, w64, refl, sym, ap, ◌∙◌, subst, arith}
use Rattle.std.specs.Prelude.{◌<ℤ◌}
use Rattle.std.specs.Fmt.{signed_decimal}
use Rattle.std.proofs.lemmas.Int.{ints}
use Rattle.json_grammar.specs.Grammar.{number}
use Rattle.json_grammar.specs.Tree.{num_token}
use Rattle.json_number.specs.Integers.{integer_in}
use Rattle.json_number.specs.Numbers.{value_of}
use Rattle.json_number.specs.declared.number.Number.{Number}
use Rattle.json_number.proofs.Integers.{prints_its_literal, negative_number, negative_reads}
use Rattle.json_doc.specs.ByValue.{integer_cell, raw_part}
use Rattle.json_doc.specs.Texts.{token_text}
use Rattle.json_doc.specs.Segment.{number_cell}
use Rattle.json_doc.specs.declared.cell.Cell.{Cell}
use Rattle.json_doc.specs.declared.cell.Cell.TheVariants as cell

-- an integer by value adds no text
pub integer_text : (l : List ℕ) (z : ℤ) → integer_in l ≡ Some z → token_text (num_token l) ≡ []
integer_text l z e = ap (λ (o : Option ℤ). raw_part o l) e

-- every other number adds its literal
pub raw_text : (l : List ℕ) → integer_in l ≡ None → token_text (num_token l) ≡ l
raw_text l e = ap (λ (o : Option ℤ). raw_part o l) e

-- the cell of an integer, and that of every other number
pub integer_is_there : (bytes l : List ℕ) (z : ℤ) → integer_in l ≡ Some z → l ≡ signed_decimal z → number_cell (integer_in l) bytes (integer_cell z) l
integer_is_there bytes l z e text = subst (λ (o : Option ℤ). number_cell o bytes (integer_cell z) l) (sym e) (refl, text)

pub raw_is_there : (bytes l : List ℕ) (c : Cell) → integer_in l ≡ None → number_cell None bytes c l → number_cell (integer_in l) bytes c l
raw_is_there bytes l c e h = subst (λ (o : Option ℤ). number_cell o bytes c l) (sym e) h

-- ---- what is recorded of a literal by value is the literal

pub literal_text : (l : List ℕ) (x : Number) (z : ℤ) → number l → integer_in l ≡ Some (value_of x) → z ≡ value_of x → signed_decimal z ≡ l
literal_text l x z is e v = ap signed_decimal v ∙ prints_its_literal l (value_of x) is e

-- ---- the text of an integer below 0

pub negative_text : (z : ℤ) → z <ℤ pos 0 → SFits w64 z → number (signed_decimal z) × (integer_in (signed_decimal z) ≡ Some z) × (integer_cell z ≡ cell.Negative z)
negative_text (pos n) h f = absurd (omega (arith, ints))
negative_text (negsuc n) h f = let k : n < 2 ^ 63 = f.sfits in (negative_number n (omega arith), negative_reads n k, refl)
