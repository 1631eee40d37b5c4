-- What a view reads of a number: a literal that is kept is a number, and the double is that of the literal.
use Rattle.std.proofs.Common.{◌≡◌, ℕ, ℤ, List, Option, Some, None, sym, ap, ◌∙◌, subst}
use Rattle.std.proofs.lemmas.Option.{none-some, same_Some}
use Rattle.json_grammar.specs.Tree.{Tree, null, boolean, num, text, list, pairs}
use Rattle.json_grammar.specs.Grammar.{number}
use Rattle.json_grammar.specs.Proper.{IsProper}
use Rattle.json_number.specs.Floats.{double_of}
use Rattle.json_number.specs.Integers.{integer_in}
use Rattle.json_number.specs.Numbers.{value_of, text_of_number}
use Rattle.json_number.specs.declared.number.Number.{Number as NumberType}
use Rattle.json_number.proofs.Doubles.{integer_double}
use Rattle.json_number.proofs.Forms.{reads}
use Rattle.json_doc.specs.Readings.{literal_of, literal_unless}
use Rattle.json_value.specs.Doubles.{double_in}
use Rattle.json_value.specs.Seen.{seen}
use Rattle.json_value.specs.declared.view.View.{View}
use Rattle.json_value.proofs.SameNumbers.{seen_proper}

-- the literal of a number that is no integer by value is all of it
whole_literal : (o : Option ℤ) (k l : List ℕ) → Some l ≡ literal_unless o k → l ≡ k
whole_literal None k l e = same_Some l k e
whole_literal (Some n) k l e = absurd (none-some l (sym e))

literal_proper : (t : Tree) (l : List ℕ) → IsProper t → Some l ≡ literal_of t → number l
literal_proper (num k) l proper e = subst number (sym (whole_literal (integer_in k) k l e)) proper
literal_proper null l proper e = absurd (none-some l (sym e))
literal_proper (boolean b) l proper e = absurd (none-some l (sym e))
literal_proper (text s) l proper e = absurd (none-some l (sym e))
literal_proper (list ts) l proper e = absurd (none-some l (sym e))
literal_proper (pairs ps) l proper e = absurd (none-some l (sym e))

-- the literal that a view reads is a number
pub literal_seen : (v : View) (l : List ℕ) → Some l ≡ literal_of (seen v) → number l
literal_seen v l e = literal_proper (seen v) l (seen_proper v) e

-- the double of an integer by value
pub number_double : (t : Tree) (n : NumberType) → t ≡ num (text_of_number n) → Some (double_of (value_of n)) ≡ double_in t
number_double t n e = sym (ap double_in e ∙ integer_double (text_of_number n) (value_of n) (reads n).0 (reads n).1)
