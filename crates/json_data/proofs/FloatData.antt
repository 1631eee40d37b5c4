-- What is read of a number as a float.
use Rattle.std.proofs.Common.{◌≡◌, ◌∙◌, ℕ, List, Option, Some, None, Float, refl, sym, ap}
use Rattle.std.specs.Float.{Format, binary64}
use Rattle.std.specs.Float.Ieee.{nan, inf, fin}
use Rattle.json_grammar.specs.Grammar.{number}
use Rattle.json_grammar.specs.Tree.{num}
use Rattle.json_io.specs.declared.error.ErrorCode.TheVariants.{NumberOutOfRange}
use Rattle.json_number.proofs.Doubles.{integer_double}
use Rattle.json_number.proofs.Floats.{nearest_is}
use Rattle.json_number.proofs.Forms.{reads}
use Rattle.json_number.specs.Floats.{float_in}
use Rattle.json_number.specs.Numbers.{value_of, text_of_number}
use Rattle.json_number.specs.declared.number.Number.{Number}
use Rattle.json_data.specs.Floats.{float_datum, in_float_range, read_float, SameFloat, ReadsNearestFloat, ReadsIntegerAsDouble}
use Rattle.json_data.specs.Reading.{gives, refuses}

pub float_given : (format : Format) (l : List ℕ) (o : Option Float) (x : Float) → o ≡ float_in format l → o ≡ Some x → read_float format (num l) ≡ gives (float_datum x)
float_given format l o x e h = ap in_float_range (sym e ∙ h)

pub float_beyond : (format : Format) (l : List ℕ) (o : Option Float) → o ≡ float_in format l → o ≡ None → read_float format (num l) ≡ refuses NumberOutOfRange
float_beyond format l o e h = ap in_float_range (sym e ∙ h)

pub same_float : SameFloat
same_float nan nan h = refl
same_float nan (inf t) h = cc
same_float nan (fin t n f) h = cc
same_float (inf s) nan h = cc
same_float (inf s) (inf t) h = cc
same_float (inf s) (fin t n f) h = cc
same_float (fin s m e) nan h = cc
same_float (fin s m e) (inf t) h = cc
same_float (fin s m e) (fin t n f) h = cc

pub reads_nearest_float : ReadsNearestFloat
reads_nearest_float format l n = ap in_float_range (nearest_is format l n)

pub reads_integer_as_double : ReadsIntegerAsDouble
reads_integer_as_double x = let r = reads x in ap in_float_range (integer_double (text_of_number x) (value_of x) r.0 r.1)
