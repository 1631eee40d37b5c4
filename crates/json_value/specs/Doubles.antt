-- The doubles of values.
use Rattle.std.specs.Prelude.{Bool, false, Option, None, Some, Float}
use Rattle.std.specs.Float.{binary64}
use Rattle.std.specs.Float.Ieee.{eq}
use Rattle.json_grammar.specs.Tree.{Tree, num}
use Rattle.json_number.specs.Floats.{float_in}

-- the double nearest to the number (RFC 8259, section 6), where that is finite
abbrev pub double_in : Tree → Option Float
double_in (num l) = float_in binary64 l
double_in _ = None

-- there is a double, and it equals x by the equality of IEEE 754
abbrev pub equals_double : Option Float → Float → Bool
equals_double (Some d) x = eq d x
equals_double None x = false
