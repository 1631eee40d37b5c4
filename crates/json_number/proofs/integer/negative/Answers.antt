use Rattle.std.proofs.Common.{◌∙◌, Some, ap, arith}
use Rattle.std.proofs.lemmas.Int.{ints}
use Rattle.json_number.proofs.LiteralDigits.{below_zero_of}
use Rattle.json_number.proofs.integer.negative.Goals as goal

pub returns-else-magnitude-gt-LEAST : goal.returns-else-magnitude-gt-LEAST
returns-else-magnitude-gt-LEAST c = ap Some (c.signed.ensures ∙ omega (arith, ints)) ∙ below_zero_of c.args.magnitude (omega arith) (omega arith)
