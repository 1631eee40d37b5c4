use Rattle.std.proofs.lemmas.Slice.Eq.{bytes_eq-Decides}
use Rattle.json_number.specs.Literals.{raw_literal}
use Rattle.json_number.proofs.laws.equal_by_literal.Goals as goal

pub returns : goal.returns
returns c = λ r s. bytes_eq-Decides (raw_literal r) (raw_literal s)
