use Rattle.json_number.proofs.Literals.{number_from_test}
use Rattle.json_number.proofs.laws.literal_is_number.Goals as goal

pub returns : goal.returns
returns c = λ r. number_from_test _ r.is_literal
