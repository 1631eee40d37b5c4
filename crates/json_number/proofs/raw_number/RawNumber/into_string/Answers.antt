use Rattle.json_number.proofs.Literals.{number_from_test}
use Rattle.json_number.proofs.raw_number.RawNumber.into_string.Goals as goal

pub returns-clause-number : goal.returns-clause-number
returns-clause-number c = number_from_test _ c.args.self.is_literal
