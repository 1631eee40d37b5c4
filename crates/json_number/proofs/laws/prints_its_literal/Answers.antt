use Rattle.json_number.proofs.Integers as proof
use Rattle.json_number.proofs.laws.prints_its_literal.Goals as goal

pub returns : goal.returns
returns c = proof.prints_its_literal
