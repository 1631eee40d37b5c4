use Rattle.std.proofs.Common.{◌^◌, true, get_or, ◌==◌, refl, arith}
use Rattle.std.proofs.lemmas.Bool.{eqb-true, agree_below_at}
use Rattle.json_text.specs.declared.integer.TheConstants.{POWERS_OF_TEN}
use Rattle.json_text.proofs.integer.power_of_ten.Goals as goal

pub returns : goal.returns
returns c = eqb-true _ _ (agree_below_at (λ k. get_or POWERS_OF_TEN k 0 == 10 ^ k) (λ _. true) 9 c.args.exponent refl (omega arith))
