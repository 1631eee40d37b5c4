use Rattle.std.proofs.Common.{refl, ap, rules}
use Rattle.reshape.proofs.MadeInput.{fit_from, no_rise}
use Rattle.reshape.proofs.made.print_made.Goals as goal

pub returns-in_err-reshape-clause-err : goal.returns-in_err-reshape-clause-err
returns-in_err-reshape-clause-err c =
    λ tree input.
    let told = c.in_err-reshape.ensures.complete (fit_from c.args.input.now tree _ _ _ _ _ refl input (ap (λ s. s.left) c.new-source.ensures) no_rise no_rise) in
    search (rules, told)
