use Rattle.std.proofs.Common.{ℕ, arith}
use Rattle.std.proofs.lemmas.List.{length-take}
use Rattle.json_io.proofs.Reading.{Gives-more, TakesAtMost-stopped}
use Rattle.json_io.proofs.transfer.read_all.Goals as goal

pub returns-in_err-count-clause-taken : goal.returns-in_err-count-clause-taken
returns-in_err-count-clause-taken g c =
    let error = c.in_err-count.field-0.0 in
    TakesAtMost-stopped _ _ _ _ _ error.code error.place c.fill.invariant.0 (omega (arith, length-take {A = ℕ})) c.in_err-count.ensures.cause

pub fill-preserved : goal.fill-preserved
fill-preserved g c =
    (Gives-more _ _ _ _ _ _ _ c.fill.invariant.0 c.in_ok-count.ensures.front c.in_ok-count.ensures.gives, omega (arith, c.in_ok-count.ensures.fits), omega (arith, c.in_ok-count.ensures.few))
