use Rattle.std.proofs.Common.{refl}
use Rattle.json_value.proofs.AppliedTrees.{anyway}
use Rattle.json_value.proofs.places.update.Goals as goal

pub returns-clause-ok : goal.returns-clause-ok
returns-clause-ok g c =
    let y = c.change.new.arg2 in
    (c.in_ok-place.place.now, y, c.in_ok-place.ensures.leads, search, (rw c.in_ok-place.was at (c.place_mut.follows.holds y)) refl)

pub returns-in_err-place-clause-kept : goal.returns-in_err-place-clause-kept
returns-in_err-place-clause-kept g c = anyway c.from_residual.result (rw c.in_err-place.was at c.place_mut.follows.holds-at-none).0

pub returns-in_err-place-clause-kept_along : goal.returns-in_err-place-clause-kept_along
returns-in_err-place-clause-kept_along g c = anyway c.from_residual.result (rw c.in_err-place.was at c.place_mut.follows.holds-at-none).1
