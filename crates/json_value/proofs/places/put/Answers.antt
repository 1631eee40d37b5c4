use Rattle.json_value.specs.Edits.{steps_of}
use Rattle.std.proofs.Common.{◌≡◌, refl}
use Rattle.json_value.specs.Touched.{ReplacedBy}
use Rattle.json_value.proofs.AppliedTrees.{anyway}
use Rattle.json_value.proofs.EditedValues.{along_as}
use Rattle.json_value.proofs.places.put.Goals as goal

pub returns-clause-children : goal.returns-clause-children
returns-clause-children g c =
    along_as (steps_of c.args.path.now) (ReplacedBy c.in_ok-place.place.now c.args.new) (λ before after. after ≡ c.args.new) (λ before after h. h.1) (g.V.Places.held c.args.target.now) _
    ((rw c.in_ok-place.was at (c.place_mut.follows.holds c.args.new)) refl).1

pub returns-clause-ok : goal.returns-clause-ok
returns-clause-ok g c = ((rw c.in_ok-place.was at (c.place_mut.follows.holds c.args.new)) refl).0

pub returns-in_err-place-clause-kept : goal.returns-in_err-place-clause-kept
returns-in_err-place-clause-kept g c = anyway c.from_residual.result (rw c.in_err-place.was at c.place_mut.follows.holds-at-none).0

pub returns-in_err-place-clause-kept_along : goal.returns-in_err-place-clause-kept_along
returns-in_err-place-clause-kept_along g c = anyway c.from_residual.result (rw c.in_err-place.was at c.place_mut.follows.holds-at-none).1
