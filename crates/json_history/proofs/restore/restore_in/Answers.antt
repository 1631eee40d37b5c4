use Rattle.std.proofs.Common.{refl, ◌∙◌}
use Rattle.std.proofs.lemmas.Result.{on_ok_weaker, on_err_weaker}
use Rattle.json_value.specs.Denotes.{tree_of}
use Rattle.json_value.specs.Edits.{steps_of}
use Rattle.json_history.specs.Target.{undone_in}
use Rattle.json_history.proofs.Restoring.{undone_in_is_ok, target_exists, undone_by_place, unchanged_by_place}
use Rattle.json_history.proofs.RestoredValues.{restored_along, restore_kept_along, unlent_kept_along}
use Rattle.json_history.proofs.restore.restore_in.Goals as goal

pub restore_target-requires : goal.restore_target-requires
restore_target-requires g c =
    undone_in_is_ok c.args.change.now (steps_of c.steps.result.now) (c.steps.ensures ∙ c.path.ensures) (tree_of (g.V.Places.held c.args.target.now)) (tree_of c.in-Ok.place.now) c.in-Ok.ensures.leads c.requires

pub returns-in-Ok-clause-ok : goal.returns-in-Ok-clause-ok
returns-in-Ok-clause-ok g c =
    on_ok_weaker c.restore_target.result
    (undone_by_place c.args.change.now (steps_of c.steps.result.now) (c.steps.ensures ∙ c.path.ensures) (tree_of c.in-Ok.place.now) (tree_of c.restore_target.new.place) (tree_of (g.V.Places.held c.args.target.now)) _ c.in-Ok.ensures.leads
    ((rw c.in-Ok.is at (c.place_mut.follows.holds c.restore_target.new.place)) refl).0)
    c.restore_target.ensures.ok

pub returns-in-Ok-clause-kept : goal.returns-in-Ok-clause-kept
returns-in-Ok-clause-kept g c =
    on_err_weaker c.restore_target.result
    (unchanged_by_place c.args.change.now (steps_of c.steps.result.now) (c.steps.ensures ∙ c.path.ensures) (tree_of c.in-Ok.place.now) (tree_of c.restore_target.new.place) (tree_of (g.V.Places.held c.args.target.now)) _ c.in-Ok.ensures.leads
    ((rw c.in-Ok.is at (c.place_mut.follows.holds c.restore_target.new.place)) refl).0)
    c.restore_target.ensures.kept

pub returns-in-Err-clause-only : goal.returns-in-Err-clause-only
returns-in-Err-clause-only g c =
    target_exists c.args.change.now (steps_of c.steps.result.now) (c.steps.ensures ∙ c.path.ensures) (tree_of (g.V.Places.held c.args.target.now)) c.in-Err.error c.requires
    (c.in-Err.ensures.leads (undone_in c.args.change.now))

pub returns-in-Ok-clause-children : goal.returns-in-Ok-clause-children
returns-in-Ok-clause-children g c =
    on_ok_weaker c.restore_target.result
    (restored_along c.args.change.now (steps_of c.steps.result.now) (c.steps.ensures ∙ c.path.ensures) (g.V.Places.held c.args.target.now) _ c.in-Ok.place.now c.restore_target.new.place
    ((rw c.in-Ok.is at (c.place_mut.follows.holds c.restore_target.new.place)) refl))
    c.restore_target.ensures.touched

pub returns-in-Ok-clause-kept_along : goal.returns-in-Ok-clause-kept_along
returns-in-Ok-clause-kept_along g c =
    on_err_weaker c.restore_target.result
    (restore_kept_along c.args.change.now (steps_of c.steps.result.now) (c.steps.ensures ∙ c.path.ensures) (g.V.Places.held c.args.target.now) _ c.in-Ok.place.now c.restore_target.new.place
    ((rw c.in-Ok.is at (c.place_mut.follows.holds c.restore_target.new.place)) refl))
    c.restore_target.ensures.untouched

pub returns-in-Err-clause-kept_along : goal.returns-in-Err-clause-kept_along
returns-in-Err-clause-kept_along g c =
    unlent_kept_along c.args.change.now (steps_of c.steps.result.now) (c.steps.ensures ∙ c.path.ensures) (g.V.Places.held c.args.target.now) _
    (rw c.in-Err.is at c.place_mut.follows.holds-at-none).1
