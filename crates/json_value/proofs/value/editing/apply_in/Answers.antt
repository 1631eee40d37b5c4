use Rattle.std.proofs.Common.{◌≡◌, refl, ◌∙◌}
use Rattle.std.proofs.lemmas.Result.{IfErr-weaker, on_ok_weaker, on_err_weaker}
use Rattle.json_model.specs.Edit.{edited_once}
use Rattle.json_value.specs.Denotes.{tree_of}
use Rattle.json_value.specs.Edits.{steps_of, edit_of, change_of, RefusesChange}
use Rattle.json_value.proofs.AppliedTrees.{anyway}
use Rattle.json_value.proofs.EditsAlong.{edit_made, edit_unmade, edit_refused, edit_touches, edit_keeps, unlent_keeps}
use Rattle.json_value.proofs.value.editing.apply_in.Goals as goal

pub returns-clause-ok : goal.returns-clause-ok
returns-clause-ok g c =
    let here = c.in_ok-place.ensures.leads in
    on_ok_weaker c.change.result
    (edit_made c.args.edit.now (steps_of c.steps.result.now) (c.steps.ensures ∙ c.path.ensures.steps) c.in_ok-place.place.now c.change.new.self (g.V.Places.held c.args.target.now) _ here
    ((rw c.in_ok-place.was at (c.place_mut.follows.holds c.change.new.self)) refl))
    c.change.ensures.ok

pub returns-clause-kept : goal.returns-clause-kept
returns-clause-kept g c =
    on_err_weaker c.change.result
    (edit_unmade c.args.edit.now (steps_of c.steps.result.now) (c.steps.ensures ∙ c.path.ensures.steps) c.in_ok-place.place.now c.change.new.self (g.V.Places.held c.args.target.now) _ c.in_ok-place.ensures.leads
    ((rw c.in_ok-place.was at (c.place_mut.follows.holds c.change.new.self)) refl))
    c.change.ensures.kept

pub returns-clause-refused : goal.returns-clause-refused
returns-clause-refused g c =
    let edit = c.args.edit.now in
    let t = tree_of (g.V.Places.held c.args.target.now) in
    IfErr-weaker c.change.result (λ e. RefusesChange (change_of edit (tree_of c.in_ok-place.place.now)) e.code e.place) (λ e. RefusesChange (edited_once (edit_of edit) t) e.code e.place)
    (λ e. edit_refused edit (steps_of c.steps.result.now) (c.steps.ensures ∙ c.path.ensures.steps) c.in_ok-place.place.now c.change.new.self (g.V.Places.held c.args.target.now) _ c.in_ok-place.ensures.leads
    ((rw c.in_ok-place.was at (c.place_mut.follows.holds c.change.new.self)) refl) e.code e.place)
    c.change.ensures.refused

pub returns-clause-children : goal.returns-clause-children
returns-clause-children g c =
    on_ok_weaker c.change.result
    (edit_touches c.args.edit.now (steps_of c.steps.result.now) (c.steps.ensures ∙ c.path.ensures.steps) c.in_ok-place.place.now c.change.new.self (g.V.Places.held c.args.target.now) _ c.in_ok-place.ensures.leads
    ((rw c.in_ok-place.was at (c.place_mut.follows.holds c.change.new.self)) refl))
    c.change.ensures.children

pub returns-clause-kept_along : goal.returns-clause-kept_along
returns-clause-kept_along g c =
    on_err_weaker c.change.result
    (edit_keeps c.args.edit.now (steps_of c.steps.result.now) (c.steps.ensures ∙ c.path.ensures.steps) c.in_ok-place.place.now c.change.new.self (g.V.Places.held c.args.target.now) _ c.in_ok-place.ensures.leads
    ((rw c.in_ok-place.was at (c.place_mut.follows.holds c.change.new.self)) refl))
    c.change.ensures.kept_along

pub returns-in_err-place-clause-kept : goal.returns-in_err-place-clause-kept
returns-in_err-place-clause-kept g c = anyway c.from_residual.result (rw c.in_err-place.was at c.place_mut.follows.holds-at-none).0

pub returns-in_err-place-clause-kept_along : goal.returns-in_err-place-clause-kept_along
returns-in_err-place-clause-kept_along g c =
    anyway c.from_residual.result
    (unlent_keeps c.args.edit.now (steps_of c.steps.result.now) (c.steps.ensures ∙ c.path.ensures.steps) (g.V.Places.held c.args.target.now) _
    (rw c.in_err-place.was at c.place_mut.follows.holds-at-none).1)
