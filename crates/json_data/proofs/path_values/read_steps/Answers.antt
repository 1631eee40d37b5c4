use Rattle.std.proofs.Common.{◌∙◌, ap}
use Rattle.std.proofs.lemmas.Result.{err_from_is_err_and}
use Rattle.json_value.specs.EditTrees.{each_in, step_in}
use Rattle.json_value.specs.Left.{elements_left}
use Rattle.json_value.specs.Seen.{seen, elements_seen}
use Rattle.json_data.proofs.Spelling.{unread, taken_none, taken_all, taken_next, taken_stops}
use Rattle.json_data.proofs.path_values.read_steps.Goals as goal

pub steps-init : goal.steps-init
steps-init c = (tt, tt, taken_none step_in (elements_seen c.args.array) _ _ (ap elements_left c.into_iter-element-iterator.ensures.into_iter_gives ∙ c.iter-element-items.ensures.trees) c.new-path.ensures)

pub returns-in_err-step-clause-err : goal.returns-in_err-step-clause-err
returns-in_err-step-clause-err c =
    let p = err_from_is_err_and c.from_residual.result c.from_residual.ensures.1 in
    rw (p.1, p.2)
    (unread (step_in (seen c.in-Some.element)) (each_in step_in (elements_seen c.args.array)) _ (λ n. taken_stops _ _ _ _ _ _ c.steps.invariant.2 c.in-Some.ensures.steps.0 n)
    c.in_err-step.ensures.err)

pub steps-preserved : goal.steps-preserved
steps-preserved c = (tt, tt, taken_next _ _ _ _ _ _ (seen c.in-Some.element) _ c.steps.invariant.2 c.in-Some.ensures.steps.0 c.in_ok-step.ensures.ok c.in_ok-push.ensures.ok)

pub returns-clause-ok : goal.returns-clause-ok
returns-clause-ok c = taken_all _ _ _ _ c.steps.invariant.2 c.in-None.ensures.steps.0.0
