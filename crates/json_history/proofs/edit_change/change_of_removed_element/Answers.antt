use Rattle.std.proofs.Common.{[], ◌∷◌, ◌++◌, sym, ap, ◌∙◌}
use Rattle.json_model.specs.Edit.{index_step}
use Rattle.json_value.specs.Edits.{path_steps}
use Rattle.json_value.specs.TargetParts.{target_along}
use Rattle.json_value.specs.ViewTargets.{view_target}
use Rattle.json_history.proofs.SharedTargets.{target_one_more}
use Rattle.json_history.proofs.edit_change.change_of_removed_element.Goals as goal

pub returns-in_ok-path-in-Some-clause-shares : goal.returns-in_ok-path-in-Some-clause-shares
returns-in_ok-path-in-Some-clause-shares c root there =
    let p = path_steps c.args.path.now in
    let x = index_step c.args.index in
    let old = view_target c.in-Some.old in
    record {
      target = old;
      there = ap (λ q. target_along (q ++ x ∷ []) root) c.in_ok-path-in-Some.ensures.path ∙ target_one_more p x root (view_target c.args.target) old there (sym c.in-Some.ensures.target);
      shared = (c.in_ok-old-in-Some.ensures.position, c.in_ok-old-in-Some.ensures.places);
    }
