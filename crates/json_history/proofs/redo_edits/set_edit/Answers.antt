use Rattle.std.proofs.Common.{ap, ◌∙◌}
use Rattle.json_value.specs.TargetParts.{target_along}
use Rattle.json_value.specs.ViewTargets.{view_target}
use Rattle.json_history.proofs.redo_edits.set_edit.Goals as goal

pub returns-clause-shares : goal.returns-clause-shares
returns-clause-shares c root there =
    record {
      target = view_target c.args.target;
      there = ap (λ q. target_along q root) c.in_ok-path.ensures.path ∙ there;
      shared = (c.in_ok-value.ensures.position, c.in_ok-value.ensures.places);
    }
