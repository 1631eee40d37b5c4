use Rattle.std.proofs.Common.{Some, None, sym, ap, ◌∙◌}
use Rattle.json_model.specs.Edit.{push_at}
use Rattle.json_value.specs.Denotes.{tree_of}
use Rattle.json_value.specs.Edits.{path_steps}
use Rattle.json_value.specs.Seen.{seen, elements_seen}
use Rattle.json_value.specs.TargetParts.{elements_targets, target_along}
use Rattle.json_value.specs.ViewTargets.{view_target}
use Rattle.json_history.proofs.RepeatedEdits.{last_push_edit}
use Rattle.json_history.proofs.SharedTargets.{last_element_target}
use Rattle.json_history.proofs.redo_edits.last_push_edit.Goals as goal

pub returns-in_ok-path-in-Some-clause-edit : goal.returns-in_ok-path-in-Some-clause-edit
returns-in_ok-path-in-Some-clause-edit c =
    let p = path_steps c.args.path.now in
    ap (λ q. Some (push_at q (tree_of c.in_ok-value-in-Some.value))) c.in_ok-path-in-Some.ensures.path
    ∙ ap (λ u. Some (push_at p u)) c.in_ok-value-in-Some.ensures.tree
    ∙ last_push_edit p (elements_seen c.args.array) c.len-len.result (Some (seen c.in-Some.value)) c.len-len.ensures c.in-Some.ensures.tree

pub returns-in-None-clause-edit : goal.returns-in-None-clause-edit
returns-in-None-clause-edit c = last_push_edit (path_steps c.args.path.now) (elements_seen c.args.array) c.len-len.result None c.len-len.ensures c.in-None.ensures.tree

pub returns-in_ok-path-in-Some-clause-shares : goal.returns-in_ok-path-in-Some-clause-shares
returns-in_ok-path-in-Some-clause-shares c target array root there =
    let element = view_target c.in-Some.value in
    record {
      target = target;
      elements = elements_targets c.args.array;
      element = element;
      there = ap (λ q. target_along q root) c.in_ok-path-in-Some.ensures.path ∙ there;
      array = array;
      last = last_element_target c.args.array c.len-len.result element c.len-len.ensures (sym c.in-Some.ensures.target);
      shared = (c.in_ok-value-in-Some.ensures.position, c.in_ok-value-in-Some.ensures.places);
    }
