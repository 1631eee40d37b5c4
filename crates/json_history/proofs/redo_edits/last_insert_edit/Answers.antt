use Rattle.std.proofs.Common.{ℕ, List, Some, None, sym, ap, ◌∙◌}
use Rattle.json_model.specs.Edit.{insert_at}
use Rattle.json_value.specs.Denotes.{tree_of, text_bytes}
use Rattle.json_value.specs.Edits.{path_steps}
use Rattle.json_value.specs.Seen.{seen, members_seen}
use Rattle.json_value.specs.TargetParts.{members_targets, target_along}
use Rattle.json_value.specs.ViewTargets.{ViewTarget, view_target}
use Rattle.json_history.proofs.RepeatedEdits.{last_insert_edit}
use Rattle.json_history.proofs.SharedTargets.{last_member_target}
use Rattle.json_history.proofs.redo_edits.last_insert_edit.Goals as goal

pub returns-in_ok-path-in-Some-clause-edit : goal.returns-in_ok-path-in-Some-clause-edit
returns-in_ok-path-in-Some-clause-edit c =
    let p = path_steps c.args.path.now in
    let k = text_bytes c.in_ok-key-in-Some.key in
    let t = tree_of c.in_ok-value-in-Some.value in
    ap (λ q. Some (insert_at q k t)) c.in_ok-path-in-Some.ensures.path
    ∙ ap (λ n. Some (insert_at p n t)) c.in_ok-key-in-Some.ensures.text
    ∙ ap (λ u. Some (insert_at p c.in-Some.key.now u)) c.in_ok-value-in-Some.ensures.tree
    ∙ last_insert_edit p (members_seen c.args.object) c.len-len.result (Some (c.in-Some.key.now, seen c.in-Some.value)) c.len-len.ensures c.in-Some.ensures.tree

pub returns-in-None-clause-edit : goal.returns-in-None-clause-edit
returns-in-None-clause-edit c = last_insert_edit (path_steps c.args.path.now) (members_seen c.args.object) c.len-len.result None c.len-len.ensures c.in-None.ensures.tree

pub returns-in_ok-path-in-Some-clause-shares : goal.returns-in_ok-path-in-Some-clause-shares
returns-in_ok-path-in-Some-clause-shares c target object root there =
    let member : List ℕ × ViewTarget = (c.in-Some.key.now, view_target c.in-Some.value) in
    record {
      target = target;
      members = members_targets c.args.object;
      member = member;
      there = ap (λ q. target_along q root) c.in_ok-path-in-Some.ensures.path ∙ there;
      object = object;
      last = last_member_target c.args.object c.len-len.result member c.len-len.ensures (sym c.in-Some.ensures.target);
      shared = (c.in_ok-value-in-Some.ensures.position, c.in_ok-value-in-Some.ensures.places);
    }
