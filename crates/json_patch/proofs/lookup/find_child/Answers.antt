use Rattle.std.proofs.Common.{◌≡◌, Some, ap, ◌∙◌, sym}
use Rattle.std.proofs.lemmas.Result.{IfOk-weaker}
use Rattle.std.specs.Prelude.{ok_or, option_map}
use Rattle.json_model.specs.Edit.{not_found}
use Rattle.json_value.specs.Seen.{seen, members_seen}
use Rattle.json_value.specs.TargetParts.{members_targets}
use Rattle.json_value.specs.ViewTargets.{view_target}
use Rattle.json_patch.specs.PointerTargets.{target_at_token}
use Rattle.json_patch.proofs.Lookups.{at_object}
use Rattle.json_patch.proofs.PointerTargets.{at_object_target}
use Rattle.json_patch.proofs.lookup.find_child.Goals as goal

pub returns-in-Some-as_object-clause-tree : goal.returns-in-Some-as_object-clause-tree
returns-in-Some-as_object-clause-tree c =
    c.or_not_found.ensures.tree ∙ ap (λ o. ok_or o not_found) c.get.ensures.tree ∙ sym (at_object c.args.token.now (seen c.args.here) (members_seen c.in-Some-as_object.object) c.in-Some-as_object.ensures.trees)

pub returns-in-Some-as_object-clause-target : goal.returns-in-Some-as_object-clause-target
returns-in-Some-as_object-clause-target c =
    IfOk-weaker c.or_not_found.result (λ v. option_map view_target c.get.result ≡ Some (view_target v)) (λ v. target_at_token c.args.token.now (seen c.args.here) (view_target c.args.here) ≡ Some (view_target v))
    (λ v h. at_object_target c.args.token.now (seen c.args.here) (members_seen c.in-Some-as_object.object) (view_target c.args.here) (members_targets c.in-Some-as_object.object) (view_target v) c.in-Some-as_object.ensures.trees c.in-Some-as_object.ensures.targets (sym c.get.ensures.target ∙ h))
    c.or_not_found.ensures.target

pub returns-in-Some-clause-target : goal.returns-in-Some-clause-target
returns-in-Some-clause-target c = c.find_element.ensures.target (seen c.args.here) (view_target c.args.here) c.in-Some.ensures.trees c.in-Some.ensures.targets
