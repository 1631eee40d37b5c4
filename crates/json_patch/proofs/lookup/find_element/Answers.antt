use Rattle.std.proofs.Common.{◌≡◌, Some, ap, ◌∙◌, sym, arith}
use Rattle.std.proofs.lemmas.Result.{IfOk-weaker}
use Rattle.std.specs.Prelude.{ok_or, option_map}
use Rattle.json_model.specs.Edit.{not_found}
use Rattle.json_value.specs.Seen.{elements_seen}
use Rattle.json_value.specs.TargetParts.{elements_targets}
use Rattle.json_value.specs.ViewTargets.{view_target}
use Rattle.json_patch.specs.PointerTargets.{target_at_token}
use Rattle.json_patch.proofs.Lookups.{at_array, at_array_none}
use Rattle.json_patch.proofs.PointerTargets.{at_array_target}
use Rattle.json_patch.proofs.lookup.find_element.Goals as goal

pub returns-in-Some-clause-tree : goal.returns-in-Some-clause-tree
returns-in-Some-clause-tree c t e =
    c.or_not_found.ensures.tree ∙ ap (λ o. ok_or o not_found) c.get.ensures.tree ∙ sym (at_array c.args.token.now t (elements_seen c.args.array) c.in-Some.i e c.in-Some.ensures.0)

pub returns-in-Some-clause-target : goal.returns-in-Some-clause-target
returns-in-Some-clause-target c t s e f =
    IfOk-weaker c.or_not_found.result (λ v. option_map view_target c.get.result ≡ Some (view_target v)) (λ v. target_at_token c.args.token.now t s ≡ Some (view_target v))
    (λ v h. at_array_target c.args.token.now t (elements_seen c.args.array) s (elements_targets c.args.array) c.in-Some.i (view_target v) e f c.in-Some.ensures.0 (sym c.get.ensures.target ∙ h))
    c.or_not_found.ensures.target

pub returns-in-None-clause-tree : goal.returns-in-None-clause-tree
returns-in-None-clause-tree c t e = sym (at_array_none c.args.token.now t (elements_seen c.args.array) e (λ i f. omega (arith, c.in-None.ensures i f, c.len.ensures)))
