use Rattle.std.proofs.Common.{sym, ap, ◌∙◌}
use Rattle.json_value.specs.Seen.{seen, first_of}
use Rattle.json_value.specs.ViewTargets.{view_target}
use Rattle.json_value.proofs.KeyLookups.{first_is, first_not}
use Rattle.json_value.proofs.object_view.ObjectView.get_key_value.Goals as goal

pub returns-then-eq-clause-tree : goal.returns-then-eq-clause-tree
returns-then-eq-clause-tree c =
    let k = c.args.key.now in
    sym (c.loop-found.invariant.2 ∙ ap (first_of k) c.in-Some.ensures.steps.0 ∙ first_is k c.in-Some.found.now (seen c.in-Some.value) _ (sym c.eq.ensures ∙ c.if-eq.true))

pub returns-then-eq-clause-target : goal.returns-then-eq-clause-target
returns-then-eq-clause-target c =
    let k = c.args.key.now in
    sym (c.loop-found.invariant.3 ∙ ap (first_of k) c.in-Some.ensures.steps.1 ∙ first_is k c.in-Some.found.now (view_target c.in-Some.value) _ (sym c.eq.ensures ∙ c.if-eq.true))

pub loop-found-preserved : goal.loop-found-preserved
loop-found-preserved c =
    let k = c.args.key.now in let h = c.loop-found.invariant in let other = sym c.eq.ensures ∙ c.if-eq.false in (
      tt,
      tt,
      h.2 ∙ ap (first_of k) c.in-Some.ensures.steps.0 ∙ first_not k c.in-Some.found.now (seen c.in-Some.value) _ other,
      h.3 ∙ ap (first_of k) c.in-Some.ensures.steps.1 ∙ first_not k c.in-Some.found.now (view_target c.in-Some.value) _ other,
    )

pub returns-clause-tree : goal.returns-clause-tree
returns-clause-tree c = sym (c.loop-found.invariant.2 ∙ ap (first_of c.args.key.now) c.in-None.ensures.steps.0.0)

pub returns-clause-target : goal.returns-clause-target
returns-clause-target c = sym (c.loop-found.invariant.3 ∙ ap (first_of c.args.key.now) c.in-None.ensures.steps.1.0)
