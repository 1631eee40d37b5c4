use Rattle.std.proofs.Common.{sym, ap, ◌∙◌}
use Rattle.json_doc.specs.Left.{pairs_left}
use Rattle.json_doc.specs.Seen.{view_tree}
use Rattle.json_doc.specs.declared.pairs.DocPairs.{DocPairs}
use Rattle.json_value.specs.Seen.{first_of}
use Rattle.json_value.proofs.KeyLookups.{first_is, first_not}
use Rattle.json_lines.proofs.PathSteps.{member_value}
use Rattle.json_lines.proofs.paths.find_packed_member.Goals as goal

pub loop-name-init : goal.loop-name-init
loop-name-init c = (tt, tt, ap (λ (s : DocPairs). first_of c.args.key.now (pairs_left s)) (sym c.into_iter-name-iterator.ensures.into_iter_gives))

pub returns-then-eq : goal.returns-then-eq
returns-then-eq c =
    let k = c.args.key.now in
    ap member_value (sym (c.loop-name.invariant.2 ∙ ap (first_of k) c.in-Some.ensures.steps.0 ∙ first_is k c.in-Some.name.now (view_tree c.in-Some.value) _ (sym c.eq.ensures ∙ c.if-eq.true)))

pub loop-name-preserved : goal.loop-name-preserved
loop-name-preserved c =
    let k = c.args.key.now in let h = c.loop-name.invariant in let other = sym c.eq.ensures ∙ c.if-eq.false in (
      tt,
      tt,
      h.2 ∙ ap (first_of k) c.in-Some.ensures.steps.0 ∙ first_not k c.in-Some.name.now (view_tree c.in-Some.value) _ other,
    )

pub returns : goal.returns
returns c = ap member_value (sym (c.loop-name.invariant.2 ∙ ap (first_of c.args.key.now) c.in-None.ensures.steps.0.0))
