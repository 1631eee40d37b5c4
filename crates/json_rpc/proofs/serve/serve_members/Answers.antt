use Rattle.std.proofs.Common.{arith}
use Rattle.std.proofs.lemmas.Grind.{common_steps}
use Rattle.json_value.specs.Seen.{seen}
use Rattle.json_rpc.proofs.Batches.{underway_next, leaves_next}
use Rattle.json_rpc.proofs.serve.serve_members.Goals as goal

pub members-preserved-in-Continue-branch-3 : goal.members-preserved-in-Continue-branch-3
members-preserved-in-Continue-branch-3 c =
    let at = c.in-Some.ensures.steps.0 in (
      tt,
      tt,
      underway_next _ _ _ _ (seen c.in-Some.member) _ _ _ _ _ c.members.invariant.2 at c.in_ok-reply.ensures.ok (grind (arith, common_steps)),
      leaves_next _ _ _ (seen c.in-Some.member) _ _ _ c.members.invariant.3 at c.in_ok-reply.ensures.reads,
    )

pub members-preserved : goal.members-preserved
members-preserved c =
    let at = c.in-Some.ensures.steps.0 in (
      tt,
      tt,
      underway_next _ _ _ _ (seen c.in-Some.member) _ _ _ _ _ c.members.invariant.2 at c.in_ok-reply.ensures.ok (grind (arith, common_steps)),
      leaves_next _ _ _ (seen c.in-Some.member) _ _ _ c.members.invariant.3 at c.in_ok-reply.ensures.reads,
    )

pub returns-in_err-push-clause-reads : goal.returns-in_err-push-clause-reads
returns-in_err-push-clause-reads c all =
    ((leaves_next _ _ _ (seen c.in-Some.member) _ _ _ c.members.invariant.3 c.in-Some.ensures.steps.0 c.in_ok-reply.ensures.reads).so all).0
