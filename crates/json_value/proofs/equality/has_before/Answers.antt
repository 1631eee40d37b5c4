use Rattle.std.proofs.Common.{bytes_eq, option_map, sym, ap, ◌∙◌}
use Rattle.std.specs.List.{list_any}
use Rattle.json_value.specs.SameMembers.{keys_in}
use Rattle.json_value.specs.Left.{members_left}
use Rattle.json_value.specs.Seen.{member_seen}
use Rattle.json_value.specs.Seen.{members_seen}
use Rattle.json_value.proofs.Iterations.{next_got}
use Rattle.json_value.proofs.SameViews.{key_of_pair, no_key_at, any_found, any_more, take_more}
use Rattle.json_value.proofs.equality.has_before.Goals.{in-Some+else-eq, in_default}
use Rattle.json_value.proofs.equality.has_before.Goals as goal

pub returns-then-eq : goal.returns-then-eq
returns-then-eq c =
    let ps = members_seen c.args.object in let i = c.loop-step.step in
    let got = next_got member_seen members_left c.loop-step.members c.next.new.self c.next.result ps i c.next.ensures.steps.0 c.loop-step.invariant.0 in
    let e = sym got.0 ∙ ap (option_map member_seen) c.in-Some.is in
    sym (any_found (λ k. bytes_eq k c.args.key.now) (keys_in ps) i c.args.end _ (key_of_pair ps i _ _ e) c.loop-step-test.true (sym c.eq.ensures ∙ c.if-eq.true))

pub loop-step-preserved : goal.loop-step-preserved
loop-step-preserved c =
    let ps = members_seen c.args.object in let i = c.loop-step.step in
    let got = next_got member_seen members_left c.loop-step.members c.next.new.self c.next.result ps i c.next.ensures.steps.0 c.loop-step.invariant.0 in (
      got.1,
      elim c.match-next.branch [
        | in-Some+else-eq w ↦ any_more (λ k. bytes_eq k c.args.key.now) (keys_in ps) i _ (key_of_pair ps i _ _ (sym got.0 ∙ ap (option_map member_seen) w.in-Some.is)) c.loop-step.invariant.1 (sym w.eq.ensures ∙ w.if-eq.false)
        | in_default w ↦ ap (list_any (λ k. bytes_eq k c.args.key.now)) (take_more (keys_in ps) i (no_key_at ps i (sym got.0 ∙ ap (option_map member_seen) w.in_default.is))) ∙ c.loop-step.invariant.1
      ],
    )
