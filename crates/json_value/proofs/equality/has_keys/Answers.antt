use Rattle.std.proofs.Common.{List, ℕ, is_some, not, option_map, sym, ap, ◌∙◌}
use Rattle.std.specs.List.{list_all}
use Rattle.json_grammar.specs.Tree.{Tree}
use Rattle.json_value.specs.SameMembers.{keys_in}
use Rattle.json_value.specs.Left.{members_left}
use Rattle.json_value.specs.Seen.{member_seen}
use Rattle.json_value.specs.Seen.{seen, members_seen, first_of}
use Rattle.json_value.proofs.Iterations.{next_got}
use Rattle.json_value.proofs.SameViews.{key_of_pair, no_key_at, all_fail, all_more, take_more, found_together}
use Rattle.json_value.proofs.equality.has_keys.Goals.{in-Some+else-is_none, in_default}
use Rattle.json_value.proofs.equality.has_keys.Goals as goal

pub returns-then-is_none : goal.returns-then-is_none
returns-then-is_none c =
    let ps = members_seen c.args.first in let qs = members_seen c.args.second in let i = c.loop-step.step in
    let got = next_got member_seen members_left c.loop-step.members c.next.new.self c.next.result qs i c.next.ensures.steps.0 c.loop-step.invariant.0 in
    let e = sym got.0 ∙ ap (option_map member_seen) c.in-Some.is in
    sym (all_fail (λ k. is_some (first_of k ps)) (keys_in qs) i _ (key_of_pair qs i _ _ e) (found_together seen (λ (p : List ℕ × Tree). p.1) c.get.result _ c.get.ensures.tree ∙ c.is_none.ensures ∙ ap not c.if-is_none.true))

pub loop-step-preserved : goal.loop-step-preserved
loop-step-preserved c =
    let ps = members_seen c.args.first in let qs = members_seen c.args.second in let i = c.loop-step.step in
    let got = next_got member_seen members_left c.loop-step.members c.next.new.self c.next.result qs i c.next.ensures.steps.0 c.loop-step.invariant.0 in (
      got.1,
      elim c.match-next.branch [
        | in-Some+else-is_none w ↦
            all_more (λ k. is_some (first_of k ps)) (keys_in qs) i _ (key_of_pair qs i _ _ (sym got.0 ∙ ap (option_map member_seen) w.in-Some.is)) c.loop-step.invariant.1 (found_together seen (λ (p : List ℕ × Tree). p.1) w.get.result _ w.get.ensures.tree ∙ w.is_none.ensures ∙ ap not w.if-is_none.false)
        | in_default w ↦ ap (list_all (λ k. is_some (first_of k ps))) (take_more (keys_in qs) i (no_key_at qs i (sym got.0 ∙ ap (option_map member_seen) w.in_default.is))) ∙ c.loop-step.invariant.1
      ],
    )
