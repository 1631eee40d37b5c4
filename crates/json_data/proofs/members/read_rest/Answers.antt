use Rattle.std.proofs.Common.{refl}
use Rattle.json_grammar.specs.Tree.{pairs, no_pairs, pair_and}
use Rattle.json_data.proofs.Exits.{missed}
use Rattle.json_data.proofs.Objects.{members-more, members-stop}
use Rattle.json_data.proofs.Pairs.{join_pairs, begun_pairs, ended_pairs, one_key, one_member, stop_member, in_object_again}
use Rattle.json_tokens.proofs.KindTests.{known}
use Rattle.json_data.proofs.members.read_rest.Goals as goal

pub each-init : goal.each-init
each-init g c = (no_pairs, λ a h. begun_pairs h, c.requires, refl)

pub each-preserved : goal.each-preserved
each-preserved g c =
    let i = c.each.invariant in
    let k = known _ c.in_ok-key.ensures.name c.in-Some.is in
    let s = g.M.Members.step in
    let r = c.in-Ok.ensures.ok k.name k.said in (
      join_pairs i.0 (pair_and k.name r.tree no_pairs),
      λ a h. one_member (one_key (i.1 a h) k.takes) r.takes,
      in_object_again _ _ _ k.name i.2 k.takes.moves.expected r.takes.moves.expected,
      members-more s i.0 k.name r.tree _ (g.M.Members.so_far c.each.members) _ i.3 r.answer,
    )

pub returns-in-Err-clause-err : goal.returns-in-Err-clause-err
returns-in-Err-clause-err g c = λ a h.
    let i = c.each.invariant in
    let k = known _ c.in_ok-key.ensures.name c.in-Some.is in
    let w = one_key (i.1 a h) k.takes in
    let s = g.M.Members.step in
    missed (stop_member w (c.in-Err.ensures.err k.name k.said) c.leave_after.ensures.left c.leave_after.ensures.as_was
    (λ t qs h. members-stop s i.0 qs k.name t _ (g.M.Members.so_far c.each.members) c.in-Err.e.code i.3 h))

pub returns-in-None-clause-ok : goal.returns-in-None-clause-ok
returns-in-None-clause-ok g c = λ a h.
    let i = c.each.invariant in
    record { tree = pairs i.0; takes = ended_pairs (i.1 a h) (c.in_ok-key.ensures.end c.in-None.is); answer = i.3; some = λ e. cc }
