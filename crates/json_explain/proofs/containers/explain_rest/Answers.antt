use Rattle.std.proofs.Common.{◌≡◌, ◌∙◌, ℕ, suc, List, Option, Some, sym, subst, arith}
use Rattle.std.proofs.lemmas.Result.{IfOk-weaker}
use Rattle.json_grammar.specs.Tree.{no_pairs, pair_and}
use Rattle.json_data.proofs.Pairs.{InMember, begun_pairs, join_pairs, one_key, one_member, in_object_again}
use Rattle.json_tokens.proofs.KindTests.{known}
use Rattle.json_explain.specs.Explaining.{ExplainsTree, refused_in}
use Rattle.json_explain.specs.declared.refusal.Refusal.{Refusal}
use Rattle.json_explain.proofs.Parts.{PassedMembers, members-none, members-more}
use Rattle.json_explain.proofs.Taken.{object_left, object_ends, lacks_same}
use Rattle.json_explain.proofs.containers.explain_rest.Goals as goal

pub each-init : goal.each-init
each-init g c = (no_pairs, λ a h. begun_pairs h, c.requires, members-none _ _)

pub returns-in-None-clause-ok : goal.returns-in-None-clause-ok
returns-in-None-clause-ok g c = λ a h.
    let i = c.each.invariant in
    object_ends _ (i.1 a h) i.3 (c.in-Ok.ensures.end c.in-None.is)
    (IfOk-weaker c.lacking.result _ _ (λ o p. p ∙ lacks_same (λ s. s.now) c.missing.result _ c.missing.ensures) c.lacking.ensures.ok)

pub returns-in-Some-refused-clause-ok : goal.returns-in-Some-refused-clause-ok
returns-in-Some-refused-clause-ok g c = λ a h.
    let i = c.each.invariant in
    let k = known _ c.in-Ok.ensures.name c.in-Some.is in
    let n = c.in-Ok-copy.ensures.ok k.name k.said in
    let w = subst (λ (s : List ℕ). InMember g.T.Tokens.taken g.T.Tokens.state a c.read_next_name.new.tokens i.0 s) n (one_key (i.1 a h) k.takes) in
    let e = subst (λ (o : Option Refusal). ExplainsTree g.T.Tokens.taken g.T.Tokens.state (g.M.ExplainMembers.reading.member c.as_str.result.now) c.read_next_name.new.tokens c.member.new.tokens (refused_in o)) c.in-Some-refused.is c.in-Ok-member.ensures.ok in
    object_left _ _ w i.3 (subst (λ (s : List ℕ). ExplainsTree g.T.Tokens.taken g.T.Tokens.state (g.M.ExplainMembers.reading.member s) c.read_next_name.new.tokens c.member.new.tokens (refused_in (Some c.in-Some-refused.refused))) c.as_str.ensures.value e) c.leave_within.ensures.leaves c.leave_within.ensures.refused

pub each-preserved : goal.each-preserved
each-preserved g c =
    let i = c.each.invariant in
    let m = g.M.ExplainMembers.reading in
    let k = known _ c.in-Ok.ensures.name c.in-Some.is in
    let n : k.name ≡ c.as_str.result.now = c.in-Ok-copy.ensures.ok k.name k.said ∙ sym c.as_str.ensures.value in
    let e = subst (λ (o : Option Refusal). ExplainsTree g.T.Tokens.taken g.T.Tokens.state (m.member c.as_str.result.now) c.read_next_name.new.tokens c.member.new.tokens (refused_in o)) c.in_default.is c.in-Ok-member.ensures.ok in
    let start = g.M.ExplainMembers.seen c.args.members.now in
    let seen = g.M.ExplainMembers.seen c.member.new.self in
    let j : suc c.each.index ≡ c.in-Some-checked_add.next = omega arith in
    let ps = join_pairs i.0 (pair_and c.as_str.result.now e.tree no_pairs) in (
      ps,
      λ a h. one_member (subst (λ (s : List ℕ). InMember g.T.Tokens.taken g.T.Tokens.state a c.read_next_name.new.tokens i.0 s) n (one_key (i.1 a h) k.takes)) e.takes,
      in_object_again _ _ _ k.name i.2 k.takes.moves.expected e.takes.moves.expected,
      subst (λ (b : ℕ). PassedMembers m start ps b seen) j (members-more m start i.0 c.each.index _ seen c.as_str.result.now e.tree i.3 e.answer c.in-Ok-member.ensures.seen),
    )
