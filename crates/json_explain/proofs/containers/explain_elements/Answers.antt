use Rattle.std.proofs.Common.{◌≡◌, ℕ, suc, Option, sym, subst, arith}
use Rattle.json_grammar.specs.Tree.{no_trees, tree_and}
use Rattle.json_grammar.specs.TokenStates.{TokenState}
use Rattle.json_tokens.specs.ExpectedTokens.{InArray}
use Rattle.json_data.proofs.Lists.{begun, closes, join, one_more, peeks_on, in_array_again}
use Rattle.json_tokens.proofs.KindTests.{is_kind}
use Rattle.json_explain.specs.Explaining.{ExplainsTree, refused_in}
use Rattle.json_explain.specs.declared.refusal.Refusal.{Refusal}
use Rattle.json_explain.proofs.Parts.{Passed, passed-none, passed-more}
use Rattle.json_explain.proofs.Taken.{array_left, array_ends}
use Rattle.json_explain.proofs.containers.explain_elements.Goals as goal

pub each-init : goal.each-init
each-init g c = (no_trees, λ a h. begun h, c.requires, passed-none _)

pub returns-in-Ok-skip_next-clause-ok : goal.returns-in-Ok-skip_next-clause-ok
returns-in-Ok-skip_next-clause-ok g c = λ a h.
    let i = c.each.invariant in
    let k = is_kind _ _ _ c.eq.ensures c.if-eq.true in
    array_ends i.3 (closes k (i.1 a h) c.in-Ok.ensures.ok c.in-Ok.ensures.none c.in-Ok-skip_next.ensures.ok.1)

pub returns-in-Some-clause-ok : goal.returns-in-Some-clause-ok
returns-in-Some-clause-ok g c = λ a h.
    let i = c.each.invariant in
    let w = peeks_on (i.1 a h) c.in-Ok.ensures.ok c.in-Ok.ensures.none in
    let e = subst (λ (o : Option Refusal). ExplainsTree g.T.Tokens.taken g.T.Tokens.state g.V.Explain.refused c.peek.new.self c.explain.new.tokens (refused_in o)) c.in-Some.is c.in-Ok-explain.ensures.ok in
    array_left _ _ w i.3 e c.leave_within.ensures.leaves c.leave_within.ensures.refused

pub each-preserved : goal.each-preserved
each-preserved g c =
    let i = c.each.invariant in
    let peek = c.in-Ok.ensures.ok in
    let e = subst (λ (o : Option Refusal). ExplainsTree g.T.Tokens.taken g.T.Tokens.state g.V.Explain.refused c.peek.new.self c.explain.new.tokens (refused_in o)) c.in_default.is c.in-Ok-explain.ensures.ok in
    let n : suc c.each.index ≡ c.in-Some-checked_add.next = omega arith in (
      join i.0 (tree_and e.tree no_trees),
      λ a h. one_more (peeks_on (i.1 a h) peek c.in-Ok.ensures.none) e.takes,
      in_array_again _ _ (subst (λ (p : TokenState). InArray p) (sym peek.expected) i.2) e.takes.moves.expected,
      subst (λ (k : ℕ). Passed g.V.Explain.refused (join i.0 (tree_and e.tree no_trees)) k) n (passed-more g.V.Explain.refused i.0 c.each.index e.tree i.3 e.answer),
    )
