use Rattle.std.proofs.Common.{◌≡◌, ◌∙◌, Option, Some, None, sym, ap, subst, option_map}
use Rattle.json_grammar.specs.Tree.{begin as begin_token}
use Rattle.json_tokens.specs.declared.ahead.Ahead.{Ahead}
use Rattle.json_tokens.specs.TokensStates.{TakesOne}
use Rattle.json_tokens.specs.Text.{TextTokensState, TakenBefore, text_taken, text_tokens_state}
use Rattle.json_tokens.proofs.KindTests.{is_kind-ne}
use Rattle.json_tokens.proofs.Waiting.{waits, begin_waiting}
use Rattle.json_tokens.proofs.text_tokens.TextTokens.waiting_begin.Goals as goal

pub returns-clause-begun : goal.returns-clause-begun
returns-clause-begun c = λ _.
    let s = c.self.inside in
    let i = c.self.invariant.given in
    let e = c.in-Some.ahead.event in
    let w : waits s.parser s.failed e ≡ c.args.self.now = ap (λ (o : Option Ahead). record { parser = s.parser; ahead = option_map (λ (h : Ahead). h.event) o; failed = s.failed }) (sym c.in-Some.is) ∙ c.self.view_is in
    let g : TakenBefore (Some e) s.parser i.0 = subst (λ (o : Option Ahead). TakenBefore (option_map (λ (h : Ahead). h.event) o) s.parser i.0) c.in-Some.is i.1 in
    let k = sym c.in-Some.ahead.peeked ∙ is_kind-ne _ _ _ c.ne.ensures c.if-ne.false ∙ c.begin_kind.ensures in
    subst (λ (a : TextTokensState). TakesOne text_taken text_tokens_state a (record { parser = s.parser; ahead = None; failed = s.failed }) (begin_token c.args.kind)) w (begin_waiting s.parser s.failed e c.args.kind (i.0, g) k)
