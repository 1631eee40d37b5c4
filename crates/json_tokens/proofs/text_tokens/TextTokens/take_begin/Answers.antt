use Rattle.std.proofs.Common.{◌∙◌, ap, rules}
use Rattle.json_grammar.specs.Tree.{begin as begin_token}
use Rattle.json_text.specs.Tokens.{begin_event}
use Rattle.json_tokens.specs.TokensStates.{TakesOne}
use Rattle.json_tokens.specs.Text.{TextTokensState, text_taken, text_tokens_state}
use Rattle.json_tokens.proofs.KindTests.{not_some}
use Rattle.json_tokens.proofs.AtOnce.{clear_reading, clear_taken, begin_read, begin_taken}
use Rattle.json_tokens.proofs.text_tokens.TextTokens.take_begin.Goals as goal

pub invariant_of-self : goal.invariant_of-self
invariant_of-self c =
    let e = c.next_begin.ensures in
    let y = c.if-next_begin.true in
    clear_reading _ _ _ _ c.self.view_is (c.is_clear.ensures.ahead (search rules)) c.next_begin.new.self (begin_event c.args.kind) (c.is_clear.ensures.failed (search rules)) c.self.invariant
    (λ ts h. begin_read _ _ c.args.kind ts h e.same (e.ok y) (e.tight y) e.failure) (e.reads y)

pub returns-then-next_begin-clause-begun : goal.returns-then-next_begin-clause-begun
returns-then-next_begin-clause-begun c = λ _.
    let e = c.next_begin.ensures in
    let y = c.if-next_begin.true in
    clear_taken _ _ _ _ c.self.view_is (c.is_clear.ensures.ahead (search rules)) (λ a b. TakesOne text_taken text_tokens_state a b (begin_token c.args.kind)) c.next_begin.new.self c.self.invariant
    (λ ts h. begin_taken _ _ _ c.args.kind ts h (begin_read _ _ c.args.kind ts h e.same (e.ok y) (e.tight y) e.failure))

pub returns-then-next_begin-clause-unfailed : goal.returns-then-next_begin-clause-unfailed
returns-then-next_begin-clause-unfailed c = λ _. ap (λ (t : TextTokensState). t.failed) c.self.view_is ∙ c.is_clear.ensures.failed (search rules)

pub returns-then-next_begin-clause-again : goal.returns-then-next_begin-clause-again
returns-then-next_begin-clause-again c = λ some. absurd (not_some (c.is_clear.ensures.failed (search rules)) some)
