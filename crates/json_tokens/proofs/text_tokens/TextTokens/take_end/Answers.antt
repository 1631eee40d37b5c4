use Rattle.std.proofs.Common.{◌∙◌, ap, rules}
use Rattle.json_grammar.specs.Tree.{end as end_token}
use Rattle.json_text.specs.Tokens.{end_event}
use Rattle.json_tokens.specs.TokensStates.{TakesOne}
use Rattle.json_tokens.specs.Text.{TextTokensState, text_taken, text_tokens_state}
use Rattle.json_tokens.proofs.KindTests.{not_some}
use Rattle.json_tokens.proofs.AtOnce.{clear_reading, clear_taken, end_read, end_taken}
use Rattle.json_tokens.proofs.text_tokens.TextTokens.take_end.Goals as goal

pub invariant_of-self : goal.invariant_of-self
invariant_of-self c =
    let e = c.next_end.ensures in
    let y = c.if-next_end.true in
    clear_reading _ _ _ _ c.self.view_is (c.is_clear.ensures.ahead (search rules)) c.next_end.new.self (end_event c.args.kind) (c.is_clear.ensures.failed (search rules)) c.self.invariant
    (λ ts h. end_read _ _ c.args.kind ts h e.same (e.ok y) (e.tight y) e.failure) (e.reads y)

pub returns-then-next_end-clause-ended : goal.returns-then-next_end-clause-ended
returns-then-next_end-clause-ended c = λ _.
    let e = c.next_end.ensures in
    let y = c.if-next_end.true in
    clear_taken _ _ _ _ c.self.view_is (c.is_clear.ensures.ahead (search rules)) (λ a b. TakesOne text_taken text_tokens_state a b (end_token c.args.kind)) c.next_end.new.self c.self.invariant
    (λ ts h. end_taken _ _ _ c.args.kind ts h (end_read _ _ c.args.kind ts h e.same (e.ok y) (e.tight y) e.failure))

pub returns-then-next_end-clause-unfailed : goal.returns-then-next_end-clause-unfailed
returns-then-next_end-clause-unfailed c = λ _. ap (λ (t : TextTokensState). t.failed) c.self.view_is ∙ c.is_clear.ensures.failed (search rules)

pub returns-then-next_end-clause-again : goal.returns-then-next_end-clause-again
returns-then-next_end-clause-again c = λ some. absurd (not_some (c.is_clear.ensures.failed (search rules)) some)
