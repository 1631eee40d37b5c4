use Rattle.std.proofs.Common.{◌∙◌, ap, rules}
use Rattle.json_grammar.specs.Tree.{null}
use Rattle.json_text.specs.declared.event.Event.TheVariants as Event
use Rattle.json_tokens.specs.TokensStates.{TakesTree}
use Rattle.json_tokens.specs.Text.{TextTokensState, text_taken, text_tokens_state}
use Rattle.json_tokens.proofs.KindTests.{not_some}
use Rattle.json_tokens.proofs.AtOnce.{clear_reading, clear_taken, null_read, null_taken}
use Rattle.json_tokens.proofs.text_tokens.TextTokens.take_null.Goals as goal

pub invariant_of-self : goal.invariant_of-self
invariant_of-self c =
    let e = c.next_null.ensures in
    let y = c.if-next_null.true in
    clear_reading _ _ _ _ c.self.view_is (c.is_clear.ensures.ahead (search rules)) c.next_null.new.self Event.Null (c.is_clear.ensures.failed (search rules)) c.self.invariant
    (λ ts h. null_read _ _ ts h e.same (e.ok y) (e.tight y) e.failure) (e.reads y)

pub returns-then-next_null-clause-takes : goal.returns-then-next_null-clause-takes
returns-then-next_null-clause-takes c = λ _.
    let e = c.next_null.ensures in
    let y = c.if-next_null.true in
    clear_taken _ _ _ _ c.self.view_is (c.is_clear.ensures.ahead (search rules)) (λ a b. TakesTree text_taken text_tokens_state a b null) c.next_null.new.self c.self.invariant
    (λ ts h. null_taken _ _ _ ts h (null_read _ _ ts h e.same (e.ok y) (e.tight y) e.failure))

pub returns-then-next_null-clause-unfailed : goal.returns-then-next_null-clause-unfailed
returns-then-next_null-clause-unfailed c = λ _. ap (λ (t : TextTokensState). t.failed) c.self.view_is ∙ c.is_clear.ensures.failed (search rules)

pub returns-then-next_null-clause-again : goal.returns-then-next_null-clause-again
returns-then-next_null-clause-again c = λ some. absurd (not_some (c.is_clear.ensures.failed (search rules)) some)
