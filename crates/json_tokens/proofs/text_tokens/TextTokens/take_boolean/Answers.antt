use Rattle.std.proofs.Common.{◌∙◌, ap, rules}
use Rattle.json_grammar.specs.Tree.{boolean}
use Rattle.json_text.specs.declared.event.Event.TheVariants as Event
use Rattle.json_tokens.specs.TokensStates.{TakesTree}
use Rattle.json_tokens.specs.Text.{TextTokensState, text_taken, text_tokens_state}
use Rattle.json_tokens.proofs.KindTests.{not_some}
use Rattle.json_tokens.proofs.AtOnce.{clear_inside, clear_reading, clear_taken, bool_read, boolean_taken}
use Rattle.json_tokens.proofs.text_tokens.TextTokens.take_boolean.Goals as goal

pub next_bool-requires-clause-inside : goal.next_bool-requires-clause-inside
next_bool-requires-clause-inside c = clear_inside _ _ _ _ c.self.view_is (c.is_clear.ensures.ahead (search rules)) c.requires

pub invariant_of-self : goal.invariant_of-self
invariant_of-self c =
    let e = c.in-Some.ensures in
    clear_reading _ _ _ _ c.self.view_is (c.is_clear.ensures.ahead (search rules)) c.next_bool.new.self (Event.Bool c.in-Some.b) (c.is_clear.ensures.failed (search rules)) c.self.invariant
    (λ ts h. bool_read _ _ c.in-Some.b ts h e.same e.ok e.tight e.failure) e.reads

pub returns-in-Some-clause-takes : goal.returns-in-Some-clause-takes
returns-in-Some-clause-takes c =
    let e = c.in-Some.ensures in
    clear_taken _ _ _ _ c.self.view_is (c.is_clear.ensures.ahead (search rules)) (λ a b. TakesTree text_taken text_tokens_state a b (boolean c.in-Some.b)) c.next_bool.new.self c.self.invariant
    (λ ts h. boolean_taken _ _ _ c.in-Some.b ts h (bool_read _ _ c.in-Some.b ts h e.same e.ok e.tight e.failure))

pub returns-in-Some-clause-unfailed : goal.returns-in-Some-clause-unfailed
returns-in-Some-clause-unfailed c = λ _. ap (λ (t : TextTokensState). t.failed) c.self.view_is ∙ c.is_clear.ensures.failed (search rules)

pub returns-in-Some-clause-again : goal.returns-in-Some-clause-again
returns-in-Some-clause-again c = λ some. absurd (not_some (c.is_clear.ensures.failed (search rules)) some)
