use Rattle.std.proofs.Common.{arith, rules, ◌∙◌, ap}
use Rattle.json_text.specs.declared.event.Event.TheVariants as Event
use Rattle.json_tokens.specs.TokensStates.{TakesInteger}
use Rattle.json_tokens.specs.Text.{TextTokensState, text_taken, text_tokens_state}
use Rattle.json_tokens.proofs.KindTests.{not_some}
use Rattle.json_tokens.proofs.AtOnce.{clear_inside, clear_reading, clear_taken, number_read, integer_taken}
use Rattle.json_tokens.proofs.text_tokens.TextTokens.take_integer.Goals as goal

pub next_integer-requires-clause-inside : goal.next_integer-requires-clause-inside
next_integer-requires-clause-inside c = clear_inside _ _ _ _ c.self.view_is (c.is_clear.ensures.ahead (search rules)) c.requires

pub invariant_of-self : goal.invariant_of-self
invariant_of-self c =
    let e = c.in-Some.ensures in
    clear_reading _ _ _ _ c.self.view_is (c.is_clear.ensures.ahead (search rules)) c.next_integer.new.self (Event.Number c.in-Some.integer.literal) (c.is_clear.ensures.failed (search rules)) c.self.invariant
    (λ ts h. number_read _ _ c.in-Some.integer.literal ts h e.same e.ok e.tight e.failure) e.reads

pub returns-in-Some-clause-takes : goal.returns-in-Some-clause-takes
returns-in-Some-clause-takes c =
    let e = c.in-Some.ensures in
    let n = c.in-Some.integer in
    clear_taken _ _ _ _ c.self.view_is (c.is_clear.ensures.ahead (search rules)) (λ a b. TakesInteger text_taken text_tokens_state a b n.value) c.next_integer.new.self c.self.invariant
    (λ ts h. integer_taken _ _ _ n.literal n.value ts h (number_read _ _ n.literal ts h e.same e.ok e.tight e.failure) e.tight e.digits.0 e.value (let m = e.most in let fits = c.ranges.most.fits in omega arith))

pub returns-in-Some-clause-unfailed : goal.returns-in-Some-clause-unfailed
returns-in-Some-clause-unfailed c = λ _. ap (λ (t : TextTokensState). t.failed) c.self.view_is ∙ c.is_clear.ensures.failed (search rules)

pub returns-in-Some-clause-again : goal.returns-in-Some-clause-again
returns-in-Some-clause-again c = λ some. absurd (not_some (c.is_clear.ensures.failed (search rules)) some)
