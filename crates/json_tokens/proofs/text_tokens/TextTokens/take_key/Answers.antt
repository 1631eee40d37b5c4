use Rattle.std.proofs.Common.{◌∙◌, ap, rules}
use Rattle.json_text.specs.declared.event.Event.TheVariants as Event
use Rattle.json_tokens.specs.Pieces.{Says}
use Rattle.json_tokens.specs.TokensStates.{TakesKeyPiece}
use Rattle.json_tokens.specs.Text.{TextTokensState, text_taken, text_tokens_state}
use Rattle.json_tokens.proofs.KindTests.{not_some}
use Rattle.json_tokens.proofs.AtOnce.{clear_inside, clear_reading, clear_taken, key_read, key_taken_at_once}
use Rattle.json_tokens.proofs.text_tokens.TextTokens.take_key.Goals as goal

pub next_key-requires-clause-inside : goal.next_key-requires-clause-inside
next_key-requires-clause-inside c = clear_inside _ _ _ _ c.self.view_is (c.is_clear.ensures.ahead (search rules)) c.requires

pub invariant_of-self : goal.invariant_of-self
invariant_of-self c =
    let e = c.in-Some.ensures in
    clear_reading _ _ _ _ c.self.view_is (c.is_clear.ensures.ahead (search rules)) c.next_key.new.self (Event.Key c.in-Some.span) (c.is_clear.ensures.failed (search rules)) c.self.invariant
    (λ ts h. key_read _ _ c.in-Some.span ts h e.same e.ok e.tight e.failure) e.reads

pub returns-in-Some-clause-takes : goal.returns-in-Some-clause-takes
returns-in-Some-clause-takes c =
    let e = c.in-Some.ensures in
    let r = c.plain_piece.result in
    clear_taken _ _ _ _ c.self.view_is (c.is_clear.ensures.ahead (search rules)) (λ a b. TakesKeyPiece text_taken text_tokens_state (λ s. Says s r.escaped r.text.now) a b) c.next_key.new.self c.self.invariant
    (λ ts h. key_taken_at_once _ _ _ c.in-Some.span (λ s. Says s r.escaped r.text.now) ts h (key_read _ _ c.in-Some.span ts h e.same e.ok e.tight e.failure) c.plain_piece.ensures)

pub returns-in-Some-clause-unfailed : goal.returns-in-Some-clause-unfailed
returns-in-Some-clause-unfailed c = λ _. ap (λ (t : TextTokensState). t.failed) c.self.view_is ∙ c.is_clear.ensures.failed (search rules)

pub returns-in-Some-clause-again : goal.returns-in-Some-clause-again
returns-in-Some-clause-again c = λ some. absurd (not_some (c.is_clear.ensures.failed (search rules)) some)
