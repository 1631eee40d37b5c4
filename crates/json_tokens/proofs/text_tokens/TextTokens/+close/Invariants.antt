use Rattle.json_tokens.specs.Text.{text_taken, text_tokens_state}
use Rattle.json_tokens.proofs.Passing.{Passed}
use Rattle.json_tokens.proofs.text_tokens.TextTokens.+close.Given as goal

abbrev pub decreases-close : goal.decreases-close
decreases-close l = (text_tokens_state l.self.now).left

abbrev pub invariant-rest : goal.invariant-rest
invariant-rest l = Passed text_taken text_tokens_state l.fn.self l.self

abbrev pub decreases-rest : goal.decreases-rest
decreases-rest l = (text_tokens_state l.self).left
