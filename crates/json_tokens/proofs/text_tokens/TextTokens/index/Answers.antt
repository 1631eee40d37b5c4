use Rattle.std.proofs.Common.{◌≡◌, None, sym, subst, option_map, []}
use Rattle.json_tokens.specs.declared.ahead.Ahead.{Ahead}
use Rattle.json_grammar.specs.TokenStates.{state_in}
use Rattle.json_tokens.specs.Text.{TextTokensState, text_tokens_state, HasReadValue}
use Rattle.json_tokens.proofs.TextSteps.{has_read_value}
use Rattle.json_tokens.proofs.text_tokens.TextTokens.index.Goals as goal

pub returns-clause-read : goal.returns-clause-read
returns-clause-read c =
    let s = c.self.inside in
    let v = sym c.self.view_is in
    subst HasReadValue c.self.view_is
    (has_read_value s.parser (option_map (λ (h : Ahead). h.event) s.ahead) s.failed (subst (λ (n : TextTokensState). (text_tokens_state n).expected ≡ state_in []) v c.requires.over) (subst (λ (n : TextTokensState). (text_tokens_state n).peeked ≡ None) v c.requires.peeked) c.self.invariant.read)
