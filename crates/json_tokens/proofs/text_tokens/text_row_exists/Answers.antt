use Rattle.std.proofs.Common.{List, subst}
use Rattle.json_grammar.specs.Tree.{Token as Tok}
use Rattle.json_tokens.specs.Text.{TextTokensState, text_taken}
use Rattle.json_tokens.proofs.text_tokens.text_row_exists.Goals as goal

pub returns : goal.returns
returns c = subst (λ (s : TextTokensState). (ts : List Tok) × text_taken s ts) c.tokens.view_is c.tokens.invariant.given
