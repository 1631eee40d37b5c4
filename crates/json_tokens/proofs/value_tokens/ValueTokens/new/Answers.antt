use Rattle.std.proofs.Common.{append-nil}
use Rattle.json_grammar.specs.Tree.{tokens}
use Rattle.json_value.specs.Seen.{seen}
use Rattle.json_tokens.proofs.value_tokens.ValueTokens.new.Goals as goal

pub returns-clause-taken : goal.returns-clause-taken
returns-clause-taken c = append-nil (tokens (seen c.args.view))
