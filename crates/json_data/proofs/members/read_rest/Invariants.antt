use Rattle.std.proofs.Common.{◌≡◌}
use Rattle.json_grammar.specs.declared.Kind.TheVariants.{Object as object}
use Rattle.json_grammar.specs.Tree.{Pairs, begin}
use Rattle.json_data.specs.Members.{members_from}
use Rattle.json_data.specs.Reading.{gives}
use Rattle.json_tokens.specs.ExpectedTokens.{InObject}
use Rattle.json_tokens.specs.TokensStates.{TakesOne}
use Rattle.json_data.proofs.Pairs.{InPairs}
use Rattle.json_data.proofs.members.read_rest.Given as goal

-- the members so far, from any place at which reading began
abbrev pub invariant-each : goal.invariant-each
invariant-each g l = (ps : Pairs)
    × ((a : _) → TakesOne g.T.Tokens.taken g.T.Tokens.state a l.fn.tokens (begin object) → InPairs g.T.Tokens.taken g.T.Tokens.state a l.tokens ps)
    × InObject (g.T.Tokens.state l.tokens).expected
    × (members_from g.M.Members.step (g.M.Members.so_far l.fn.members) ps ≡ gives (g.M.Members.so_far l.members))

abbrev pub decreases-each : goal.decreases-each
decreases-each g l = (g.T.Tokens.state l.tokens).left
