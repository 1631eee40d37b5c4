use Rattle.json_grammar.specs.declared.Kind.TheVariants.{Array as array}
use Rattle.json_grammar.specs.Tree.{Trees, begin}
use Rattle.json_tokens.specs.ExpectedTokens.{InArray}
use Rattle.json_tokens.specs.TokensStates.{TakesOne}
use Rattle.json_data.proofs.Lists.{InList}
use Rattle.json_explain.proofs.Parts.{Passed}
use Rattle.json_explain.proofs.containers.explain_elements.Given as goal

-- the elements so far, from any place at which reading began
abbrev pub invariant-each : goal.invariant-each
invariant-each g l = (ts : Trees)
    × ((a : _) → TakesOne g.T.Tokens.taken g.T.Tokens.state a l.fn.tokens (begin array) → InList g.T.Tokens.taken g.T.Tokens.state a l.tokens ts)
    × InArray (g.T.Tokens.state l.tokens).expected
    × Passed g.V.Explain.refused ts l.index

abbrev pub decreases-each : goal.decreases-each
decreases-each g l = (g.T.Tokens.state l.tokens).left
