use Rattle.std.proofs.Common.{◌≡◌, map}
use Rattle.json_grammar.specs.Tree.{Trees}
use Rattle.json_data.specs.Reading.{gives_all, each}
use Rattle.json_data.proofs.Lists.{InList}
use Rattle.test_samples.specs.Nested.{nested_datum, read_nested}
use Rattle.test_samples.proofs.nested.NestedDeserializeFrom.+deserialize.Given as goal

abbrev pub decreases-deserialize : goal.decreases-deserialize
decreases-deserialize g l = (g.T.Tokens.state l.tokens.now).left

-- the elements so far
abbrev pub invariant-loop-all : goal.invariant-loop-all
invariant-loop-all g l = (ts : Trees) × InList g.T.Tokens.taken g.T.Tokens.state l.fn.tokens l.tokens ts × (each read_nested ts ≡ gives_all (map nested_datum l.all.items))

abbrev pub decreases-loop-all : goal.decreases-loop-all
decreases-loop-all g l = (g.T.Tokens.state l.tokens).left
