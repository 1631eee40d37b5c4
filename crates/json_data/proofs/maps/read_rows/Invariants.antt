use Rattle.std.proofs.Common.{◌≡◌}
use Rattle.json_grammar.specs.declared.Kind.TheVariants.{Object as object}
use Rattle.json_grammar.specs.Tree.{Pairs, begin}
use Rattle.json_model.specs.Datum.{rows_datum, no_rows}
use Rattle.json_data.specs.Reading.{gives, rows_from}
use Rattle.json_tokens.specs.ExpectedTokens.{InObject}
use Rattle.json_tokens.specs.TokensStates.{TakesOne}
use Rattle.json_data.proofs.Pairs.{InPairs}
use Rattle.json_data.proofs.Rows.{rows_of, OfTexts}
use Rattle.json_data.proofs.maps.read_rows.Given as goal

-- the pairs so far, from any place at which reading began
abbrev pub invariant-each : goal.invariant-each
invariant-each g l = (ps : Pairs)
    × ((a : _) → TakesOne g.T.Tokens.taken g.T.Tokens.state a l.fn.tokens (begin object) → InPairs g.T.Tokens.taken g.T.Tokens.state a l.tokens ps)
    × InObject (g.T.Tokens.state l.tokens).expected
    × (rows_from g.K.FromKey.from_text g.V.DeserializeFrom.from_tree no_rows ps ≡ gives (rows_datum (rows_of g.K.FromKey.key_datum g.V.DeserializeFrom.datum l.all.entries)))
    × OfTexts g.K.FromKey.from_text g.K.FromKey.key_datum l.all.entries

abbrev pub decreases-each : goal.decreases-each
decreases-each g l = (g.T.Tokens.state l.tokens).left
