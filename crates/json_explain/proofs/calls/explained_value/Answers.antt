use Rattle.std.proofs.Common.{◌∙◌, ap}
use Rattle.json_tokens.specs.Values.{at_begin}
use Rattle.json_data.proofs.ValueCalls.{wants_value}
use Rattle.json_explain.proofs.Texts.{refused_value}
use Rattle.json_explain.proofs.calls.explained_value.Goals as goal

pub explain-requires : goal.explain-requires
explain-requires g c = wants_value c.new-tokens.result _ c.new-tokens.ensures.state

pub returns-in-Ok-clause-refused : goal.returns-in-Ok-clause-refused
returns-in-Ok-clause-refused g c = λ h.
    refused_value c.new-tokens.result c.explain.new.tokens _ g.T.Explain.refused _ (c.new-tokens.ensures.state ∙ ap at_begin c.view.ensures.tree) c.in-Ok.ensures.ok
