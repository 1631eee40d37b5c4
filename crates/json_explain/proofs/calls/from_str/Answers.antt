use Rattle.json_explain.proofs.Texts.{refused_text}
use Rattle.json_explain.proofs.calls.from_str.Goals as goal

pub returns-in-Err-clause-explained : goal.returns-in-Err-clause-explained
returns-in-Err-clause-explained g c = c.explained.ensures.explained (λ p. refused_text 254 g.T.DeserializeFrom.from_tree c.args.text.now c.in-Err.error.code c.in-Err.error.place p c.in-Err.ensures.err)
