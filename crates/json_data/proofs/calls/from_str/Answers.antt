use Rattle.json_data.proofs.Complete.{complete}
use Rattle.json_data.proofs.calls.from_str.Goals as goal

pub returns-clause-complete : goal.returns-clause-complete
returns-clause-complete g c = complete 254 g.T.DeserializeFrom.from_tree c.args.s.now c.read_text.result c.read_text.ensures.err
