use Rattle.json_explain.proofs.Agreeing as proof
use Rattle.json_explain.proofs.laws.whole_explained.Goals as goal

pub returns : goal.returns
returns c = proof.whole_explained
