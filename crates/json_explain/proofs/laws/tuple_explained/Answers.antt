use Rattle.json_explain.proofs.Agreeing as proof
use Rattle.json_explain.proofs.laws.tuple_explained.Goals as goal

pub returns : goal.returns
returns c = proof.tuple_explained
