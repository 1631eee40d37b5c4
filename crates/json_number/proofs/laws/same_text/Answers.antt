use Rattle.json_number.proofs.Forms as proof
use Rattle.json_number.proofs.laws.same_text.Goals as goal

pub returns : goal.returns
returns c = proof.texts
