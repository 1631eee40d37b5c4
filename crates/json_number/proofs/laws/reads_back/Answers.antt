use Rattle.json_number.proofs.Forms as proof
use Rattle.json_number.proofs.laws.reads_back.Goals as goal

pub returns : goal.returns
returns c = proof.reads
