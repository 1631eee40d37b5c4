use Rattle.json_patch.proofs.PointerTexts as proof
use Rattle.json_patch.proofs.laws.pointer_text_parses.Goals as goal

pub returns : goal.returns
returns c = proof.pointer_text_parses
