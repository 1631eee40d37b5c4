use Rattle.json_patch.proofs.PointerTexts as proof
use Rattle.json_patch.proofs.laws.parsed_text_is_pointer_text.Goals as goal

pub returns : goal.returns
returns c = proof.parsed_text_is_pointer_text
