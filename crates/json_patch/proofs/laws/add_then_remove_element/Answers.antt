use Rattle.json_patch.proofs.PatchLaws as proof
use Rattle.json_patch.proofs.laws.add_then_remove_element.Goals as goal

pub returns : goal.returns
returns c = proof.add_then_remove_element
