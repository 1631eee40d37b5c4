use Rattle.json_diff.proofs.DiffDocument as proof
use Rattle.json_diff.proofs.diff_laws.empty_patch_between_same.Goals as goal

pub returns : goal.returns
returns c = proof.empty_patch_between_same
