use Rattle.json_diff.proofs.DiffDocument as proof
use Rattle.json_diff.proofs.diff_laws.patch_leads.Goals as goal

pub returns : goal.returns
returns c = proof.patch_leads
