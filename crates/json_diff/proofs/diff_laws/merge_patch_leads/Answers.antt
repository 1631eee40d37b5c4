use Rattle.json_diff.proofs.MergeDiff as proof
use Rattle.json_diff.proofs.diff_laws.merge_patch_leads.Goals as goal

pub returns : goal.returns
returns c = proof.merge_patch_leads
