use Rattle.json_diff.proofs.FewOperations as proof
use Rattle.json_diff.proofs.diff_laws.few_operations.Goals as goal

pub returns : goal.returns
returns c = proof.few_operations
