use Rattle.json_grammar.proofs.TokenStates as proof
use Rattle.json_grammar.proofs.token_laws.tree_is_value.Goals as goal

pub returns : goal.returns
returns c = λ s t. (proof.accepts_tree s t, proof.after_tree s t)
