use Rattle.json_grammar.proofs.TokenPrefixes as proof
use Rattle.json_grammar.proofs.token_laws.whole_is_tree.Goals as goal

pub returns : goal.returns
returns c = λ ts. (λ h. proof.whole_tree ts h.0 h.1, λ h. proof.tree_whole ts h.0 h.1)
