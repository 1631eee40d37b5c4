use Rattle.json_grammar.proofs.TokenStates as proof
use Rattle.json_grammar.proofs.token_laws.place_is_state.Goals as goal

pub returns : goal.returns
returns c = λ lossy p o w ts h. (proof.place_accepts h, proof.place_state h)
