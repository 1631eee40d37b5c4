use Rattle.json_grammar.proofs.RulesTable as proof
use Rattle.json_grammar.proofs.rules_laws.fault_table.Goals as goal

pub returns : goal.returns
returns c = λ lossy r b u nd nt. (proof.eof_row lossy r b u nd nt, proof.other_row lossy r b u nd nt)
