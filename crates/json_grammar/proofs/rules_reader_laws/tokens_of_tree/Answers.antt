use Rattle.std.proofs.Common.{[]}
use Rattle.json_grammar.proofs.OpenKeys as proof
use Rattle.json_grammar.proofs.rules_reader_laws.tokens_of_tree.Goals as goal

pub returns : goal.returns
returns c = λ t. (proof.tree_repeats t [], proof.repeats_tree t [])
