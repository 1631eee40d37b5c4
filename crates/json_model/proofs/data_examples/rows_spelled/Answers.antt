use Rattle.std.proofs.Common.{[], ◌∷◌, true, Some, ap, lit<, codes}
use Rattle.std.proofs.lemmas.Fmt.{decimal_digit}
use Rattle.json_grammar.specs.Tree.{boolean, num, pairs, list_pairs}
use Rattle.json_model.proofs.data_examples.rows_spelled.Goals as goal

pub returns : goal.returns
returns c =
    ap (λ one. Some (pairs (list_pairs ((45 ∷ one, boolean true) ∷ (codes "true", num (codes "1.50")) ∷ [])))) (decimal_digit 1 (lit< tt))
