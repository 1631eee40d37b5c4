use Rattle.std.proofs.Common.{[], ◌∷◌, Some, ap₂, lit<, codes}
use Rattle.std.proofs.lemmas.Fmt.{decimal_digit}
use Rattle.json_grammar.specs.Tree.{null, num, pairs, list_pairs}
use Rattle.json_model.proofs.data_examples.rows_repeated.Goals as goal

pub returns : goal.returns
returns c =
    ap₂ (λ seven zero. Some (pairs (list_pairs ((codes "7", null) ∷ (seven, num zero) ∷ [])))) (decimal_digit 7 (lit< tt)) (decimal_digit 0 (lit< tt))
