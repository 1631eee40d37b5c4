use Rattle.std.proofs.Common.{◌≡◌, ◌∙◌, Some, map}
use Rattle.std.proofs.lemmas.Result.{IfOk-weaker, IfErr-weaker}
use Rattle.json_value.specs.EditTrees.{each_in}
use Rattle.json_value.specs.Seen.{seen, elements_seen}
use Rattle.json_data.specs.Spelled.{Unspelled}
use Rattle.json_data.proofs.Spelling.{unread}
use Rattle.json_lines.specs.Tables.{table_column}
use Rattle.json_lines.specs.Words.{column_in, columns_in}
use Rattle.json_lines.proofs.WordsSpelled.{columns_of_array}
use Rattle.json_lines.proofs.asked.read_columns.Goals as goal

pub returns-in-Some-clause-ok : goal.returns-in-Some-clause-ok
returns-in-Some-clause-ok c =
    let e = columns_of_array (seen c.args.view) (elements_seen c.in-Some.array) c.in-Some.ensures.trees in
    IfOk-weaker c.read_each.result _ (λ v. columns_in (seen c.args.view) ≡ Some (map table_column v.items)) (λ v h. e ∙ h) c.read_each.ensures.ok

pub returns-in-Some-clause-err : goal.returns-in-Some-clause-err
returns-in-Some-clause-err c =
    let e = columns_of_array (seen c.args.view) (elements_seen c.in-Some.array) c.in-Some.ensures.trees in
    IfErr-weaker c.read_each.result _ (Unspelled (columns_in (seen c.args.view)))
    (λ d h. unread (each_in column_in (elements_seen c.in-Some.array)) (columns_in (seen c.args.view)) d (λ n. e ∙ n) h) c.read_each.ensures.err
