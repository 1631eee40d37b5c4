use Rattle.std.proofs.Common.{◌≡◌, ◌∙◌, ◌∷◌, [], Some, sym, ap, string_bytes}
use Rattle.std.proofs.lemmas.Result.{IfOk-weaker, IfErr-weaker}
use Rattle.json_value.specs.Edits.{path_steps}
use Rattle.json_value.specs.EditTrees.{path_in}
use Rattle.json_value.specs.Seen.{seen}
use Rattle.json_data.specs.Spelled.{Unspelled}
use Rattle.json_data.proofs.Spelling.{unread}
use Rattle.json_lines.specs.Tables.{cell_kind, table_column}
use Rattle.json_lines.specs.Words.{column_of_pair}
use Rattle.json_lines.proofs.WordsSpelled.{column_of_parts, column_of_no_path}
use Rattle.json_lines.proofs.asked.read_column_pair.Goals as goal

pub returns-clause-ok : goal.returns-clause-ok
returns-clause-ok c =
    let path = seen c.args.path in
    let kind = seen c.args.kind in
    IfOk-weaker c.named_column.result _ (λ d. column_of_pair (path ∷ kind ∷ []) ≡ Some (table_column d))
    (λ d h. column_of_parts path kind (path_steps d.path) (cell_kind d.kind) (string_bytes d.name) h.0 (sym c.in-Some.ensures ∙ ap (λ k. Some (cell_kind k)) (sym h.1)) h.2) c.named_column.ensures.ok

pub returns-clause-err : goal.returns-clause-err
returns-clause-err c =
    let path = seen c.args.path in
    let kind = seen c.args.kind in
    IfErr-weaker c.named_column.result _ (Unspelled (column_of_pair (path ∷ kind ∷ []))) (λ e h. unread (path_in path) (column_of_pair (path ∷ kind ∷ [])) e (λ n. column_of_no_path path kind n) h) c.named_column.ensures.err
