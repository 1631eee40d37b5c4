use Rattle.std.proofs.Common.{◌∙◌, ap, sym, Ok}
use Rattle.json_doc.specs.Seen.{view_tree}
use Rattle.json_value.specs.Steps.{tree_at}
use Rattle.json_lines.specs.Tables.{table_command}
use Rattle.json_lines.proofs.TextWriting.{WritesText-nil, WritesText-is}
use Rattle.json_lines.proofs.CellWriting.{row-there, row-none}
use Rattle.json_lines.proofs.table.Table.write_view_row.Goals as goal

pub returns-in-Some : goal.returns-in-Some
returns-in-Some g c =
    let t = view_tree c.args.view in
    WritesText-is _ _ _ _ c.write_cells_line.result (sym (row-there (table_command c.args.self.now) t _ (c.in-Some.ensures ∙ ap (λ p. tree_at p t) c.steps.ensures))) c.write_cells_line.ensures

pub returns-in-None : goal.returns-in-None
returns-in-None g c =
    let t = view_tree c.args.view in
    WritesText-is _ _ _ _ (Ok tt) (sym (row-none (table_command c.args.self.now) t (c.in-None.ensures ∙ ap (λ p. tree_at p t) c.steps.ensures))) (WritesText-nil _)
