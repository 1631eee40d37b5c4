use Rattle.json_doc.specs.Seen.{view_tree}
use Rattle.json_lines.specs.Cells.{cells, row_end}
use Rattle.json_lines.specs.Tables.{table_command, row_format}
use Rattle.json_lines.proofs.TextWriting.{WritesText-first}
use Rattle.json_lines.proofs.table.Table.write_cells_line.Goals as goal

pub returns-in-Err : goal.returns-in-Err
returns-in-Err g c =
    let format = row_format c.args.self.now.format in
    WritesText-first _ _ (cells format (table_command c.args.self.now).columns (view_tree c.args.view)) (row_end format) c.in-Err.error c.in-Err.ensures
