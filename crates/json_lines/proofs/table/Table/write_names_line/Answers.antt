use Rattle.json_lines.specs.Cells.{csv_rows, name_field, row_end}
use Rattle.json_lines.specs.Csv.{joined}
use Rattle.json_lines.specs.Tables.{table_command}
use Rattle.json_lines.proofs.TextWriting.{WritesText-first}
use Rattle.json_lines.proofs.table.Table.write_names_line.Goals as goal

pub returns-in-Err : goal.returns-in-Err
returns-in-Err g c = WritesText-first _ _ (joined 44 name_field (table_command c.args.self.now).columns) (row_end csv_rows) c.in-Err.error c.in-Err.ensures
