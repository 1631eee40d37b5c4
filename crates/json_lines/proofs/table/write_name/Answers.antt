use Rattle.json_lines.specs.Csv.{csv_field}
use Rattle.json_lines.specs.Tables.{cell_separator}
use Rattle.json_lines.proofs.TextWriting.{WritesText-first}
use Rattle.json_lines.proofs.table.write_name.Goals as goal

pub returns-in-Err : goal.returns-in-Err
returns-in-Err g c = WritesText-first _ _ (cell_separator 44 c.args.first) (csv_field c.args.name.now) c.in-Err.error c.in-Err.ensures
