use Rattle.std.proofs.Common.{ap, sym, Ok}
use Rattle.json_lines.specs.Cells.{header_of}
use Rattle.json_lines.specs.Tables.{table_command, row_format}
use Rattle.json_lines.proofs.TextWriting.{WritesText-nil, WritesText-is}
use Rattle.json_lines.proofs.table.TableRowWriterBufferedWriter.write_header.Goals as goal

pub returns-in-Tabbed : goal.returns-in-Tabbed
returns-in-Tabbed g c = WritesText-is _ _ _ _ (Ok tt) (ap (λ f. header_of (row_format f) (table_command c.args.self.now).columns) (sym c.in-Tabbed.is)) (WritesText-nil _)

pub returns-in-Csv : goal.returns-in-Csv
returns-in-Csv g c = WritesText-is _ _ _ _ c.write_names_line.result (ap (λ f. header_of (row_format f) (table_command c.args.self.now).columns) (sym c.in-Csv.is)) c.write_names_line.ensures
