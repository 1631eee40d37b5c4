use Rattle.std.proofs.Common.{option_map, ap, sym}
use Rattle.json_doc.specs.Seen.{view_tree}
use Rattle.json_lines.specs.Cells.{cell_where}
use Rattle.json_lines.specs.Tables.{cell_kind, row_format}
use Rattle.json_lines.proofs.TextWriting.{WritesText-is}
use Rattle.json_lines.proofs.cells.write_cell.Goals as goal

pub returns-in-Tabbed : goal.returns-in-Tabbed
returns-in-Tabbed g c =
    WritesText-is _ _ _ _ c.write_tabbed_cell.result (ap (λ f. cell_where (row_format f) (cell_kind c.args.kind) (option_map view_tree c.args.found)) (sym c.in-Tabbed.is)) c.write_tabbed_cell.ensures

pub returns-in-Csv : goal.returns-in-Csv
returns-in-Csv g c = WritesText-is _ _ _ _ c.write_csv_cell.result (ap (λ f. cell_where (row_format f) (cell_kind c.args.kind) (option_map view_tree c.args.found)) (sym c.in-Csv.is)) c.write_csv_cell.ensures
