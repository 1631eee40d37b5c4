use Rattle.std.proofs.Common.{option_map}
use Rattle.json_doc.specs.Seen.{view_tree}
use Rattle.json_lines.specs.Cells.{cell_where, separator}
use Rattle.json_lines.specs.Tables.{cell_kind, cell_separator, row_format}
use Rattle.json_lines.proofs.TextWriting.{WritesText-first}
use Rattle.json_lines.proofs.cells.write_next_cell.Goals as goal

pub returns-in-Err : goal.returns-in-Err
returns-in-Err g c =
    let format = row_format c.args.format in
    WritesText-first _ _ (cell_separator (separator format) c.args.first) (cell_where format (cell_kind c.args.kind) (option_map view_tree c.args.found)) c.in-Err.error c.in-Err.ensures
