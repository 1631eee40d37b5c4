use Rattle.std.proofs.Common.{map, take, drop}
use Rattle.json_layout.specs.Buffered.{held_after}
use Rattle.json_doc.specs.Seen.{view_tree}
use Rattle.json_lines.specs.Cells.{cell, separator}
use Rattle.json_lines.specs.Tables.{table_column, row_format}
use Rattle.json_lines.proofs.CellWriting.{WritesJoined}
use Rattle.json_lines.proofs.table.Table.write_cells.Given as goal

abbrev pub invariant-cells : goal.invariant-cells
invariant-cells g l =
    WritesJoined (separator (row_format l.fn.self.format)) (cell (row_format l.fn.self.format) (view_tree l.fn.view)) (held_after (g.W.Sink.state l.fn.out.inner) (drop l.fn.out.sent (take l.fn.out.end l.fn.out.buffer.items)))
    (held_after (g.W.Sink.state l.out.inner) (drop l.out.sent (take l.out.end l.out.buffer.items)))
    l.first (map table_column (take l.column-index l.column-items))
