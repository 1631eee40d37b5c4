use Rattle.std.proofs.Common.{map, take, drop}
use Rattle.json_layout.specs.Buffered.{held_after}
use Rattle.json_lines.specs.Cells.{name_field}
use Rattle.json_lines.specs.Tables.{table_column}
use Rattle.json_lines.proofs.CellWriting.{WritesJoined}
use Rattle.json_lines.proofs.table.Table.write_names.Given as goal

abbrev pub invariant-names : goal.invariant-names
invariant-names g l =
    WritesJoined 44 name_field (held_after (g.W.Sink.state l.fn.out.inner) (drop l.fn.out.sent (take l.fn.out.end l.fn.out.buffer.items)))
    (held_after (g.W.Sink.state l.out.inner) (drop l.out.sent (take l.out.end l.out.buffer.items)))
    l.first (map table_column (take l.column-index l.column-items))
