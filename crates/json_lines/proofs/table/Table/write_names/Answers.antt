use Rattle.std.proofs.Common.{◌++◌, map, take, drop, suc, ap, ◌∙◌, arith, Err, Ok, sym}
use Rattle.json_lines.specs.Cells.{name_field}
use Rattle.json_lines.specs.Csv.{csv_field, joined}
use Rattle.json_lines.specs.Tables.{table_column, cell_separator}
use Rattle.json_lines.proofs.TextWriting.{WritesText-is}
use Rattle.json_lines.proofs.CellWriting.{WritesJoined-is, WritesJoined-start, WritesJoined-more, WritesJoined-stopped, mapped-split, mapped-more}
use Rattle.json_lines.proofs.table.Table.write_names.Goals as goal

pub names-init : goal.names-init
names-init g c = WritesJoined-start _ _ _

pub returns-in-Err : goal.returns-in-Err
returns-in-Err g c =
    let xs = c.deref-column-items.result.now in
    let i = c.names.column-index in
    let x = c.column-item.result in
    let split = mapped-split table_column xs i x (omega (arith, c.names-test.true)) c.column-item.is in
    WritesText-is _ _ _ _ (Err c.in-Err.error) (ap (joined 44 name_field) (sym split ∙ ap (map table_column) c.deref-column-items.ensures.value))
    (WritesJoined-stopped 44 name_field _ _ _ c.names.first (map table_column (take i xs)) (table_column x) (map table_column (drop (suc i) xs)) c.in-Err.error c.names.invariant
    (WritesText-is _ _ _ _ _ (ap (λ l. cell_separator 44 c.names.first ++ csv_field l) c.as_bytes.ensures.value) c.in-Err.ensures))

pub names-preserved : goal.names-preserved
names-preserved g c =
    let xs = c.deref-column-items.result.now in
    let i = c.names.column-index in
    let x = c.column-item.result in
    WritesJoined-is 44 name_field _ _ _ _ _ (sym (mapped-more table_column xs i x (omega (arith, c.names-test.true)) c.column-item.is))
    (WritesJoined-more 44 name_field _ _ _ c.names.first (map table_column (take i xs)) (table_column x) c.in-Ok.field-0 c.names.invariant
    (WritesText-is _ _ _ _ _ (ap (λ l. cell_separator 44 c.names.first ++ csv_field l) c.as_bytes.ensures.value) c.in-Ok.ensures))
