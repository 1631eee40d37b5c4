use Rattle.std.proofs.Common.{map, take, drop, suc, ap, ◌∙◌, arith, Err, Ok, sym}
use Rattle.json_doc.specs.Seen.{view_tree}
use Rattle.json_lines.specs.Cells.{cell, cells, separator}
use Rattle.json_lines.specs.Tables.{table_column, row_format}
use Rattle.json_lines.proofs.TextWriting.{WritesText-is}
use Rattle.json_lines.proofs.CellWriting.{WritesJoined-is, WritesJoined-start, WritesJoined-more, WritesJoined-stopped, cell-found, mapped-split, mapped-more}
use Rattle.json_lines.proofs.table.Table.write_cells.Goals as goal

pub cells-init : goal.cells-init
cells-init g c = WritesJoined-start _ _ _

pub returns-in-Err : goal.returns-in-Err
returns-in-Err g c =
    let xs = c.deref-column-items.result.now in
    let i = c.cells.column-index in
    let x = c.column-item.result in
    let t = view_tree c.args.view in
    let format = row_format c.args.self.now.format in
    let split = mapped-split table_column xs i x (omega (arith, c.cells-test.true)) c.column-item.is in
    WritesText-is _ _ _ _ (Err c.in-Err.error) (ap (λ l. cells format l t) (sym split ∙ ap (map table_column) c.deref-column-items.ensures.value))
    (WritesJoined-stopped (separator format) (cell format t) _ _ _ c.cells.first (map table_column (take i xs)) (table_column x) (map table_column (drop (suc i) xs)) c.in-Err.error c.cells.invariant
    (cell-found _ _ format c.cells.first (table_column x) _ _ t (Err c.in-Err.error) c.follow-found.ensures c.steps.ensures c.in-Err.ensures))

pub cells-preserved : goal.cells-preserved
cells-preserved g c =
    let xs = c.deref-column-items.result.now in
    let i = c.cells.column-index in
    let x = c.column-item.result in
    let t = view_tree c.args.view in
    let format = row_format c.args.self.now.format in
    WritesJoined-is (separator format) (cell format t) _ _ _ _ _ (sym (mapped-more table_column xs i x (omega (arith, c.cells-test.true)) c.column-item.is))
    (WritesJoined-more (separator format) (cell format t) _ _ _ c.cells.first (map table_column (take i xs)) (table_column x) c.in-Ok.field-0 c.cells.invariant
    (cell-found _ _ format c.cells.first (table_column x) _ _ t (Ok c.in-Ok.field-0) c.follow-found.ensures c.steps.ensures c.in-Ok.ensures))
