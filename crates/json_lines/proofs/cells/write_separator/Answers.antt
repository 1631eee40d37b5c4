use Rattle.std.proofs.Common.{◌∙◌, ap, sym, false}
use Rattle.json_lines.specs.Cells.{separator}
use Rattle.json_lines.specs.Tables.{cell_separator, row_format}
use Rattle.json_lines.proofs.TextWriting.{WritesText-is}
use Rattle.json_lines.proofs.cells.write_separator.Goals as goal

pub returns-in-Tabbed : goal.returns-in-Tabbed
returns-in-Tabbed g c =
    WritesText-is _ _ _ _ c.write_bytes.result (ap (λ f. cell_separator (separator (row_format f)) false) (sym c.in-Tabbed.is) ∙ ap (cell_separator (separator (row_format c.args.format))) (sym c.if-first.false))
    c.write_bytes.ensures

pub returns-in-Csv : goal.returns-in-Csv
returns-in-Csv g c =
    WritesText-is _ _ _ _ c.write_bytes-in-Csv.result (ap (λ f. cell_separator (separator (row_format f)) false) (sym c.in-Csv.is) ∙ ap (cell_separator (separator (row_format c.args.format))) (sym c.if-first.false))
    c.write_bytes-in-Csv.ensures
