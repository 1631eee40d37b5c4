use Rattle.std.proofs.Common.{ap, Some}
use Rattle.json_lines.specs.Tables.{table_command}
use Rattle.json_lines.proofs.LineRows.{skips_blank, returns_utf8_error, said_blank}
use Rattle.json_lines.proofs.table.TableRowWriterBufferedWriter.write_row.Goals as goal

pub returns-then-is_blank-clause-ok : goal.returns-then-is_blank-clause-ok
returns-then-is_blank-clause-ok g c = skips_blank (table_command c.args.self.now) c.args.line.now c.requires.short _ (said_blank c.args.line.now c.is_blank.result _ c.if-is_blank.true c.is_blank.ensures)

pub returns-in-Err-clause-ok : goal.returns-in-Err-clause-ok
returns-in-Err-clause-ok g c =
    returns_utf8_error (table_command c.args.self.now) c.args.line.now c.requires.short _ c.in-Err.error _ c.in-Err.ensures.cause (said_blank c.args.line.now c.is_blank.result _ c.if-is_blank.false c.is_blank.ensures) (ap Some c.fault_text.ensures)
