use Rattle.std.proofs.lemmas.Result.{IfOk-weaker, IfErr-weaker}
use Rattle.json_lines.specs.Tables.{table_command}
use Rattle.json_lines.proofs.LineRows.{returns_fault, has_row, row_written, row_failed, row_unread}
use Rattle.json_lines.proofs.table.Table.write_text_row.Goals as goal

pub returns-in-Ok-clause-ok : goal.returns-in-Ok-clause-ok
returns-in-Ok-clause-ok g c =
    let k = table_command c.args.self.now in
    let has = has_row k c.args.text.now c.requires.short c.in-Ok.doc.now _ c.usual.ensures c.requires.full c.in-Ok.ensures.ok in
    row_written k c.args.text.now c.requires.short _ _ _ c.write_document_row.result has c.write_document_row.ensures.ok

pub returns-in-Ok-clause-err : goal.returns-in-Ok-clause-err
returns-in-Ok-clause-err g c =
    let k = table_command c.args.self.now in
    let has = has_row k c.args.text.now c.requires.short c.in-Ok.doc.now _ c.usual.ensures c.requires.full c.in-Ok.ensures.ok in
    row_failed k c.args.text.now c.requires.short _ _ _ c.write_document_row.result has c.write_document_row.ensures.err

pub returns-in-Err-clause-ok : goal.returns-in-Err-clause-ok
returns-in-Err-clause-ok g c =
    IfOk-weaker c.line_error.result _ _ (λ fault h. returns_fault (table_command c.args.self.now) c.args.text.now c.requires.short _ c.in-Err.error _ fault c.usual.ensures h.0 c.requires.full c.utf8.text c.in-Err.ensures.err h.1) c.line_error.ensures.ok

pub returns-in-Err-clause-err : goal.returns-in-Err-clause-err
returns-in-Err-clause-err g c =
    IfErr-weaker c.line_error.result _ _ (λ e h. row_unread (table_command c.args.self.now) c.args.text.now c.requires.short _ e h) c.line_error.ensures.err
