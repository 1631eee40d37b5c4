use Rattle.std.proofs.Common.{◌≤◌, length, arith}
use Rattle.std.proofs.lemmas.Result.{IfOk-weaker, IfErr-weaker}
use Rattle.json_text.specs.Ruled.{rules_of}
use Rattle.json_command.specs.Input.{max_bytes, too_large}
use Rattle.mezdruk_files.proofs.ReadBytes.{utf8_fails, text_fails, document_read}
use Rattle.mezdruk_files.proofs.document.read_bytes.Goals as goal

pub returns-then-bytes-gt-MAX_BYTES-clause-err : goal.returns-then-bytes-gt-MAX_BYTES-clause-err
returns-then-bytes-gt-MAX_BYTES-clause-err c = too_large (omega (arith, c.if-bytes-gt-MAX_BYTES.true))

pub returns-in-Ok-clause-ok : goal.returns-in-Ok-clause-ok
returns-in-Ok-clause-ok c =
    let short : length c.args.bytes.now ≤ max_bytes = omega (arith, c.if-bytes-gt-MAX_BYTES.false) in
    IfOk-weaker c.read_document_with.result _ _ (λ d. document_read (rules_of c.args.rules) c.args.bytes.now short _ d.value c.in-Ok.ensures.same) c.read_document_with.ensures.ok

pub returns-in-Ok-clause-err : goal.returns-in-Ok-clause-err
returns-in-Ok-clause-err c =
    let short : length c.args.bytes.now ≤ max_bytes = omega (arith, c.if-bytes-gt-MAX_BYTES.false) in
    IfErr-weaker c.read_document_with.result _ _ (λ e. text_fails (rules_of c.args.rules) c.args.bytes.now short _ e.code e.place c.in-Ok.ensures.same c.in-Ok.ensures.valid) c.read_document_with.ensures.err

pub returns-in-Err-clause-err : goal.returns-in-Err-clause-err
returns-in-Err-clause-err c =
    let short : length c.args.bytes.now ≤ max_bytes = omega (arith, c.if-bytes-gt-MAX_BYTES.false) in
    utf8_fails (rules_of c.args.rules) c.args.bytes.now short c.in-Err.error.code c.in-Err.error.place c.in-Err.ensures.cause
