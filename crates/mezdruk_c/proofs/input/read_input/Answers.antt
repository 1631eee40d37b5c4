use Rattle.std.proofs.Common.{◌≤◌, length, arith}
use Rattle.std.proofs.lemmas.Result.{err_from_is_err_and, IfOk-weaker, IfErr-weaker}
use Rattle.json_command.specs.Input.{max_bytes}
use Rattle.json_text.specs.Ruled.{rules_of}
use Rattle.mezdruk_c.proofs.ReadTexts.{text_read, text_large, text_not_utf8, text_not_read}
use Rattle.mezdruk_c.proofs.input.read_input.Goals as goal

pub returns-then-text-gt-MAX_BYTES-clause-failed : goal.returns-then-text-gt-MAX_BYTES-clause-failed
returns-then-text-gt-MAX_BYTES-clause-failed c = text_large (rules_of c.args.rules) c.args.text.now (omega (arith, c.if-text-gt-MAX_BYTES.true))

pub returns-in_err-text-clause-failed : goal.returns-in_err-text-clause-failed
returns-in_err-text-clause-failed c =
    let short : length c.args.text.now ≤ max_bytes = omega (arith, c.if-text-gt-MAX_BYTES.false) in
    let p = err_from_is_err_and c.from_residual.result c.from_residual.ensures.1 in
    rw (p.1, p.2) (text_not_utf8 (rules_of c.args.rules) c.args.text.now _ _ short c.in_err-text.ensures.cause)

pub returns-clause-ok : goal.returns-clause-ok
returns-clause-ok c =
    let short : length c.args.text.now ≤ max_bytes = omega (arith, c.if-text-gt-MAX_BYTES.false) in
    IfOk-weaker c.read_document_with.result _ _ (λ d. text_read (rules_of c.args.rules) c.args.text.now _ d.value short c.in_ok-text.ensures.same) c.read_document_with.ensures.ok

pub returns-clause-failed : goal.returns-clause-failed
returns-clause-failed c =
    let short : length c.args.text.now ≤ max_bytes = omega (arith, c.if-text-gt-MAX_BYTES.false) in
    IfErr-weaker c.read_document_with.result _ _ (λ e. text_not_read (rules_of c.args.rules) c.args.text.now _ e.code e.place short c.in_ok-text.ensures.same c.in_ok-text.ensures.valid) c.read_document_with.ensures.err
