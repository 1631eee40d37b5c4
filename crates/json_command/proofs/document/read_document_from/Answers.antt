use Rattle.std.proofs.Common.{◌∙◌, sym, subst, IsUtf8}
use Rattle.std.proofs.lemmas.Result.{err_from_is_err_and, IfOk-weaker, IfErr-weaker}
use Rattle.json_text.specs.Ruled.{rules_of}
use Rattle.json_command.proofs.Documents.{utf8_fails, text_fails, doc_reads}
use Rattle.json_command.proofs.document.read_document_from.Goals as goal

pub returns-in_err-text-clause-failed : goal.returns-in_err-text-clause-failed
returns-in_err-text-clause-failed g c =
    let p = err_from_is_err_and c.from_residual-in_err-text.result c.from_residual-in_err-text.ensures.1 in
    rw (p.1, p.2) (utf8_fails (rules_of c.args.rules) _ _ _ _ _ _ c.in_ok-bytes.ensures.bytes c.deref.ensures.value c.in_err-text.ensures.cause)

pub returns-clause-read : goal.returns-clause-read
returns-clause-read g c = IfOk-weaker c.read_document_with.result _ _ (λ d. doc_reads (rules_of c.args.rules) _ _ _ _ d.value c.in_ok-bytes.ensures.bytes (c.in_ok-text.ensures.same ∙ c.deref.ensures.value)) c.read_document_with.ensures.ok

pub returns-clause-failed : goal.returns-clause-failed
returns-clause-failed g c =
    IfErr-weaker c.read_document_with.result _ _ (λ e. text_fails (rules_of c.args.rules) _ _ _ _ e.code e.place c.in_ok-bytes.ensures.bytes (c.in_ok-text.ensures.same ∙ c.deref.ensures.value) (subst IsUtf8 (sym c.in_ok-text.ensures.same) c.in_ok-text.ensures.valid)) c.read_document_with.ensures.err
