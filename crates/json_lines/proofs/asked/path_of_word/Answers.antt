use Rattle.std.proofs.Common.{sym, ap, ◌∙◌}
use Rattle.std.proofs.lemmas.Result.{err_from_is_err_and}
use Rattle.json_doc.specs.Docs.{doc_root, doc_tree}
use Rattle.json_value.specs.EditTrees.{path_in}
use Rattle.json_lines.proofs.WordsSpelled.{spells, unread_argument, unread_word}
use Rattle.json_lines.proofs.asked.path_of_word.Goals as goal

pub returns-in_err-doc-clause-err : goal.returns-in_err-doc-clause-err
returns-in_err-doc-clause-err c =
    let p = err_from_is_err_and c.from_residual.result c.from_residual.ensures.1 in
    rw (p.1, p.2) (unread_argument path_in c.args.word.now _ c.in_err-doc.ensures.err)

pub returns-in-Ok-clause-ok : goal.returns-in-Ok-clause-ok
returns-in-Ok-clause-ok c =
    let d = c.in_ok-doc.doc.value in
    let same = c.packed.ensures.tree ∙ c.view.ensures.tree ∙ ap (λ e. doc_tree e (doc_root e)) c.deref.ensures in
    spells path_in c.args.word.now (doc_tree d (doc_root d)) _ c.in_ok-doc.ensures.ok (sym (ap path_in same) ∙ c.in-Ok.ensures.ok)

pub returns-clause-err : goal.returns-clause-err
returns-clause-err c =
    let d = c.in_ok-doc.doc.value in
    let same = c.packed.ensures.tree ∙ c.view.ensures.tree ∙ ap (λ e. doc_tree e (doc_root e)) c.deref.ensures in
    unread_word path_in c.args.word.now (doc_tree d (doc_root d)) c.in-Err.error c.arguments_error.result c.in_ok-doc.ensures.ok (rw (← same) c.in-Err.ensures.err) c.arguments_error.ensures.either
