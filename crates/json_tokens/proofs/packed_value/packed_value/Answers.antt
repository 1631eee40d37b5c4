use Rattle.std.proofs.Common.{◌≡◌, ◌∙◌, Result, Ok, Err, ap, sym, subst}
use Rattle.std.proofs.lemmas.Result.{IfOk-weaker}
use Rattle.std.specs.Result.{IsErrAnd, IfErr}
use Rattle.json_grammar.specs.Tree.{Tree}
use Rattle.json_io.specs.declared.error.Error.{Error}
use Rattle.json_doc.specs.Docs.{doc_tree, doc_root}
use Rattle.json_doc.specs.OneValue.{ReadsValue}
use Rattle.json_value.specs.Positions.{read_position}
use Rattle.json_tokens.specs.Text.{TextFails}
use Rattle.json_tokens.specs.TextValues.{IsPackedAtRoot}
use Rattle.json_tokens.proofs.TextValues.{value_fails, root_is}
use Rattle.json_tokens.proofs.packed_value.packed_value.Goals as goal

err_is : {X : Type 0} (r : Result X Error) (e : Error) (P : Error → Type 0) → IsErrAnd r (λ x. x ≡ e) → P e → IfErr r P
err_is (Ok x) e P h p = tt
err_is (Err x) e P h p = subst P (sym h) p

pub returns-in_err-doc-clause-err : goal.returns-in_err-doc-clause-err
returns-in_err-doc-clause-err c =
    let e = c.in_err-doc.field-0.0 in
    err_is c.from_residual.result e (TextFails c.read_following_value.new.parser) c.from_residual.ensures.1 (value_fails c.read_following_value.new.parser e c.in_err-doc.ensures.err)

pub returns-clause-ok : goal.returns-clause-ok
returns-clause-ok c =
    let d = c.in_ok-doc.doc.value in
    let r = c.in_ok-doc.ensures.ok in
    let e : doc_tree d c.root.result ≡ r.0 = ap (doc_tree d) (c.root.ensures.place ∙ ap doc_root c.deref.ensures) ∙ root_is d r.0 r.2 in
    IfOk-weaker c.from_place.result _ _
    (λ v h. subst (λ (t : Tree). ReadsValue c.args.parser.now c.args.first t c.read_following_value.new.parser) (sym (h ∙ e)) r.1) c.from_place.ensures.tree

pub returns-clause-place : goal.returns-clause-place
returns-clause-place c =
    let d = c.in_ok-doc.doc.value in
    IfOk-weaker c.from_place.result _ IsPackedAtRoot
    (λ v h. (d, h ∙ ap (read_position d) (c.root.ensures.place ∙ ap doc_root c.deref.ensures))) c.from_place.ensures.position
