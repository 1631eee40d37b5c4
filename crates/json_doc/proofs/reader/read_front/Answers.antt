use Rattle.std.proofs.Common.{◌≡◌, Result, Ok, Err, refl, sym, subst, ap, inr}
use Rattle.std.proofs.lemmas.Result.{IfOk-weaker}
use Rattle.std.specs.Result.{IsErrAnd, IfErr}
use Rattle.json_io.specs.declared.error.Error.{Error}
use Rattle.json_text.specs.Parsing.{ParserState}
use Rattle.json_doc.proofs.Fronts.{fresh_not_whole, first_out, front_read, front_whole, front_kept, front_fails, front_gives_up}
use Rattle.json_doc.proofs.reader.read_front.Goals as goal

pub record_value-requires-clause-first : goal.record_value-requires-clause-first
record_value-requires-clause-first c =
    let n = c.in_ok-first.ensures in
    first_out c.args.parser.now c.next.new.self c.in_ok-first.first c.requires n.whole n.ok.2 n.ok.1

err_is : {X : Type 0} (r : Result X Error) (e : Error) (P : Error → Type 0) → IsErrAnd r (λ x. x ≡ e) → P e → IfErr r P
err_is (Ok x) e P h p = tt
err_is (Err x) e P h p = subst P (sym h) p

pub returns-in_err-first-clause-err : goal.returns-in_err-first-clause-err
returns-in_err-first-clause-err c =
    let p = c.args.parser.now in
    let e = c.in_err-first.field-0.0 in
    err_is c.from_residual-in_err-first.result e _ c.from_residual-in_err-first.ensures.1
    (front_fails p p e.code e.place (record { text = refl; start = refl; limit = refl; lossy = refl }) (c.in_err-first.ensures.in_value (fresh_not_whole p c.requires)))

pub finish-requires : goal.finish-requires
finish-requires c =
    let h = c.in_ok-record_value.ensures.ok in
    (h.0, h.2)

pub returns-in_err-record_value-clause-err : goal.returns-in_err-record_value-clause-err
returns-in_err-record_value-clause-err c =
    let e = c.in_err-record_value.field-0.0 in
    err_is c.from_residual-in_err-record_value.result e _ c.from_residual-in_err-record_value.ensures.1
    (front_gives_up c.args.parser.now c.next.new.self c.record_value.new.parser e c.in_ok-first.ensures.same c.in_err-record_value.ensures.same c.in_err-record_value.ensures.err)

pub returns-clause-ok : goal.returns-clause-ok
returns-clause-ok c =
    let n = c.in_ok-first.ensures in
    let r = c.in_ok-record_value.ensures in
    let t = front_read c.args.parser.now c.next.new.self c.record_value.new.parser c.in_ok-first.first c.record_value.new.visitor c.requires n.whole n.ok.2 n.same r.same n.reads r.whole r.ok in
    IfOk-weaker c.finish.result _ _ (λ d h. (t.0, t.1, t.2, h t.0 t.3)) c.finish.ensures.ok

pub returns-clause-done : goal.returns-clause-done
returns-clause-done c =
    let n = c.in_ok-first.ensures in
    IfOk-weaker c.finish.result _ _ (λ d h. front_whole c.args.parser.now c.next.new.self c.record_value.new.parser c.in_ok-first.first c.record_value.new.visitor c.requires n.whole n.ok.2 c.in_ok-record_value.ensures.ok) c.finish.ensures.ok

pub returns-in_err-first-clause-kept : goal.returns-in_err-first-clause-kept
returns-in_err-first-clause-kept c =
    let e = c.in_err-first.field-0.0 in
    err_is c.from_residual-in_err-first.result e _ c.from_residual-in_err-first.ensures.1
    (inr (ap (λ (s : ParserState). s.failure) c.in_err-first.ensures.err.kept))

pub returns-in_err-record_value-clause-kept : goal.returns-in_err-record_value-clause-kept
returns-in_err-record_value-clause-kept c =
    let e = c.in_err-record_value.field-0.0 in
    err_is c.from_residual-in_err-record_value.result e _ c.from_residual-in_err-record_value.ensures.1
    (front_kept c.record_value.new.parser e c.in_err-record_value.ensures.err)
