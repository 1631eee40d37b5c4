use Rattle.std.proofs.Common.{[], ◌∷◌, ◌++◌, ◌≡◌, ◌+◌, Result, Ok, Err, None, false, refl, sym, subst, arith}
use Rattle.std.specs.Result.{IsErrAnd, IfErr}
use Rattle.json_grammar.specs.declared.ExpectedPart.TheVariants.{Value as at_value}
use Rattle.json_grammar.specs.Tree.{tokens}
use Rattle.json_io.specs.declared.error.Error.{Error}
use Rattle.json_text.specs.Parsing.{state_of}
use Rattle.json_text.specs.Ruled.{rules_of}
use Rattle.json_text.specs.Readers.{ReaderAt}
use Rattle.json_text.proofs.ReaderSteps.{stood_start}
use Rattle.json_doc.specs.Reading.{ReadingFailsWith, RefusesName}
use Rattle.json_doc.specs.Recorded.{Holds}
use Rattle.json_doc.specs.declared.document_visitor.DocumentVisitor.{DocumentVisitor}
use Rattle.json_doc.proofs.Keeping.{keeps_start, differ_start, next_token, next_begins, next_behind, goes_forward, next_fits, keeps_on, keeps_end, refused_fails, repeated_fails}
use Rattle.json_doc.proofs.Stepping.{stepped, ended, due_in}
use Rattle.json_doc.proofs.reader.read_by.Goals as goal

pub events-init : goal.events-init
events-init c =
    let v = c.args.builder in
    let q = c.requires in
    let b = c.args.text.now in
    let n = c.depth-limit.result in
    let r = rules_of c.args.rules in
    let stood = subst (λ k. ReaderAt false n b 0 k at_value []) (sym c.new-kinds.ensures) (stood_start false n b) in
    ([], keeps_start r.limit (state_of b 0 false n 0 c.new-kinds.result at_value None) v b refl refl c.depth-limit.ensures.depth refl stood refl q.room q.held, differ_start r c.new-keys.result c.new-keys.ensures, omega arith)

pub returns-in-Err-clause-err : goal.returns-in-Err-clause-err
returns-in-Err-clause-err c =
    let k = c.events.invariant in let f = c.in-Err.fault in let l = c.events in let b = c.args.text.now in
    let n = c.depth-limit.result in
    subst (λ (e : Error). ReadingFailsWith (rules_of c.args.rules) b e.code e.place) (sym c.error_in.ensures)
    (refused_fails (rules_of c.args.rules) (state_of b 0 false n l.at l.kinds l.expected None) l.visitor l.keys b k.0 _ k.1 k.2
    (due_in b n l.at l.kinds l.expected f.code f.offset c.in-Err.ensures.err c.in-Err.ensures.needs))

pub advance_by_expected-requires-clause-kept : goal.advance_by_expected-requires-clause-kept
advance_by_expected-requires-clause-kept c = record { most = (rules_of c.args.rules).limit; so_far = c.events.invariant.0; kept = c.events.invariant.1 }

pub check_names-requires-clause-some : goal.check_names-requires-clause-some
check_names-requires-clause-some c u = (_, (c.events.invariant.2 u).1)

pub check_names-requires-clause-means : goal.check_names-requires-clause-means
check_names-requires-clause-means c =
    let l = c.events in let r = c.in-Ok.read in let s = stepped c.args.text.now c.depth-limit.result l.at r.end l.kinds c.advance_by_expected.new.kinds l.expected r.expected r.event c.in-Ok.ensures.ok c.in-Ok.ensures.tight in
    let next = next_token c.events.invariant.1 c.in_default.not-End s.goes s.tight s.same in
    (next.0, next.1)

pub check_names-requires-clause-begins : goal.check_names-requires-clause-begins
check_names-requires-clause-begins c =
    let l = c.events in let r = c.in-Ok.read in let s = stepped c.args.text.now c.depth-limit.result l.at r.end l.kinds c.advance_by_expected.new.kinds l.expected r.expected r.event c.in-Ok.ensures.ok c.in-Ok.ensures.tight in
    let behind = next_behind c.events.invariant.1 c.in_default.not-End s.goes s.tight s.same in
    omega (arith, behind)

pub check_names-requires-clause-within : goal.check_names-requires-clause-within
check_names-requires-clause-within c =
    let l = c.events in let r = c.in-Ok.read in let s = stepped c.args.text.now c.depth-limit.result l.at r.end l.kinds c.advance_by_expected.new.kinds l.expected r.expected r.event c.in-Ok.ensures.ok c.in-Ok.ensures.tight in
    let on = goes_forward c.events.invariant.1 c.in_default.not-End s.goes s.tight s.same in
    omega (arith, on.1)

pub events-preserved : goal.events-preserved
events-preserved c =
    let k = c.events.invariant in
    let l = c.events in let r = c.in-Ok.read in let s = stepped c.args.text.now c.depth-limit.result l.at r.end l.kinds c.advance_by_expected.new.kinds l.expected r.expected r.event c.in-Ok.ensures.ok c.in-Ok.ensures.tight in
    let next = next_token k.1 c.in_default.not-End s.goes s.tight s.same in
    let begins = next_begins k.1 c.in_default.not-End s.goes s.tight s.same in
    let fits = next_fits k.1 c.in_default.not-End s.goes s.tight s.same in
    let on = goes_forward k.1 c.in_default.not-End s.goes s.tight s.same in
    let f = c.in-Ok.ensures in (
      k.0 ++ next.0 ∷ [],
      keeps_on k.1 c.in_default.not-End s.goes s.tight s.same c.advance_by_expected.new.visitor (f.recorded next.0 k.0 next.1 k.1.follows begins fits) (f.room next.0 next.1) refl,
      c.in_ok-check_names-in_default.ensures.ok next.0 k.0 next.1 k.2,
      omega (arith, on.1),
    )

err_is : {X : Type 0} (r : Result X Error) (e : Error) (P : Error → Type 0) → IsErrAnd r (λ x. x ≡ e) → P e → IfErr r P
err_is (Ok x) e P h p = tt
err_is (Err x) e P h p = subst P (sym h) p

pub returns-in_err-check_names-in_default-clause-err : goal.returns-in_err-check_names-in_default-clause-err
returns-in_err-check_names-in_default-clause-err c =
    let k = c.events.invariant in
    let l = c.events in let r = c.in-Ok.read in let s = stepped c.args.text.now c.depth-limit.result l.at r.end l.kinds c.advance_by_expected.new.kinds l.expected r.expected r.event c.in-Ok.ensures.ok c.in-Ok.ensures.tight in
    let e = c.in_err-check_names-in_default.field-0.0 in
    let h = c.in_err-check_names-in_default.ensures.err in
    let zeroth : r.end ≡ 0 + r.end = omega arith in
    err_is c.from_residual.result e _ c.from_residual.ensures.1
    (repeated_fails (rules_of c.args.rules) _ _ l.visitor l.keys c.args.text.now k.0 r.event e h.0 k.1 k.2 s.goes s.tight s.same (subst (λ j. RefusesName l.keys r.event c.args.text.now j e) zeroth h.1))

pub into_doc-requires : goal.into_doc-requires
into_doc-requires c =
    let k = c.events.invariant in
    let l = c.events in let r = c.in-Ok.read in let s = stepped c.args.text.now c.depth-limit.result l.at r.end l.kinds c.advance_by_expected.new.kinds l.expected r.expected r.event c.in-Ok.ensures.ok c.in-Ok.ensures.tight in
    let at_end = ended _ _ r.event c.in-End.is s.goes in
    let t = keeps_end (rules_of c.args.rules) _ _ l.visitor l.keys c.args.text.now k.0 k.1 k.2 at_end in
    (t.0, subst (λ (v : DocumentVisitor). Holds v (tokens t.0)) (sym (c.in-Ok.ensures.at_end c.in-End.is)) t.3)

pub returns-clause-ok : goal.returns-clause-ok
returns-clause-ok c =
    let k = c.events.invariant in
    let l = c.events in let r = c.in-Ok.read in let s = stepped c.args.text.now c.depth-limit.result l.at r.end l.kinds c.advance_by_expected.new.kinds l.expected r.expected r.event c.in-Ok.ensures.ok c.in-Ok.ensures.tight in
    let at_end = ended _ _ r.event c.in-End.is s.goes in
    let t = keeps_end (rules_of c.args.rules) _ _ l.visitor l.keys c.args.text.now k.0 k.1 k.2 at_end in
    (t.0, t.1, t.2, c.into_doc.ensures t.0 (subst (λ (v : DocumentVisitor). Holds v (tokens t.0)) (sym (c.in-Ok.ensures.at_end c.in-End.is)) t.3))
