use Rattle.std.proofs.Common.{◌∙◌, sym, ap}
use Rattle.json_io.specs.declared.error.Error.{Error}
use Rattle.json_tokens.specs.Refusals.{is_refusal}
use Rattle.json_explain.proofs.Texts.{plain_error, unrefused_explained, placed_explained}
use Rattle.json_explain.proofs.calls.explained.Goals as goal

pub returns-then-not-is_refusal-clause-explained : goal.returns-then-not-is_refusal-clause-explained
returns-then-not-is_refusal-clause-explained g c = λ h.
    let e = c.plain.ensures in
    plain_error c.args.depth g.T.Explain.refused c.args.text.now c.plain.result c.args.error e.error e.refusal e.place (sym c.is_refusal.ensures ∙ c.if-not-is_refusal.true)

pub returns-in-Ok-Some-clause-explained : goal.returns-in-Ok-Some-clause-explained
returns-in-Ok-Some-clause-explained g c = λ h.
    let e = c.explained_at.ensures in
    let i = sym c.is_refusal.ensures ∙ c.if-not-is_refusal.false in
    placed_explained c.args.depth g.T.Explain.refused c.args.text.now c.explained_at.result c.args.error c.in-Ok-Some.refusal e.error e.refusal i (h i) (rw c.in-Ok-Some.field-0-is at c.in-Ok-Some.ensures) e.place

pub returns-in-Ok-None-clause-explained : goal.returns-in-Ok-None-clause-explained
returns-in-Ok-None-clause-explained g c = λ h.
    let e = c.plain-in-Ok-None.ensures in
    let i = sym c.is_refusal.ensures ∙ c.if-not-is_refusal.false in
    unrefused_explained c.args.depth g.T.Explain.refused c.args.text.now c.plain-in-Ok-None.result c.args.error e.error e.refusal e.place (h i) (rw c.in-Ok-None.field-0-is at c.in-Ok-None.ensures)

pub returns-in-Err-clause-explained : goal.returns-in-Err-clause-explained
returns-in-Err-clause-explained g c = λ h.
    let e = c.plain-in-Err.ensures in
    plain_error c.args.depth g.T.Explain.refused c.args.text.now c.plain-in-Err.result c.error_without_place.result e.error e.refusal e.place (ap (λ (x : Error). is_refusal x.code) c.error_without_place.ensures)
