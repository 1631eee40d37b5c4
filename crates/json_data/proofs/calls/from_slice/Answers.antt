use Rattle.std.proofs.Common.{List, ℕ, subst}
use Rattle.std.specs.Result.{IfErr}
use Rattle.json_data.specs.Calls.{TypedReadingFails}
use Rattle.json_data.proofs.Complete.{complete, unread}
use Rattle.json_data.proofs.TextCalls.{err_is}
use Rattle.json_data.proofs.calls.from_slice.Goals as goal

pub returns-in_err-text-clause-complete : goal.returns-in_err-text-clause-complete
returns-in_err-text-clause-complete g c =
    let f = g.T.DeserializeFrom.from_tree in
    let e = c.in_err-text.field-0.0 in
    complete 254 f c.args.json.now c.from_residual.result (err_is c.from_residual.result e _ c.from_residual.ensures.1 (unread 254 f c.args.json.now e.code e.place c.in_err-text.ensures.cause))

pub returns-clause-complete : goal.returns-clause-complete
returns-clause-complete g c =
    let f = g.T.DeserializeFrom.from_tree in
    complete 254 f c.args.json.now c.read_text.result (subst (λ (b : List ℕ). IfErr c.read_text.result (λ e. TypedReadingFails 254 f b e.code e.place)) c.in_ok-text.ensures.same c.read_text.ensures.err)
