use Rattle.std.proofs.Common.{◌≡◌, ◌∙◌, true, sym}
use Rattle.json_tokens.specs.Refusals.{is_refusal}
use Rattle.json_data.specs.Calls.{ValueBegins}
use Rattle.json_data.proofs.TextCalls.{same_text, read_whole, text_fails, failed_fails, refused_fails, value_begins, err_is}
use Rattle.json_data.proofs.calls.read_text.Goals as goal

pub returns-in_ok-finish-in-Ok-clause-ok : goal.returns-in_ok-finish-in-Ok-clause-ok
returns-in_ok-finish-in-Ok-clause-ok g c =
    let n = c.depth-tokens in
    let r = c.in-Ok.ensures.ok in
    let m = c.deserialize.new.tokens in
    let e = same_text c.args.depth c.args.text.now n.result m (n.ensures.text ∙ c.new.ensures.text) (n.ensures.start.0 ∙ c.new.ensures.start.0, n.ensures.start.1) (n.ensures.mode ∙ c.new.ensures.strict) r.takes.moves.input in
    read_whole c.args.depth g.T.DeserializeFrom.from_tree c.args.text.now n.result m r.tree _ e n.ensures.fresh.taken r.takes c.in_ok-finish-in-Ok.ensures.ok r.answer

pub returns-in_err-finish-in-Ok-clause-err : goal.returns-in_err-finish-in-Ok-clause-err
returns-in_err-finish-in-Ok-clause-err g c =
    let n = c.depth-tokens in
    let r = c.in-Ok.ensures.ok in
    let m = c.deserialize.new.tokens in
    let e = same_text c.args.depth c.args.text.now n.result m (n.ensures.text ∙ c.new.ensures.text) (n.ensures.start.0 ∙ c.new.ensures.start.0, n.ensures.start.1) (n.ensures.mode ∙ c.new.ensures.strict) r.takes.moves.input in
    let x = c.in_err-finish-in-Ok.field-0.0 in
    err_is c.from_residual.result x _ c.from_residual.ensures.1 (text_fails c.args.depth g.T.DeserializeFrom.from_tree c.args.text.now m x.code x.place e c.utf8.text c.in_err-finish-in-Ok.ensures.err)

pub returns-then-not-is_refusal-clause-err : goal.returns-then-not-is_refusal-clause-err
returns-then-not-is_refusal-clause-err g c =
    let n = c.depth-tokens in
    let m = c.deserialize.new.tokens in
    let x = c.in-Err.error in
    let u = c.in-Err.ensures.err.gave_up (sym c.is_refusal.ensures ∙ c.if-not-is_refusal.true) in
    failed_fails c.args.depth g.T.DeserializeFrom.from_tree c.args.text.now m x (same_text c.args.depth c.args.text.now n.result m (n.ensures.text ∙ c.new.ensures.text) (n.ensures.start.0 ∙ c.new.ensures.start.0, n.ensures.start.1) (n.ensures.mode ∙ c.new.ensures.strict) u.input) c.utf8.text u.cause c.failure-failure.ensures.cause

pub returns-in_err-finish-in-Err-clause-err : goal.returns-in_err-finish-in-Err-clause-err
returns-in_err-finish-in-Err-clause-err g c =
    let n = c.depth-tokens in
    let m = c.deserialize.new.tokens in
    let r = (c.in-Err.ensures.err.refused (sym c.is_refusal.ensures ∙ c.if-not-is_refusal.false)).1 in
    let e = same_text c.args.depth c.args.text.now n.result m (n.ensures.text ∙ c.new.ensures.text) (n.ensures.start.0 ∙ c.new.ensures.start.0, n.ensures.start.1) (n.ensures.mode ∙ c.new.ensures.strict) r.takes.moves.input in
    let x = c.in_err-finish-in-Err.field-0.0 in
    err_is c.from_residual-in_err-finish-in-Err.result x _ c.from_residual-in_err-finish-in-Err.ensures.1 (text_fails c.args.depth g.T.DeserializeFrom.from_tree c.args.text.now m x.code x.place e c.utf8.text c.in_err-finish-in-Err.ensures.err)

pub returns-in_ok-finish-in-Err-clause-err : goal.returns-in_ok-finish-in-Err-clause-err
returns-in_ok-finish-in-Err-clause-err g c =
    let n = c.depth-tokens in
    let m = c.deserialize.new.tokens in
    let b = c.args.text.now in
    let x = c.in-Err.error in
    let q : is_refusal x.code ≡ true = sym c.is_refusal.ensures ∙ c.if-not-is_refusal.false in
    let r = (c.in-Err.ensures.err.refused q).1 in
    let e = same_text c.args.depth b n.result m (n.ensures.text ∙ c.new.ensures.text) (n.ensures.start.0 ∙ c.new.ensures.start.0, n.ensures.start.1) (n.ensures.mode ∙ c.new.ensures.strict) r.takes.moves.input in
    let f = g.T.DeserializeFrom.from_tree in
    let w = c.ws_run-begin.ensures.ends in
    let v : ValueBegins b c.place_of.result = value_begins c.as_bytes.result.now c.as_bytes-in-Err.result.now b c.ws_run-begin.result c.place_of.result c.as_bytes.ensures.value c.as_bytes-in-Err.ensures.value w.run w.stop c.place_of.ensures in
    refused_fails c.args.depth f b x.code c.place_of.result q (read_whole c.args.depth f b n.result m r.tree _ e n.ensures.fresh.taken r.takes c.in_ok-finish-in-Err.ensures.ok r.answer) v
