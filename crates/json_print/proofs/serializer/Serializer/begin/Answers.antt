use Rattle.std.proofs.Common.{◌∙◌, ap}
use Rattle.std.proofs.lemmas.Result.{err_from_is_err_and}
use Rattle.json_print.specs.Calls.{begin_call}
use Rattle.json_print.specs.Printer.{SerializerState, call, opened_up, value_begun}
use Rattle.json_print.specs.Serializing.{out_of}
use Rattle.json_print.proofs.Stopping.{exits, StopsShort-on, StopsShort-step, Steps-from, Begins-refl, call_begins, begun_begins, begun_calm, begin_called}
use Rattle.json_print.proofs.serializer.Serializer.begin.Goals as goal

pub returns-in_err-value_begin_straight : goal.returns-in_err-value_begin_straight
returns-in_err-value_begin_straight g c =
    let m = g.F.Formatter.form in
    let old : SerializerState g.row.F.Denot = out_of g.W.Sink.state c.args.self.now in
    exits old _ _ _ _ _ (err_from_is_err_and c.from_residual.result c.from_residual.ensures.1)
    (StopsShort-on old _ _ _ _ c.in_err-value_begin_straight.ensures.steps.stops (call_begins m (value_begun m old) (begin_call c.args.kind)))

pub returns-in_err-begin_straight : goal.returns-in_err-begin_straight
returns-in_err-begin_straight g c =
    let m = g.F.Formatter.form in
    let old : SerializerState g.row.F.Denot = out_of g.W.Sink.state c.args.self.now in
    exits old _ _ _ _ _ (err_from_is_err_and c.from_residual-in_err-begin_straight.result c.from_residual-in_err-begin_straight.ensures.1)
    (StopsShort-step old (value_begun m old) _ _ _ (λ s. call m s (begin_call c.args.kind)) _ _ (begun_begins m old) (begun_calm m old) c.in_ok-value_begin_straight.ensures.steps.ok c.in_err-begin_straight.ensures (Begins-refl _))

pub returns : goal.returns
returns g c =
    let m = g.F.Formatter.form in
    let old : SerializerState g.row.F.Denot = out_of g.W.Sink.state c.args.self.now in
    Steps-from old (call m (value_begun m old) (begin_call c.args.kind)) _ _ (λ s. opened_up s c.args.kind) _ _ (begin_called m old (begin_call c.args.kind)) (begun_calm m old)
    (c.in_ok-begin_straight.ensures.ok ∙ ap (λ (s : SerializerState g.row.F.Denot). call m s (begin_call c.args.kind)) c.in_ok-value_begin_straight.ensures.steps.ok) c.open.ensures
