use Rattle.std.proofs.Common.{◌∙◌, ◌-◌, ap, refl, take}
use Rattle.std.proofs.lemmas.Result.{err_from_is_err_and}
use Rattle.json_print.specs.Calls.{end_call}
use Rattle.json_print.specs.Printer.{SerializerState, call, value_ended}
use Rattle.json_print.specs.Serializing.{out_of}
use Rattle.json_print.proofs.Stopping.{exits, StopsShort-on, Steps-from, call_begins, ended_begins, popped, shut, shut_same}
use Rattle.json_print.proofs.serializer.Serializer.close_waiting.Goals as goal

pub returns-in_err-call_waiting : goal.returns-in_err-call_waiting
returns-in_err-call_waiting g c =
    let m = g.F.Formatter.form in
    let old : SerializerState g.row.F.Denot = out_of g.W.Sink.state c.args.self.now in
    exits old _ _ _ _ _ (err_from_is_err_and c.from_residual.result c.from_residual.ensures.1)
    (StopsShort-on old _ _ _ _ c.in_err-call_waiting.ensures.stops (ended_begins m (shut (call m old (end_call c.args.kind)))))

pub returns : goal.returns
returns g c =
    let m = g.F.Formatter.form in
    let old : SerializerState g.row.F.Denot = out_of g.W.Sink.state c.args.self.now in
    Steps-from old (shut (call m old (end_call c.args.kind))) _ _ (value_ended m) _ _ (call_begins m old (end_call c.args.kind)) (refl, refl)
    (shut_same _ _ _ c.in_ok-call_waiting.ensures.ok (popped c.call_waiting.new.self.opened.items _ (c.pop.ensures.rest ∙ ap (λ n. take (n - 1) c.call_waiting.new.self.opened.items) c.call_waiting.new.self.opened.ok.0))) c.value_end.ensures
