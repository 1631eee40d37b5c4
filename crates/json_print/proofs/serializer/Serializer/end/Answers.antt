use Rattle.std.proofs.lemmas.Result.{err_from_is_err_and}
use Rattle.json_print.specs.Calls.{end_call}
use Rattle.json_print.specs.Closing.{closed}
use Rattle.json_print.specs.Printer.{SerializerState, call, emptied}
use Rattle.json_print.specs.Serializing.{out_of}
use Rattle.json_print.proofs.Stopping.{exits, StopsShort-on, Steps-from, Begins-trans, call_begins, emptied_begins, emptied_calm, ended_begins, shut}
use Rattle.json_print.proofs.serializer.Serializer.end.Goals as goal

pub returns-in_err-empty : goal.returns-in_err-empty
returns-in_err-empty g c =
    let m = g.F.Formatter.form in
    let old : SerializerState g.row.F.Denot = out_of g.W.Sink.state c.args.self.now in
    let x = emptied m old c.args.kind in
    exits old _ _ _ _ _ (err_from_is_err_and c.from_residual.result c.from_residual.ensures.1)
    (StopsShort-on old _ _ _ _ c.in_err-empty.ensures.stops (Begins-trans _ _ _ (call_begins m x (end_call c.args.kind)) (ended_begins m (shut (call m x (end_call c.args.kind))))))

pub returns : goal.returns
returns g c =
    let m = g.F.Formatter.form in
    let old : SerializerState g.row.F.Denot = out_of g.W.Sink.state c.args.self.now in
    Steps-from old (emptied m old c.args.kind) _ _ (λ s. closed m s c.args.kind) _ _ (emptied_begins m old c.args.kind) (emptied_calm m old c.args.kind) c.in_ok-empty.ensures.ok c.close.ensures
