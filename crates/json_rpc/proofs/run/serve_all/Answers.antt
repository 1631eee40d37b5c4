use Rattle.std.proofs.Common.{◌∙◌, rules}
use Rattle.std.proofs.lemmas.Result.{err_from_is_err_and}
use Rattle.json_io.specs.Outside.{SinkState}
use Rattle.json_lines.proofs.SinkEnds.{same_sink}
use Rattle.json_rpc.proofs.RunResults.{stops_at_once, stopped_through}
use Rattle.json_rpc.proofs.run.serve_all.Goals as goal

pub returns-in_err-reader-clause-err : goal.returns-in_err-reader-clause-err
returns-in_err-reader-clause-err g c =
    let p = err_from_is_err_and c.from_residual.result c.from_residual.ensures.1 in
    rw (p.1, p.2) (stops_at_once _ _ _ c.in_err-reader.ensures.only)

pub returns-in_err-buffer-clause-err : goal.returns-in_err-buffer-clause-err
returns-in_err-buffer-clause-err g c =
    let p = err_from_is_err_and c.from_residual-in_err-buffer.result c.from_residual-in_err-buffer.ensures.1 in
    rw (p.1, p.2) (stops_at_once _ _ _ c.in_err-buffer.ensures.only)

-- the returned sink is the borrowed one
pub returns-clause-err : goal.returns-clause-err
returns-clause-err g c =
    let old : SinkState = g.K.Sink.state c.args.sink.now in
    let now : SinkState = g.K.Sink.state c.into_inner-sink.result.now in
    let began = c.with_buffer-writer.ensures.starts ∙ c.new-3.ensures.lent in
    let name = same_sink old now _ _ _ _ c.into_inner-sink.result.ghost_name c.into_inner.ensures.0 began c.serve_buffered-writer.ensures.loan c.into_inner.ensures.1 c.into_inner-sink.ensures.back in
    let stopped = stopped_through old now _ _ _ _ c.into_inner-sink.result.ghost_name c.into_inner.ensures.0 began c.serve_buffered-writer.ensures.loan c.into_inner.ensures.1 c.into_inner-sink.ensures.back _ _ c.serve_buffered-writer.result.1 c.serve_buffered-writer.ensures.err in
    search (rules, name, stopped)
