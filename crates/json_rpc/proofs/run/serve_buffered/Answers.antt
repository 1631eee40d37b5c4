use Rattle.std.proofs.Common.{drop, take}
use Rattle.json_layout.specs.Buffered.{held_after}
use Rattle.json_rpc.specs.Denoted.{serving_state}
use Rattle.json_rpc.proofs.RunResults.{fresh_run, flushed_ok, flushed_err, loop_stops}
use Rattle.json_rpc.proofs.run.serve_buffered.Goals as goal

pub returns-in-Ok-clause-err : goal.returns-in-Ok-clause-err
returns-in-Ok-clause-err g c =
    let w = c.args.writer in
    let n = c.serve_lines.new in
    flushed_err (serving_state c.args.reader (g.S.Source.state c.args.source.now) (held_after (g.W.Sink.state w.inner) (drop w.sent (take w.end w.buffer.items))) c.new-service.result)
    (serving_state n.reader (g.S.Source.state n.source) (held_after (g.W.Sink.state n.out.inner) (drop n.out.sent (take n.out.end n.out.buffer.items))) n.service) _ _ c.new-service.ensures c.in-Ok.ensures.ok c.flush_all-flushed.ensures

pub returns-in-Ok-clause-ok : goal.returns-in-Ok-clause-ok
returns-in-Ok-clause-ok g c =
    let w = c.args.writer in
    let n = c.serve_lines.new in
    let a = serving_state c.args.reader (g.S.Source.state c.args.source.now) (held_after (g.W.Sink.state w.inner) (drop w.sent (take w.end w.buffer.items))) c.new-service.result in
    flushed_ok a (serving_state n.reader (g.S.Source.state n.source) (held_after (g.W.Sink.state n.out.inner) (drop n.out.sent (take n.out.end n.out.buffer.items))) n.service) _ _ (fresh_run a c.requires) c.new-service.ensures c.in-Ok.ensures.ok
    c.flush_all-flushed.ensures

pub returns-clause-err : goal.returns-clause-err
returns-clause-err g c =
    let w = c.args.writer in
    let n = c.serve_lines.new in
    let a = serving_state c.args.reader (g.S.Source.state c.args.source.now) (held_after (g.W.Sink.state w.inner) (drop w.sent (take w.end w.buffer.items))) c.new-service.result in
    loop_stops a (serving_state n.reader (g.S.Source.state n.source) (held_after (g.W.Sink.state n.out.inner) (drop n.out.sent (take n.out.end n.out.buffer.items))) n.service) c.in-Err.error (fresh_run a c.requires) c.new-service.ensures c.in-Err.ensures.err
