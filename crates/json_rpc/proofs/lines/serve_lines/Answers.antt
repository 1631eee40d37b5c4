use Rattle.std.proofs.Common.{drop, take, subst}
use Rattle.json_layout.specs.Buffered.{held_after}
use Rattle.json_rpc.specs.Denoted.{serving_state}
use Rattle.json_rpc.specs.Steps.{ServingStepResult}
use Rattle.json_rpc.proofs.ServedLines.{ServedLines-start, ServedLines-more, ServedLines-smaller, FinishesServing-from, StopsServing-from}
use Rattle.json_rpc.proofs.lines.serve_lines.Goals as goal

pub line-init : goal.line-init
line-init g c = ServedLines-start _ c.requires

pub line-smaller : goal.line-smaller
line-smaller g c =
    let a = serving_state c.args.reader.now (g.S.Source.state c.args.source.now) (held_after (g.W.Sink.state c.args.out.now.inner) (drop c.args.out.now.sent (take c.args.out.now.end c.args.out.now.buffer.items))) c.args.service.now in
    let b = serving_state c.line.reader (g.S.Source.state c.line.source) (held_after (g.W.Sink.state c.line.out.inner) (drop c.line.out.sent (take c.line.out.end c.line.out.buffer.items))) c.line.service in
    let n = serving_state c.serve_next_line.new.reader (g.S.Source.state c.serve_next_line.new.source) (held_after (g.W.Sink.state c.serve_next_line.new.out.inner) (drop c.serve_next_line.new.out.sent (take c.serve_next_line.new.out.end c.serve_next_line.new.out.buffer.items))) c.serve_next_line.new.service in
    ServedLines-smaller a b n c.line.invariant (subst (ServingStepResult b n) c.in-Ok-true.field-0-test c.in-Ok-true.ensures.ok)

pub line-preserved : goal.line-preserved
line-preserved g c =
    let a = serving_state c.args.reader.now (g.S.Source.state c.args.source.now) (held_after (g.W.Sink.state c.args.out.now.inner) (drop c.args.out.now.sent (take c.args.out.now.end c.args.out.now.buffer.items))) c.args.service.now in
    let b = serving_state c.line.reader (g.S.Source.state c.line.source) (held_after (g.W.Sink.state c.line.out.inner) (drop c.line.out.sent (take c.line.out.end c.line.out.buffer.items))) c.line.service in
    let n = serving_state c.serve_next_line.new.reader (g.S.Source.state c.serve_next_line.new.source) (held_after (g.W.Sink.state c.serve_next_line.new.out.inner) (drop c.serve_next_line.new.out.sent (take c.serve_next_line.new.out.end c.serve_next_line.new.out.buffer.items))) c.serve_next_line.new.service in
    ServedLines-more a b n c.line.invariant (subst (ServingStepResult b n) c.in-Ok-true.field-0-test c.in-Ok-true.ensures.ok)

pub returns-in-Ok-false-clause-ok : goal.returns-in-Ok-false-clause-ok
returns-in-Ok-false-clause-ok g c =
    let a = serving_state c.args.reader.now (g.S.Source.state c.args.source.now) (held_after (g.W.Sink.state c.args.out.now.inner) (drop c.args.out.now.sent (take c.args.out.now.end c.args.out.now.buffer.items))) c.args.service.now in
    let b = serving_state c.line.reader (g.S.Source.state c.line.source) (held_after (g.W.Sink.state c.line.out.inner) (drop c.line.out.sent (take c.line.out.end c.line.out.buffer.items))) c.line.service in
    let n = serving_state c.serve_next_line.new.reader (g.S.Source.state c.serve_next_line.new.source) (held_after (g.W.Sink.state c.serve_next_line.new.out.inner) (drop c.serve_next_line.new.out.sent (take c.serve_next_line.new.out.end c.serve_next_line.new.out.buffer.items))) c.serve_next_line.new.service in
    FinishesServing-from a b n c.line.invariant (subst (ServingStepResult b n) c.in-Ok-false.field-0-test c.in-Ok-false.ensures.ok)

pub returns-in-Err-clause-err : goal.returns-in-Err-clause-err
returns-in-Err-clause-err g c =
    let a = serving_state c.args.reader.now (g.S.Source.state c.args.source.now) (held_after (g.W.Sink.state c.args.out.now.inner) (drop c.args.out.now.sent (take c.args.out.now.end c.args.out.now.buffer.items))) c.args.service.now in
    let b = serving_state c.line.reader (g.S.Source.state c.line.source) (held_after (g.W.Sink.state c.line.out.inner) (drop c.line.out.sent (take c.line.out.end c.line.out.buffer.items))) c.line.service in
    let n = serving_state c.serve_next_line.new.reader (g.S.Source.state c.serve_next_line.new.source) (held_after (g.W.Sink.state c.serve_next_line.new.out.inner) (drop c.serve_next_line.new.out.sent (take c.serve_next_line.new.out.end c.serve_next_line.new.out.buffer.items))) c.serve_next_line.new.service in
    StopsServing-from a b n c.in-Err.error c.line.invariant c.in-Err.ensures.err
