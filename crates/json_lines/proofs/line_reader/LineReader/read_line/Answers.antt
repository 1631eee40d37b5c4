use Rattle.std.proofs.Common.{◌≡◌, ◌-◌, ◌≤◌, false, Some, slice_range, subst, sym, refl, arith}
use Rattle.std.proofs.lemmas.Result.{IfOk-weaker, IfErr-weaker}
use Rattle.json_lines.specs.Lines.{IsFirstNewline, has_newline}
use Rattle.json_lines.specs.Reading.{line_reader_state}
use Rattle.json_lines.specs.LineRanges.{ReadsUnended, ReadsMore}
use Rattle.json_lines.proofs.ReaderSteps.{ReadsUnended-more, NextLineFails-later}
use Rattle.json_lines.proofs.FindingLines.{FindsLine-more, FindsLine-last, FindsLine-later}
use Rattle.json_lines.proofs.line_reader.LineReader.read_line.Goals as goal

pub returns-in-Err-clause-err : goal.returns-in-Err-clause-err
returns-in-Err-clause-err g c =
    let a = line_reader_state c.args.self.now in
    let waits : ReadsUnended a (line_reader_state c.make_room.new.self) _ _ = subst (λ m. ReadsUnended a m (g.S.Source.state c.args.source.now) (g.S.Source.state c.wait.source)) (sym c.make_room.ensures.same) c.wait.invariant in
    NextLineFails-later _ _ _ _ _ _ c.in-Err.error waits.bytes waits.reads waits.no_fault c.in-Err.ensures.err

pub returns-then-count-eq0-clause-ok : goal.returns-then-count-eq0-clause-ok
returns-then-count-eq0-clause-ok g c =
    let a = line_reader_state c.args.self.now in
    let mid = c.make_room.new.self in
    let new = c.read_more.new.self in
    let waits : ReadsUnended a (line_reader_state mid) _ _ = subst (λ m. ReadsUnended a m (g.S.Source.state c.args.source.now) (g.S.Source.state c.wait.source)) (sym c.make_room.ensures.same) c.wait.invariant in
    let more = subst (λ n. ReadsMore mid new (g.S.Source.state c.wait.source) (g.S.Source.state c.read_more.new.source) n) c.if-count-eq0.true c.in-Ok.ensures.ok in
    let few : mid.end - mid.start ≤ mid.limit = omega (arith, c.make_room.ensures.span, c.make_room.ensures.limit, c.wait-test.true) in
    FindsLine-last _ mid new _ _ (g.S.Source.state c.wait.source) _ _ waits more few c.last_line_range.ensures refl refl refl more.goes_on refl refl

pub returns-in-Some-clause-ok : goal.returns-in-Some-clause-ok
returns-in-Some-clause-ok g c =
    let a = line_reader_state c.args.self.now in
    let mid = c.make_room.new.self in
    let new = c.read_more.new.self in
    let waits : ReadsUnended a (line_reader_state mid) _ _ = subst (λ m. ReadsUnended a m (g.S.Source.state c.args.source.now) (g.S.Source.state c.wait.source)) (sym c.make_room.ensures.same) c.wait.invariant in
    let more = c.in-Ok.ensures.ok in
    let here = subst (λ l. IsFirstNewline (slice_range l mid.end new.end) (Some c.in-Some.len)) c.deref.ensures.value c.in-Some.ensures in
    FindsLine-more _ mid new _ _ (g.S.Source.state c.wait.source) _ c.in-Ok.count c.in-Some.len _ waits more here c.line_range.ensures refl refl refl more.goes_on refl refl

pub wait-preserved : goal.wait-preserved
wait-preserved g c =
    let a = line_reader_state c.args.self.now in
    let mid = c.make_room.new.self in
    let new = c.read_more.new.self in
    let waits : ReadsUnended a (line_reader_state mid) _ _ = subst (λ m. ReadsUnended a m (g.S.Source.state c.args.source.now) (g.S.Source.state c.wait.source)) (sym c.make_room.ensures.same) c.wait.invariant in
    let none = subst (λ l. has_newline (slice_range l mid.end new.end) ≡ false) c.deref.ensures.value c.in_default.ensures in
    ReadsUnended-more a mid new _ _ _ c.in-Ok.count waits c.in-Ok.ensures.ok none

pub wait-smaller : goal.wait-smaller
wait-smaller g c =
    let more = c.in-Ok.ensures.ok in
    omega (arith, c.make_room.ensures.span, c.make_room.ensures.limit, c.wait-test.true, more.end_so, more.same_start, more.reads.same_limit, c.if-count-eq0.false)

pub returns-clause-err : goal.returns-clause-err
returns-clause-err g c =
    let waits = c.wait.invariant in
    IfErr-weaker c.skip_line.result _ _ (λ e h. NextLineFails-later _ _ _ _ _ _ e waits.bytes waits.reads waits.no_fault h) c.skip_line.ensures.err

pub returns-clause-ok : goal.returns-clause-ok
returns-clause-ok g c = IfOk-weaker c.skip_line.result _ _ (λ place h. FindsLine-later _ c.wait.self _ _ (g.S.Source.state c.wait.source) _ place c.wait.invariant h) c.skip_line.ensures.ok
