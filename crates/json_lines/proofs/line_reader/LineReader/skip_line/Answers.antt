use Rattle.std.proofs.Common.{◌≡◌, false, take, Some, subst, refl, ap, ◌∙◌}
use Rattle.json_lines.specs.Lines.{IsFirstNewline, has_newline}
use Rattle.json_lines.specs.LineRanges.{ReadsMore}
use Rattle.json_lines.proofs.ReaderSteps.{NextLineFails-later}
use Rattle.json_lines.proofs.FindingLines.{SkipsLine-more, FindsLine-skipped, FindsLine-cut, fresh-whole, behind-whole, no_bytes}
use Rattle.json_lines.proofs.line_reader.LineReader.skip_line.Goals as goal

pub returns-in-Err-clause-err : goal.returns-in-Err-clause-err
returns-in-Err-clause-err g c =
    let skips = c.pass.invariant.0 in
    NextLineFails-later _ _ _ _ _ _ c.in-Err.error skips.bytes skips.reads skips.no_fault c.in-Err.ensures.err

pub returns-then-count-eq0-clause-ok : goal.returns-then-count-eq0-clause-ok
returns-then-count-eq0-clause-ok g c =
    FindsLine-cut _ c.pass.self c.read_more.new.self _ (g.S.Source.state c.pass.source) _ c.pass.invariant.0
    (subst (λ n. ReadsMore c.pass.self c.read_more.new.self (g.S.Source.state c.pass.source) (g.S.Source.state c.read_more.new.source) n) c.if-count-eq0.true c.in-Ok.ensures.ok)
    c.requires.long c.pass.invariant.2

pub returns-in-Some-clause-ok : goal.returns-in-Some-clause-ok
returns-in-Some-clause-ok g c =
    let mid = c.pass.self in
    let new = c.read_more.new.self in
    let empty = c.pass.invariant.2 in
    let more = c.in-Ok.ensures.ok in
    let here = subst (λ l. IsFirstNewline l (Some c.in-Some.len)) (ap (take new.end) c.deref.ensures.value ∙ fresh-whole mid new empty) c.in-Some.ensures in
    FindsLine-skipped _ mid new _ _ (g.S.Source.state c.pass.source) _ c.in-Ok.count c.in-Some.len c.pass.invariant.0 more here c.requires.long refl refl more.goes_on (behind-whole mid new c.in-Some.len empty)

pub pass-preserved : goal.pass-preserved
pass-preserved g c =
    let mid = c.pass.self in
    let new = c.read_more.new.self in
    let empty = c.pass.invariant.2 in
    let more = c.in-Ok.ensures.ok in
    let none = subst (λ l. has_newline l ≡ false) (ap (take new.end) c.deref.ensures.value ∙ fresh-whole mid new empty) c.in_default.ensures in (
      SkipsLine-more _ mid new _ _ (g.S.Source.state c.pass.source) _ c.in-Ok.count c.pass.invariant.0 more none refl refl more.goes_on (no_bytes new.buffer.items new.start),
      more.same_start ∙ c.pass.invariant.1,
      refl,
    )
