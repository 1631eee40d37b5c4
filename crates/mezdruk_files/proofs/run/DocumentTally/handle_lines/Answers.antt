use Rattle.std.proofs.Common.{◌≡◌, ◌+◌, ℕ, List, Err, length, ap, refl, arith, rules}
use Rattle.std.proofs.lemmas.Bool.Decides.{nat_tests}
use Rattle.std.proofs.lemmas.Grind.{common_steps}
use Rattle.mezdruk_files.specs.Outcomes.{task_of}
use Rattle.mezdruk_files.specs.Parts.{line_part, lines_of}
use Rattle.std.proofs.lemmas.List.{nil_from_length}
use Rattle.mezdruk_files.proofs.Handled.{Handles-none, Handles-then, Handles-as, StopsRunning-then, handles_blank, handles_full, full_stops, lines_none, lines_more, lines_stop, lines_all}
use Rattle.mezdruk_files.proofs.TextWriting.{err_counted, reported_then}
use Rattle.mezdruk_files.proofs.run.DocumentTally.handle_lines.Goals as goal

pub lines-init : goal.lines-init
lines-init g c =
    record { handled = Handles-none _ c.args.self.now _ _ (lines_none (task_of g.C.ValueChange.changed c.args.job.now) c.args.lines.name.now c.args.lines.before c.args.lines.bytes.now); counted = omega arith; numbered = refl }

pub lines-preserved-then-is_blank : goal.lines-preserved-then-is_blank
lines-preserved-then-is_blank g c =
    record {
      handled = Handles-then _ _ _ _ _ _ _ _ _ _ _ _ c.lines.invariant.handled
          (handles_blank (task_of g.C.ValueChange.changed c.args.job.now) (line_part c.args.lines.name.now c.lines.number c.split_line.result.0.now) c.lines.self _ _ c.if-is_blank.ensures)
          (lines_more (task_of g.C.ValueChange.changed c.args.job.now) c.args.lines.name.now c.args.lines.before c.args.lines.bytes.now c.lines.number c.lines.rest.now c.split_line.result.0.now c.split_line.result.1.now c.split_line.ensures.line);
      counted = omega (arith, c.lines.invariant.counted, c.split_line.ensures.shorter);
      numbered = omega (arith, c.lines.invariant.numbered, ap length c.split_line.ensures.line);
    }

pub lines-preserved : goal.lines-preserved
lines-preserved g c =
    record {
      handled = Handles-then _ _ _ _ _ _ _ _ _ _ _ _ c.lines.invariant.handled
          (handles_full (task_of g.C.ValueChange.changed c.args.job.now) (line_part c.args.lines.name.now c.lines.number c.split_line.result.0.now) c.lines.self c.handle_part.new.self _ _ _ _ c.if-is_blank.ensures c.in-Ok.ensures.ok)
          (lines_more (task_of g.C.ValueChange.changed c.args.job.now) c.args.lines.name.now c.args.lines.before c.args.lines.bytes.now c.lines.number c.lines.rest.now c.split_line.result.0.now c.split_line.result.1.now c.split_line.ensures.line);
      counted = omega (arith, c.lines.invariant.counted, c.split_line.ensures.shorter);
      numbered = omega (arith, c.lines.invariant.numbered, ap length c.split_line.ensures.line);
    }

pub returns-in-Err-clause-err : goal.returns-in-Err-clause-err
returns-in-Err-clause-err g c =
    StopsRunning-then _ _ _ _ _ _ _ _ _ _ _ _ c.in-Err.error c.lines.invariant.handled
    (full_stops (task_of g.C.ValueChange.changed c.args.job.now) (line_part c.args.lines.name.now c.lines.number c.split_line.result.0.now) c.lines.self c.handle_part.new.self _ _ _ _ c.in-Err.error c.if-is_blank.ensures c.in-Err.ensures.err)
    (lines_stop (task_of g.C.ValueChange.changed c.args.job.now) c.args.lines.name.now c.args.lines.before c.args.lines.bytes.now c.lines.number c.lines.rest.now c.split_line.result.0.now c.split_line.result.1.now c.split_line.ensures.line)

pub returns-in-Err-clause-reported : goal.returns-in-Err-clause-reported
returns-in-Err-clause-reported g c =
    λ l. err_counted c.in-Err.error (reported_then (g.K.Sink.state c.args.sink.now) (g.K.Sink.state c.lines.sink) (g.K.Sink.state c.handle_part.new.sink) _ tt (Err c.in-Err.error) c.lines.invariant.handled.output c.in-Err.ensures.reported l)

no_lines_left : (rest : List ℕ) → length rest ≡ 0 → length (lines_of rest) ≡ 0
no_lines_left rest e = ap (λ l. length (lines_of l)) (nil_from_length rest e)

pub returns-clause-ok : goal.returns-clause-ok
returns-clause-ok g c =
    let empty : length c.lines.rest.now ≡ 0 = first_of (grind (arith, nat_tests), grind (arith, common_steps), search rules) in
    Handles-as _ _ _ _ _ _ _ _ c.lines.invariant.handled (lines_all (task_of g.C.ValueChange.changed c.args.job.now) c.args.lines.name.now c.args.lines.before c.args.lines.bytes.now c.lines.number c.lines.rest.now empty)

pub returns-clause-number : goal.returns-clause-number
returns-clause-number g c =
    let empty : length c.lines.rest.now ≡ 0 = first_of (grind (arith, nat_tests), grind (arith, common_steps), search rules) in
    omega (arith, c.lines.invariant.numbered, no_lines_left c.lines.rest.now empty)
