use Rattle.std.proofs.Common.{◌≡◌, ℕ, List, Bool, true, false, ◌&&◌, inl, inr, refl, sym, ap, ◌∙◌, subst}
use Rattle.json_io.specs.declared.error.Error.{Error}
use Rattle.json_lines.specs.Running.{run_state, FailsEarly}
use Rattle.json_lines.specs.Rows.{Outcome, HasWithin}
use Rattle.json_lines.specs.Steps.{RunState, StepResult, StepFails}
use Rattle.json_lines.proofs.HandledLines.{HandledLines, HandledLines-start, HandledLines-more, HandledLines-sent, HandledLines-smaller, IsCalm, FinishesLines-from, FinishesLines-stopped, FailsEarly-reading, FailsEarly-handling, FailsEarly-sending}
use Rattle.json_lines.proofs.run.write_rows.Goals as goal

fails : (has : List ℕ → Outcome → Type 0) (strict : Bool) (a b n : RunState) (e : Error) → HandledLines has a b → IsCalm strict b → StepFails has b n e → FailsEarly (HasWithin a.reader.limit has) strict a n e
fails has strict a b n e so_far calm (inl reading) = FailsEarly-reading has strict a b n e so_far calm reading
fails has strict a b n e so_far calm (inr handling) = FailsEarly-handling has strict a b n e so_far calm handling

both_true : (s t : Bool) → (s && t) ≡ true → (s ≡ true) × (t ≡ true)
both_true true true h = (refl, refl)
both_true true false h = absurd cc
both_true false t h = absurd cc

second_false : (s t : Bool) → (s && t) ≡ false → s ≡ true → t ≡ false
second_false true t h is = h
second_false false t h is = absurd cc

pub line-init : goal.line-init
line-init g c = record { handled = HandledLines-start _ _ c.requires.fresh; same_rows = refl; calm = λ _. c.requires.fresh.good }

pub returns-in-Err-clause-err : goal.returns-in-Err-clause-err
returns-in-Err-clause-err g c =
    let has = g.R.RowWriter.has_outcome in
    let rows = c.args.run.now.room.rows.now in
    let a = run_state c.args.run.now.reader (g.S.Source.state c.args.source.now) (g.K.Sink.state c.args.sink.now) (g.E.Sink.state c.args.errs.now) c.args.tally.now in
    let b = run_state c.line.run.reader (g.S.Source.state c.line.source) (g.K.Sink.state c.line.sink) (g.E.Sink.state c.line.errs) c.line.tally in
    FailsEarly-sending (has rows) (g.R.RowWriter.strict rows) a b (g.K.Sink.state c.send_before_read.new.sink) c.in-Err.error c.line.invariant.handled c.line.invariant.calm c.in-Err.ensures

pub line-smaller : goal.line-smaller
line-smaller g c =
    let has = g.R.RowWriter.has_outcome in
    let rows = c.args.run.now.room.rows.now in
    let a = run_state c.args.run.now.reader (g.S.Source.state c.args.source.now) (g.K.Sink.state c.args.sink.now) (g.E.Sink.state c.args.errs.now) c.args.tally.now in
    let b = run_state c.line.run.reader (g.S.Source.state c.line.source) (g.K.Sink.state c.line.sink) (g.E.Sink.state c.line.errs) c.line.tally in
    let m = run_state c.line.run.reader (g.S.Source.state c.line.source) (g.K.Sink.state c.send_before_read.new.sink) (g.E.Sink.state c.line.errs) c.line.tally in
    let n = run_state c.handle_next_line.new.run.reader (g.S.Source.state c.handle_next_line.new.source) (g.K.Sink.state c.handle_next_line.new.sink) (g.E.Sink.state c.handle_next_line.new.errs) c.handle_next_line.new.tally in
    HandledLines-smaller (has rows) a m n (HandledLines-sent (has rows) a b (g.K.Sink.state c.send_before_read.new.sink) tt c.line.invariant.handled c.in-Ok.ensures)
    (subst (λ r. StepResult (has r) m n true) c.line.invariant.same_rows (subst (StepResult (has c.line.run.room.rows.now) m n) c.in-Ok-true.field-0-test c.in-Ok-true.ensures.ok))

pub line-preserved : goal.line-preserved
line-preserved g c =
    let has = g.R.RowWriter.has_outcome in
    let rows = c.args.run.now.room.rows.now in
    let a = run_state c.args.run.now.reader (g.S.Source.state c.args.source.now) (g.K.Sink.state c.args.sink.now) (g.E.Sink.state c.args.errs.now) c.args.tally.now in
    let b = run_state c.line.run.reader (g.S.Source.state c.line.source) (g.K.Sink.state c.line.sink) (g.E.Sink.state c.line.errs) c.line.tally in
    let m = run_state c.line.run.reader (g.S.Source.state c.line.source) (g.K.Sink.state c.send_before_read.new.sink) (g.E.Sink.state c.line.errs) c.line.tally in
    let n = run_state c.handle_next_line.new.run.reader (g.S.Source.state c.handle_next_line.new.source) (g.K.Sink.state c.handle_next_line.new.sink) (g.E.Sink.state c.handle_next_line.new.errs) c.handle_next_line.new.tally in
    record {
      handled = HandledLines-more (has rows) a m n (HandledLines-sent (has rows) a b (g.K.Sink.state c.send_before_read.new.sink) tt c.line.invariant.handled c.in-Ok.ensures)
          (subst (λ r. StepResult (has r) m n true) c.line.invariant.same_rows (subst (StepResult (has c.line.run.room.rows.now) m n) c.in-Ok-true.field-0-test c.in-Ok-true.ensures.ok));
      same_rows = c.in-Ok-true.ensures.rows ∙ c.line.invariant.same_rows;
      calm = λ is. second_false _ _ (sym c.ends_after.ensures ∙ c.if-ends_after.false) (ap g.R.RowWriter.strict (c.in-Ok-true.ensures.rows ∙ c.line.invariant.same_rows) ∙ is);
    }

pub returns-then-ends_after-clause-ok : goal.returns-then-ends_after-clause-ok
returns-then-ends_after-clause-ok g c =
    let has = g.R.RowWriter.has_outcome in
    let rows = c.args.run.now.room.rows.now in
    let a = run_state c.args.run.now.reader (g.S.Source.state c.args.source.now) (g.K.Sink.state c.args.sink.now) (g.E.Sink.state c.args.errs.now) c.args.tally.now in
    let b = run_state c.line.run.reader (g.S.Source.state c.line.source) (g.K.Sink.state c.line.sink) (g.E.Sink.state c.line.errs) c.line.tally in
    let m = run_state c.line.run.reader (g.S.Source.state c.line.source) (g.K.Sink.state c.send_before_read.new.sink) (g.E.Sink.state c.line.errs) c.line.tally in
    let n = run_state c.handle_next_line.new.run.reader (g.S.Source.state c.handle_next_line.new.source) (g.K.Sink.state c.handle_next_line.new.sink) (g.E.Sink.state c.handle_next_line.new.errs) c.handle_next_line.new.tally in
    let ends = both_true _ _ (sym c.ends_after.ensures ∙ c.if-ends_after.true) in
    let same = c.in-Ok-true.ensures.rows ∙ c.line.invariant.same_rows in
    FinishesLines-stopped (has rows) (g.R.RowWriter.strict rows) a m n (HandledLines-sent (has rows) a b (g.K.Sink.state c.send_before_read.new.sink) tt c.line.invariant.handled c.in-Ok.ensures) c.line.invariant.calm
    (subst (λ r. StepResult (has r) m n true) c.line.invariant.same_rows (subst (StepResult (has c.line.run.room.rows.now) m n) c.in-Ok-true.field-0-test c.in-Ok-true.ensures.ok)) (ap g.R.RowWriter.strict (sym same) ∙ ends.0) ends.1

pub returns-in-Ok-false-clause-ok : goal.returns-in-Ok-false-clause-ok
returns-in-Ok-false-clause-ok g c =
    let has = g.R.RowWriter.has_outcome in
    let rows = c.args.run.now.room.rows.now in
    let a = run_state c.args.run.now.reader (g.S.Source.state c.args.source.now) (g.K.Sink.state c.args.sink.now) (g.E.Sink.state c.args.errs.now) c.args.tally.now in
    let b = run_state c.line.run.reader (g.S.Source.state c.line.source) (g.K.Sink.state c.line.sink) (g.E.Sink.state c.line.errs) c.line.tally in
    let m = run_state c.line.run.reader (g.S.Source.state c.line.source) (g.K.Sink.state c.send_before_read.new.sink) (g.E.Sink.state c.line.errs) c.line.tally in
    let n = run_state c.handle_next_line.new.run.reader (g.S.Source.state c.handle_next_line.new.source) (g.K.Sink.state c.handle_next_line.new.sink) (g.E.Sink.state c.handle_next_line.new.errs) c.handle_next_line.new.tally in
    FinishesLines-from (has rows) (g.R.RowWriter.strict rows) a m n (HandledLines-sent (has rows) a b (g.K.Sink.state c.send_before_read.new.sink) tt c.line.invariant.handled c.in-Ok.ensures) c.line.invariant.calm
    (subst (λ r. StepResult (has r) m n false) c.line.invariant.same_rows (subst (StepResult (has c.line.run.room.rows.now) m n) c.in-Ok-false.field-0-test c.in-Ok-false.ensures.ok))

pub returns-in-Err-handle_next_line-clause-err : goal.returns-in-Err-handle_next_line-clause-err
returns-in-Err-handle_next_line-clause-err g c =
    let has = g.R.RowWriter.has_outcome in
    let rows = c.args.run.now.room.rows.now in
    let a = run_state c.args.run.now.reader (g.S.Source.state c.args.source.now) (g.K.Sink.state c.args.sink.now) (g.E.Sink.state c.args.errs.now) c.args.tally.now in
    let b = run_state c.line.run.reader (g.S.Source.state c.line.source) (g.K.Sink.state c.line.sink) (g.E.Sink.state c.line.errs) c.line.tally in
    let m = run_state c.line.run.reader (g.S.Source.state c.line.source) (g.K.Sink.state c.send_before_read.new.sink) (g.E.Sink.state c.line.errs) c.line.tally in
    let n = run_state c.handle_next_line.new.run.reader (g.S.Source.state c.handle_next_line.new.source) (g.K.Sink.state c.handle_next_line.new.sink) (g.E.Sink.state c.handle_next_line.new.errs) c.handle_next_line.new.tally in
    fails (has rows) (g.R.RowWriter.strict rows) a m n c.in-Err-handle_next_line.error (HandledLines-sent (has rows) a b (g.K.Sink.state c.send_before_read.new.sink) tt c.line.invariant.handled c.in-Ok.ensures) c.line.invariant.calm
    (subst (λ r. StepFails (has r) m n c.in-Err-handle_next_line.error) c.line.invariant.same_rows c.in-Err-handle_next_line.ensures.err)
