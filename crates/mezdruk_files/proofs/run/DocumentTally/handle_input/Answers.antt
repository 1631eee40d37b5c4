use Rattle.std.proofs.Common.{◌≡◌, ◌-◌, ◌++◌, ℕ, List, inl, inr, false, [], refl, sym, ap, ◌∙◌, subst, length, take, append-nil, arith}
use Rattle.std.proofs.lemmas.Result.{on_ok_weaker, IfErr-weaker, err_from_is_err_and}
use Rattle.mezdruk_files.specs.Parts.{line_part, HasFewLines}
use Rattle.json_io.proofs.Known.{Consumes-nil}
use Rattle.json_io.specs.Errors.{writing_failed}
use Rattle.mezdruk_files.specs.Outcomes.{task_of}
use Rattle.mezdruk_files.specs.Inputs.{has_newline}
use Rattle.mezdruk_files.proofs.HandledInputs.{LinesSoFar, so_far_none, so_far_read, so_far_more, few_held, input_done, input_stops, input_none, read_failed, lost_bytes, too_many, too_many_stopped, on_ok_both, as_lines, as_first_lines, as_number}
use Rattle.mezdruk_files.proofs.TextWriting.{ok_no_error, reported_then}
use Rattle.mezdruk_files.proofs.WholeLines.{held_before}
use Rattle.mezdruk_files.proofs.run.DocumentTally.handle_input.Goals as goal

pub returns-in_err-block-clause-err : goal.returns-in_err-block-clause-err
returns-in_err-block-clause-err g c =
    let task = task_of g.C.ValueChange.changed c.args.job.now in
    let name = c.args.input.now.name.now in
    let source = g.S.Source.state c.args.input.now.source in
    let sink = g.K.Sink.state c.args.sink.now in
    let errs = g.E.Sink.state c.args.errs.now in
    let t = c.args.self.now in
    let p = err_from_is_err_and c.from_residual.result c.from_residual.ensures.1 in
    rw (p.1, p.2) (input_none task name source source [] 0 0 t t sink sink errs errs (so_far_none task name source t sink errs) source [] t sink errs _ (Consumes-nil source.left) c.in_err-block.ensures.only refl refl refl)

held_now : (held : List ℕ) → has_newline held ≡ false → (held' bytes : List ℕ) (n : ℕ) → held' ≡ held ++ bytes → length bytes ≡ n → has_newline (take (length held' - n) held') ≡ false
held_now held none held' bytes n is size = rw (is, sym size) (subst (λ b. has_newline b ≡ false) (sym (held_before held bytes)) none)

pub reads-init : goal.reads-init
reads-init g c =
    let task = task_of g.C.ValueChange.changed c.args.job.now in
    let name = c.args.input.now.name.now in
    let source = g.S.Source.state c.args.input.now.source in
    let sink = g.K.Sink.state c.args.sink.now in
    let errs = g.E.Sink.state c.args.errs.now in
    let t = c.args.self.now in
    let none : has_newline [] ≡ false = refl in
    let new = sym c.new-held.ensures.items in
    record {
      so_far = subst (λ b. LinesSoFar task name source source b 0 0 t t sink sink errs errs) new (so_far_none task name source t sink errs);
      unended = subst (λ b. has_newline b ≡ false) new none;
      size = c.in_ok-block.ensures.size;
    }

-- a read failed
pub returns-in-Err-clause-ok : goal.returns-in-Err-clause-ok
returns-in-Err-clause-ok g c =
    let task = task_of g.C.ValueChange.changed c.args.job.now in
    on_ok_both c.handle_fault.result
    (λ fault h. read_failed task c.args.input.now.name.now _ _ _ _ c.reads.number c.reads.received c.args.self.now c.reads.self c.handle_fault.new.self _ _ _ _ _ c.reads.invariant.so_far c.in-Err.error c.in-Err.ensures.err c.reads.invariant.unended _ c.whole_part.ensures fault h)
    c.handle_fault.ensures.fault c.handle_fault.ensures.ok

pub returns-in-Err-clause-err : goal.returns-in-Err-clause-err
returns-in-Err-clause-err g c =
    let task = task_of g.C.ValueChange.changed c.args.job.now in
    let lost = lost_bytes c.in-Err.error.code c.in-Err.error.place (g.S.Source.state c.reads.input.source) (g.S.Source.state c.read_more.new.source) c.in-Err.ensures.err in
    IfErr-weaker c.handle_fault.result _ _
    (λ error k. input_none task c.args.input.now.name.now _ _ _ c.reads.number c.reads.received c.args.self.now c.reads.self _ _ _ _ c.reads.invariant.so_far _ lost.0 c.handle_fault.new.self _ _ error lost.1 k.only k.kept refl k.silent)
    c.handle_fault.ensures.err

pub returns-in-Err-clause-reported : goal.returns-in-Err-clause-reported
returns-in-Err-clause-reported g c = λ l. absurd (ok_no_error tt writing_failed (c.reads.invariant.so_far.handled.output.reported l))

-- the input ended
pub returns-then-count-eq0-clause-ok : goal.returns-then-count-eq0-clause-ok
returns-then-count-eq0-clause-ok g c =
    let task = task_of g.C.ValueChange.changed c.args.job.now in
    let name = c.args.input.now.name.now in
    on_ok_weaker c.send_last.result
    (λ h. input_done task name _ _ _ c.reads.number c.reads.received c.args.self.now c.reads.self _ _ _ _ c.reads.invariant.so_far _ _ _ c.send_last.new.self _ _ c.if-count-eq0.true c.in-Ok.ensures.ok
    (as_lines task _ name _ c.reads.number (c.lines_after.ensures ∙ ap (line_part name c.reads.number) c.deref.ensures.value) c.reads.self c.send_last.new.self _ _ _ _ h))
    c.send_last.ensures.ok

pub returns-then-count-eq0-clause-err : goal.returns-then-count-eq0-clause-err
returns-then-count-eq0-clause-err g c =
    let task = task_of g.C.ValueChange.changed c.args.job.now in
    let name = c.args.input.now.name.now in
    IfErr-weaker c.send_last.result _ _
    (λ error h. input_stops task name _ _ _ c.reads.number c.reads.received c.args.self.now c.reads.self _ _ _ _ c.reads.invariant.so_far _ _ _ [] _ c.send_last.new.self _ _ error c.in-Ok.ensures.ok (sym (append-nil _)) (inr refl)
    (as_first_lines task _ name _ c.reads.number (c.lines_after.ensures ∙ ap (line_part name c.reads.number) c.deref.ensures.value) c.reads.self c.send_last.new.self _ _ _ _ error h))
    c.send_last.ensures.err

-- lines ended
pub reads-preserved : goal.reads-preserved
reads-preserved g c =
    let task = task_of g.C.ValueChange.changed c.args.job.now in
    let name = c.args.input.now.name.now in
    let more = c.in-Ok.ensures.ok in
    let read = so_far_read task name _ _ _ c.reads.number c.reads.received c.args.self.now c.reads.self _ _ _ _ c.reads.invariant.so_far _ _ c.in-Ok.count more in
    let lines = c.lines_after-lines.ensures ∙ ap (line_part name c.reads.number) c.deref-in-reads.ensures.value in
    record {
      so_far = so_far_more task name _ _ _ c.reads.number _ c.args.self.now c.reads.self _ _ _ _ read _ _ _ c.send_lines.new.self _ _ c.in-Ok-take_lines.ensures.parted c.in-Ok-take_lines.ensures.whole
          (as_number task _ name _ c.reads.number lines c.reads.self c.send_lines.new.self (g.K.Sink.state c.reads.sink) (g.K.Sink.state c.reads.sink) (g.E.Sink.state c.reads.errs) (g.E.Sink.state c.reads.errs) _ c.in-Ok-send_lines.ensures.number)
          (as_lines task _ name _ c.reads.number lines c.reads.self c.send_lines.new.self _ _ _ _ c.in-Ok-send_lines.ensures.ok);
      unended = c.in-Ok-take_lines.ensures.unended (held_now c.reads.held.items c.reads.invariant.unended _ _ _ more.appended more.size);
      size = c.reads.invariant.size;
    }

pub returns-in-Err-take_lines-clause-err : goal.returns-in-Err-take_lines-clause-err
returns-in-Err-take_lines-clause-err g c =
    let task = task_of g.C.ValueChange.changed c.args.job.now in
    let more = c.in-Ok.ensures.ok in
    input_none task c.args.input.now.name.now _ _ _ c.reads.number c.reads.received c.args.self.now c.reads.self _ _ _ _ c.reads.invariant.so_far _ more.bytes c.reads.self _ _ _ more.consumed c.in-Err-take_lines.ensures.only refl refl refl

pub returns-in-Err-send_lines-clause-err : goal.returns-in-Err-send_lines-clause-err
returns-in-Err-send_lines-clause-err g c =
    let task = task_of g.C.ValueChange.changed c.args.job.now in
    let name = c.args.input.now.name.now in
    input_stops task name _ _ _ c.reads.number c.reads.received c.args.self.now c.reads.self _ _ _ _ c.reads.invariant.so_far _ _ _ _ _ c.send_lines.new.self _ _ c.in-Err-send_lines.error c.in-Ok.ensures.ok c.in-Ok-take_lines.ensures.parted (inl c.in-Ok-take_lines.ensures.whole)
    (as_first_lines task _ name _ c.reads.number (c.lines_after-lines.ensures ∙ ap (line_part name c.reads.number) c.deref-in-reads.ensures.value) c.reads.self c.send_lines.new.self _ _ _ _ c.in-Err-send_lines.error c.in-Err-send_lines.ensures.err)

-- the input has too many bytes
pub returns-clause-ok : goal.returns-clause-ok
returns-clause-ok g c =
    let task = task_of g.C.ValueChange.changed c.args.job.now in
    on_ok_weaker c.handle_fault-2.result
    (λ h. too_many task c.args.input.now.name.now _ _ _ c.reads.number c.reads.received c.args.self.now c.reads.self c.handle_fault-2.new.self _ _ _ _ _ c.reads.invariant.so_far _ c.reads.invariant.unended _ c.whole_part-2.ensures refl refl (omega (arith, c.reads-test.false)) h)
    c.handle_fault-2.ensures.ok

pub returns-clause-err : goal.returns-clause-err
returns-clause-err g c =
    let task = task_of g.C.ValueChange.changed c.args.job.now in
    IfErr-weaker c.handle_fault-2.result _ _
    (λ error k. too_many_stopped task c.args.input.now.name.now _ _ _ c.reads.number c.reads.received c.args.self.now c.reads.self c.handle_fault-2.new.self _ _ _ _ _ c.reads.invariant.so_far error k)
    c.handle_fault-2.ensures.err

pub returns-clause-reported : goal.returns-clause-reported
returns-clause-reported g c = λ l. absurd (ok_no_error tt writing_failed (c.reads.invariant.so_far.handled.output.reported l))

pub send_last-requires : goal.send_last-requires
send_last-requires g c =
    let task = task_of g.C.ValueChange.changed c.args.job.now in
    let name = c.args.input.now.name.now in
    let read = so_far_read task name _ _ _ c.reads.number c.reads.received c.args.self.now c.reads.self _ _ _ _ c.reads.invariant.so_far _ _ c.in-Ok.count c.in-Ok.ensures.ok in
    record {
      few = subst HasFewLines (sym (c.lines_after.ensures ∙ ap (line_part name c.reads.number) c.deref.ensures.value))
          (few_held task name _ _ _ c.reads.number _ c.args.self.now c.reads.self _ _ _ _ read _ [] (sym (append-nil _)) (omega (arith, c.reads-test.true, c.in-Ok.ensures.few)));
    }

pub send_lines-requires : goal.send_lines-requires
send_lines-requires g c =
    let task = task_of g.C.ValueChange.changed c.args.job.now in
    let name = c.args.input.now.name.now in
    let read = so_far_read task name _ _ _ c.reads.number c.reads.received c.args.self.now c.reads.self _ _ _ _ c.reads.invariant.so_far _ _ c.in-Ok.count c.in-Ok.ensures.ok in
    record {
      few = subst HasFewLines (sym (c.lines_after-lines.ensures ∙ ap (line_part name c.reads.number) c.deref-in-reads.ensures.value))
          (few_held task name _ _ _ c.reads.number _ c.args.self.now c.reads.self _ _ _ _ read _ _ c.in-Ok-take_lines.ensures.parted (omega (arith, c.reads-test.true, c.in-Ok.ensures.few)));
    }
