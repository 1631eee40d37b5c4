-- Filtering lines by words: what the run did is what is asked for.
use Rattle.std.proofs.Common.{◌≡◌, ◌∙◌, ℕ, ◌<◌, List, [], Some, sym, ap, arith}
use Rattle.json_io.specs.Outside.{SourceState, SinkState, Rose}
use Rattle.json_io.specs.Sinks.{vec_sink_state}
use Rattle.json_io.specs.Sources.{slice_source_state}
use Rattle.json_lines.specs.TopCall.{Streams, streams}
use Rattle.mezdruk_c.specs.ErrorSinks.{error_sink_state}
use Rattle.mezdruk_c.proofs.FilteredLines.{filters_lines}
use Rattle.mezdruk_c.proofs.Printed.{no_rise}
use Rattle.mezdruk_c.proofs.lines.filter_by.Goals as goal

no_lacks : (before now : ℕ) → before ≡ 0 → now ≡ 0 → ¬ (Rose before now)
no_lacks before now e f h = omega (arith, e, f, h)

pub returns-in-Ok-clause-done : goal.returns-in-Ok-clause-done
returns-in-Ok-clause-done c =
    let old : Streams = streams (slice_source_state c.new-source.result) (vec_sink_state c.new-rows.result) (error_sink_state c.new-errors.result) in
    let new : Streams = streams (slice_source_state c.run_lines-status.new.source) (vec_sink_state c.run_lines-status.new.sink) (error_sink_state c.run_lines-status.new.errs) in
    let complete : c.run_lines-status.result < 2 = omega (arith, c.if-status-gt1.false) in
    filters_lines c.args.words.now c.args.text.now old new (ap (λ (s : SourceState). s.left) c.new-source.ensures) _ _
    (c.run_lines-status.ensures.rows complete) (c.run_lines-status.ensures.errors complete)
    (ap (λ (s : SinkState). s.gained) c.new-rows.ensures) (ap (λ (s : SinkState). s.gained) c.new-errors.ensures)
    no_rise (no_lacks _ _ (ap (λ (s : SinkState). s.lacks) c.new-errors.ensures) c.in-Some.ensures.whole)
    (c.into_vec.ensures ∙ ap Some (sym c.in-Ok.ensures.rows)) (c.in-Some.ensures.bytes ∙ ap Some (sym c.in-Ok.ensures.errors))
