use Rattle.std.proofs.Common.{◌<◌, length, refl, arith}
use Rattle.std.proofs.Output.{has_written_append, has_written_of_eq, writes_in_calls_nil}
use Rattle.std.proofs.lemmas.Str.{IsCharBoundary-start, IsCharBoundary-after_ascii}
use Rattle.json_layout.proofs.Escapes.{special_ascii, all_shown, more_shown}
use Rattle.json_layout.proofs.quoted.write_escaped.Goals as goal

pub runs-init : goal.runs-init
runs-init g c = (IsCharBoundary-start _ c.utf8.text, c.as_bytes-bytes.ensures.value, λ plain. record { wrote = writes_in_calls_nil _ _; plain = plain })

pub returns-then-end-bytes : goal.returns-then-end-bytes
returns-then-end-bytes g c plain ok =
    let bytes = c.as_bytes-bytes.ensures.value in let run = rw bytes at c.plain_run-end.ensures.ends in let so_far = c.runs.invariant.2 plain in
    has_written_of_eq _ _ _ _ _ (all_shown _ _ _ _ run.order (rw bytes at c.if-end-bytes.true) run.run c.range.ensures.value)
    (has_written_append _ _ _ _ _ _ so_far (c.in_ok-write_str.ensures.writes so_far.plain refl))

pub runs-preserved : goal.runs-preserved
runs-preserved g c =
    let text = c.args.text.now in let bytes = c.as_bytes-bytes.ensures.value in let end = c.plain_run-end.result in let run = rw bytes at c.plain_run-end.ensures.ends in
    let low : end < length text = omega (arith, run.within, rw bytes at c.if-end-bytes.false) in (
      IsCharBoundary-after_ascii text end c.utf8.text low (special_ascii _ (run.stop low)),
      bytes,
      λ plain.
          let so_far = c.runs.invariant.2 plain in let more = has_written_append _ _ _ _ _ _ so_far (c.in_ok-write_str.ensures.writes so_far.plain refl) in
          has_written_of_eq _ _ _ _ _ (more_shown text c.as_bytes-bytes.result.now _ _ _ bytes run.order low run.run c.range.ensures.value) (has_written_append _ _ _ _ _ _ more (c.in_ok-write_escape.ensures more.plain refl)),
    )
