use Rattle.json_layout.proofs.Escapes.{run_put, batch_put, shown_failed}
use Rattle.json_layout.proofs.escape.add_escaped.Goals as goal

pub returns-in-Err : goal.returns-in-Err
returns-in-Err g c =
    shown_failed _ _ _ c.long_run-end.result _ (run_put _ _ _ c.args.value.now c.runs.at c.long_run-end.result _ c.long_run-end.ensures.within.0 c.long_run-end.ensures.run c.runs.invariant.1 c.in-Err.ensures)

pub returns-in-Err-add_batch : goal.returns-in-Err-add_batch
returns-in-Err-add_batch g c =
    shown_failed _ _ _ c.batch_end-at.result _ (batch_put _ _ _ c.args.value.now c.long_run-end.result c.batch_end-at.result _ c.batch_end-at.ensures.within.0
    (run_put _ _ _ c.args.value.now c.runs.at c.long_run-end.result _ c.long_run-end.ensures.within.0 c.long_run-end.ensures.run c.runs.invariant.1 c.in-Ok.ensures) c.in-Err-add_batch.ensures)

pub runs-preserved : goal.runs-preserved
runs-preserved g c = (
  c.batch_end-at.ensures.within.1,
  batch_put _ _ _ c.args.value.now c.long_run-end.result c.batch_end-at.result _ c.batch_end-at.ensures.within.0
      (run_put _ _ _ c.args.value.now c.runs.at c.long_run-end.result _ c.long_run-end.ensures.within.0 c.long_run-end.ensures.run c.runs.invariant.1 c.in-Ok.ensures) c.in-Ok-add_batch.ensures,
)
