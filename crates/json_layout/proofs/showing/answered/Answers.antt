use Rattle.json_layout.proofs.ShownParts.{written_ok, written_err, reported_ran_out}
use Rattle.json_layout.proofs.showing.answered.Goals as goal

pub returns-in-Ok-clause-text : goal.returns-in-Ok-clause-text
returns-in-Ok-clause-text c level old new text h = written_ok old new text _ _ (rw c.in-Ok.is at h)

pub returns-in-Err-clause-text : goal.returns-in-Err-clause-text
returns-in-Err-clause-text c level old new text h = written_err old new text _ _ c.error_of_sink.ensures.failed c.error_of_sink.ensures.no_memory (rw c.in-Err.is at h)

pub returns-in-Err-clause-ran_out : goal.returns-in-Err-clause-ran_out
returns-in-Err-clause-ran_out c level old new text h e = reported_ran_out level old new text _ _ c.error_of_sink.ensures.failed (rw c.in-Err.is at h) e
