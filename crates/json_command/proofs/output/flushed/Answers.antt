use Rattle.json_command.proofs.Printing.{text_flushed, text_stopped, flush_ran_out}
use Rattle.json_command.proofs.output.flushed.Goals as goal

pub returns-in-Ok : goal.returns-in-Ok
returns-in-Ok g c =
    record {
      text = λ old text h. text_flushed _ _ _ _ _ _ (rw c.in-Ok.is at h) c.flush_all-answer.ensures;
      ran_out = λ size h e. flush_ran_out _ _ size _ c.flush_all-answer.ensures e;
    }

pub returns-in-Err : goal.returns-in-Err
returns-in-Err g c =
    record {
      text = λ old text h. text_stopped _ _ _ _ (rw c.in-Err.is at h);
      ran_out = λ size h. rw c.in-Err.is at h;
    }
