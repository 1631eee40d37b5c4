use Rattle.json_layout.proofs.Sending.{flush_failed}
use Rattle.json_layout.proofs.buffered.BufferedWriterSink.flush.Goals as goal

pub returns-in-Err : goal.returns-in-Err
returns-in-Err g c = record { flushes = rw (← c.deref.ensures.value) (flush_failed _ _ _ _ _ _ c.in-Err.ensures) }
