use Rattle.mezdruk_files.proofs.PrintedScalars.{put_flushed, put_stopped}
use Rattle.mezdruk_files.proofs.text.flush_added.Goals as goal

pub returns-in-Ok : goal.returns-in-Ok
returns-in-Ok g c = λ old text h. put_flushed old _ _ text _ _ (c.in-Ok.ensures old _ text h) c.flush_all.ensures

pub returns-in-Err : goal.returns-in-Err
returns-in-Err g c = λ old text h. put_stopped old _ text c.in-Err.error (c.in-Err.ensures old _ text h)
