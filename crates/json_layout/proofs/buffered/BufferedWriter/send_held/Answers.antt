use Rattle.json_layout.proofs.Sending.{all_sent, sent_on}
use Rattle.json_layout.proofs.buffered.BufferedWriter.send_held.Goals as goal

pub returns-in-Err-clause-adds : goal.returns-in-Err-clause-adds
returns-in-Err-clause-adds g c = rw (← c.deref.ensures.value) (sent_on _ _ _ _ _ _ c.in-Err.ensures)

pub returns-clause-adds : goal.returns-clause-adds
returns-clause-adds g c = rw (← c.deref.ensures.value) (all_sent _ _ _ _ _ _ c.in-Ok.ensures)
