use Rattle.std.proofs.Common.{ℕ, arith, length-drop}
use Rattle.std.proofs.lemmas.List.{length-take}
use Rattle.json_layout.proofs.Sending.{HasSent-start, HasSent-more, sent_failed}
use Rattle.json_layout.proofs.adding.send.Goals as goal

pub rest-init : goal.rest-init
rest-init g c = HasSent-start _ _ _ c.requires

pub rest-preserved : goal.rest-preserved
rest-preserved g c =
    let writes = c.in-Ok.ensures.writes in
    HasSent-more _ _ _ _ _ _ _ c.rest.invariant (omega (arith, c.in-Ok.ensures.bound, length-take {A = ℕ}, length-drop {A = ℕ})) writes.appends writes.counts.faults_ok writes.counts.lacks_ok writes.counts.same_loan

pub returns-in-Err : goal.returns-in-Err
returns-in-Err g c = sent_failed _ _ _ _ _ _ _ _ c.rest.invariant c.in-Err.ensures.writes
