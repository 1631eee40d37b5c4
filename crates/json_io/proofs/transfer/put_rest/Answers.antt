use Rattle.std.proofs.Common.{ℕ, arith, length-drop}
use Rattle.std.proofs.lemmas.List.{length-take}
use Rattle.json_io.proofs.Progress.{HasPut-more}
use Rattle.json_io.proofs.Putting.{Puts-refused}
use Rattle.json_io.proofs.transfer.put_rest.Goals as goal

pub drain-preserved : goal.drain-preserved
drain-preserved g c =
    let writes = c.in-Ok.ensures.writes in (
      HasPut-more _ _ _ _ _ _ c.drain.invariant.0 writes.appends writes.counts.faults_ok writes.counts.lacks_ok writes.counts.same_loan,
      omega (arith, c.in-Ok.ensures.bound, length-take {A = ℕ}, length-drop {A = ℕ}),
    )

pub returns-in-Err : goal.returns-in-Err
returns-in-Err g c = Puts-refused _ _ _ c.drain.at c.args.piece.now _ c.in-Err.error c.sink_refusal.result c.drain.invariant.0 c.in-Err.ensures.writes c.sink_refusal.ensures.failed c.sink_refusal.ensures.no_memory
