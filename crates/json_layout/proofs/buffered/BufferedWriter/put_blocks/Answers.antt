use Rattle.std.proofs.Common.{arith}
use Rattle.json_layout.proofs.Escapes.{batch_put}
use Rattle.json_layout.proofs.Pieces.{Adds-nil}
use Rattle.json_layout.proofs.QuotedParts.{block_failed}
use Rattle.json_layout.proofs.buffered.BufferedWriter.put_blocks.Goals as goal

pub fill-init : goal.fill-init
fill-init g c = record { within = omega arith; put = Adds-nil _ }

pub fill-preserved : goal.fill-preserved
fill-preserved g c =
    let more = c.in-Ok.ensures.more in
    record { within = more.1; put = batch_put _ _ _ c.args.text.now c.fill.at c.in-Ok.next _ (omega (arith, more.0)) c.fill.invariant.put c.in-Ok.ensures.put }

pub returns-in-Err-clause-failed : goal.returns-in-Err-clause-failed
returns-in-Err-clause-failed g c = block_failed _ _ _ c.args.text.now c.fill.at _ c.fill.invariant.put c.in-Err.ensures.failed
