use Rattle.std.proofs.Common.{arith}
use Rattle.std.proofs.lemmas.Result.{on_ok_weaker}
use Rattle.mezdruk_files.proofs.Painted.{AppendsPainted-next, AppendsPainted-all}
use Rattle.mezdruk_files.proofs.painter.Painter.paint.Goals as goal

pub loop-byte-preserved : goal.loop-byte-preserved
loop-byte-preserved c = AppendsPainted-next c.args.bytes.now c.loop-byte.byte-index _ _ _ _ (omega arith) c.loop-byte.invariant c.in_ok-push_color.ensures c.in_ok-push_byte.ensures

pub returns : goal.returns
returns c = on_ok_weaker c.push_color-2.result (λ painted. AppendsPainted-all c.args.bytes.now c.loop-byte.byte-index _ _ _ (omega arith) c.loop-byte.invariant painted) c.push_color-2.ensures
