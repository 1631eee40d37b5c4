use Rattle.json_value.specs.Denotes.{tree_of}
use Rattle.json_lines.proofs.TextWriting.{WritesText-first, WritesText-then}
use Rattle.json_rpc.specs.ReplyTexts.{result_start, reply_end}
use Rattle.json_rpc.proofs.reply.write_done.Goals as goal

pub returns-in-Ok : goal.returns-in-Ok
returns-in-Ok g c =
    WritesText-then _ _ _ (result_start (tree_of c.args.outcome.now)) (reply_end (tree_of c.args.id.now)) _ c.write_end.result c.in-Ok.ensures c.write_end.ensures

pub returns-in-Err : goal.returns-in-Err
returns-in-Err g c = WritesText-first _ _ (result_start (tree_of c.args.outcome.now)) (reply_end (tree_of c.args.id.now)) c.in-Err.error c.in-Err.ensures
