use Rattle.std.proofs.Common.{◌∙◌}
use Rattle.json_value.specs.Denotes.{tree_of}
use Rattle.json_lines.proofs.TextWriting.{WritesText-first, WritesText-then, WritesText-is}
use Rattle.json_rpc.specs.ReplyTexts.{error_start, reply_end}
use Rattle.json_rpc.proofs.reply.write_failed.Goals as goal

pub returns-in-Ok : goal.returns-in-Ok
returns-in-Ok g c =
    WritesText-then _ _ _ (error_start c.args.error) (reply_end (tree_of c.args.id.now)) _ c.write_end.result (WritesText-is _ _ _ _ _ (c.as_bytes.ensures.value ∙ c.error_start.ensures) c.in-Ok.ensures)
    c.write_end.ensures

pub returns-in-Err : goal.returns-in-Err
returns-in-Err g c =
    WritesText-first _ _ (error_start c.args.error) (reply_end (tree_of c.args.id.now)) c.in-Err.error (WritesText-is _ _ _ _ _ (c.as_bytes.ensures.value ∙ c.error_start.ensures) c.in-Err.ensures)
