use Rattle.json_value.specs.Denotes.{tree_of}
use Rattle.json_lines.proofs.TextWriting.{WritesText-is}
use Rattle.json_rpc.proofs.ReplyTexts.{done_text, failed_text}
use Rattle.json_rpc.proofs.reply.write_reply.Goals as goal

pub returns-in-Done : goal.returns-in-Done
returns-in-Done g c = rw c.in-Done.is (WritesText-is _ _ _ _ _ (done_text (tree_of c.in-Done.outcome) (tree_of c.in-Done.id)) c.write_done.ensures)

pub returns-in-Failed : goal.returns-in-Failed
returns-in-Failed g c = rw c.in-Failed.is (WritesText-is _ _ _ _ _ (failed_text c.in-Failed.error (tree_of c.in-Failed.id)) c.write_failed.ensures)
