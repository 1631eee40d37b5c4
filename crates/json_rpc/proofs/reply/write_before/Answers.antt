use Rattle.std.proofs.Common.{None}
use Rattle.json_model.specs.Print.{shown}
use Rattle.json_value.specs.Denotes.{tree_of}
use Rattle.json_lines.proofs.TextWriting.{WritesText-first, WritesText-is}
use Rattle.json_rpc.proofs.reply.write_before.Goals as goal

pub returns-in-Err : goal.returns-in-Err
returns-in-Err g c =
    WritesText-first _ _ c.args.text.now (shown None 0 (tree_of c.args.value.now)) c.in-Err.error (WritesText-is _ _ _ _ _ c.as_bytes.ensures.value c.in-Err.ensures)
