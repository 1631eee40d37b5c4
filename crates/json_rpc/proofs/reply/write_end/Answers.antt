use Rattle.std.proofs.Common.{None, ◌++◌, codes}
use Rattle.json_model.specs.Print.{shown}
use Rattle.json_value.specs.Denotes.{tree_of}
use Rattle.json_lines.proofs.TextWriting.{WritesText-first}
use Rattle.json_rpc.proofs.reply.write_end.Goals as goal

pub returns-in-Err : goal.returns-in-Err
returns-in-Err g c = WritesText-first _ _ (codes ",\"id\":" ++ shown None 0 (tree_of c.args.id.now)) (codes "}\n") c.in-Err.error c.in-Err.ensures
