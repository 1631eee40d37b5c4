use Rattle.std.proofs.Common.{None, ap, ◌∷◌, [], ◌++◌}
use Rattle.json_model.specs.Print.{shown}
use Rattle.json_lines.proofs.TextWriting.{WritesText-first, WritesText-is}
use Rattle.json_rpc.proofs.reply.write_batch.Goals as goal

pub returns-in-Err : goal.returns-in-Err
returns-in-Err g c = WritesText-is _ _ _ _ _ (ap (λ t. shown None 0 t ++ 10 ∷ []) c.view.ensures.tree) (WritesText-first _ _ _ (10 ∷ []) c.in-Err.error c.in-Err.ensures.text)
