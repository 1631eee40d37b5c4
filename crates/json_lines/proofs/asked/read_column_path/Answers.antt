use Rattle.json_value.specs.Denotes.{tree_of}
use Rattle.json_value.specs.Edits.{path_steps}
use Rattle.json_lines.proofs.WordsSpelled.{path_known, path_unspelled}
use Rattle.json_lines.proofs.asked.read_column_path.Goals as goal

pub returns-in-Ok-clause-ok : goal.returns-in-Ok-clause-ok
returns-in-Ok-clause-ok c = path_known (tree_of c.args.value.now) (path_steps c.in-Ok.path) c.in-Ok.ensures.ok

pub returns-in-Err-clause-err : goal.returns-in-Err-clause-err
returns-in-Err-clause-err c = path_unspelled (tree_of c.args.value.now) c.in-Err.error c.in-Err.ensures.err
