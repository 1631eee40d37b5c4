use Rattle.std.proofs.Common.{◌∷◌, []}
use Rattle.json_lines.specs.Csv.{quotes_doubled}
use Rattle.json_lines.proofs.TextWriting.{WritesText-first}
use Rattle.json_lines.proofs.csv.write_doubled_end.Goals as goal

pub returns-in-Err : goal.returns-in-Err
returns-in-Err g c = WritesText-first _ _ (quotes_doubled c.args.text.now) (34 ∷ []) c.in-Err.error c.in-Err.ensures
