use Rattle.std.proofs.Common.{◌∷◌, ◌++◌, []}
use Rattle.json_lines.specs.Csv.{quotes_doubled}
use Rattle.json_lines.proofs.TextWriting.{WritesText-first, WritesText-then}
use Rattle.json_lines.proofs.csv.write_quoted.Goals as goal

pub returns-in-Ok : goal.returns-in-Ok
returns-in-Ok g c = WritesText-then _ _ _ (34 ∷ []) (quotes_doubled c.args.text.now ++ 34 ∷ []) c.in-Ok.field-0 c.write_doubled_end.result c.in-Ok.ensures c.write_doubled_end.ensures

pub returns-in-Err : goal.returns-in-Err
returns-in-Err g c = WritesText-first _ _ (34 ∷ []) (quotes_doubled c.args.text.now ++ 34 ∷ []) c.in-Err.error c.in-Err.ensures
