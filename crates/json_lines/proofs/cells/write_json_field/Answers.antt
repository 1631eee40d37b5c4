use Rattle.std.proofs.Common.{◌∙◌, ap, None}
use Rattle.json_model.specs.Print.{shown}
use Rattle.json_lines.specs.Csv.{csv_field}
use Rattle.json_lines.proofs.TextWriting.{WritesText-is, WritesText-no-memory}
use Rattle.json_lines.proofs.cells.write_json_field.Goals as goal

pub returns-in-Ok : goal.returns-in-Ok
returns-in-Ok g c = WritesText-is _ _ _ _ c.write_field.result (ap csv_field (c.as_bytes.ensures.value ∙ c.in-Ok.ensures.ok ∙ ap (shown None 0) c.packed.ensures.tree)) c.write_field.ensures

pub returns-in-Err : goal.returns-in-Err
returns-in-Err g c = WritesText-no-memory _ _ c.in-Err.error c.in-Err.ensures.only
