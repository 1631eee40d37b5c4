use Rattle.std.proofs.Common.{ap}
use Rattle.json_doc.specs.Seen.{view_tree}
use Rattle.json_lines.specs.Tables.{cell_kind}
use Rattle.json_lines.proofs.CsvFields.{string_field_is, number_field_is, boolean_field_is, json_field_is}
use Rattle.json_lines.proofs.TextWriting.{WritesText-is}
use Rattle.json_lines.proofs.cells.write_value_field.Goals as goal

pub returns-in-Text : goal.returns-in-Text
returns-in-Text g c = WritesText-is _ _ _ _ c.write_string_field.result (string_field_is (cell_kind c.args.kind) (view_tree c.args.view) _ (ap cell_kind c.in-Text.is) c.text.ensures) c.write_string_field.ensures

pub returns-in-Int : goal.returns-in-Int
returns-in-Int g c =
    WritesText-is _ _ _ _ c.write_number_field.result (number_field_is (cell_kind c.args.kind) (view_tree c.args.view) c.as_number.result (ap cell_kind c.in-Int.is) c.as_number.ensures.value c.as_number.ensures.text)
    c.write_number_field.ensures

pub returns-in-Bool : goal.returns-in-Bool
returns-in-Bool g c = WritesText-is _ _ _ _ c.write_boolean_field.result (boolean_field_is (cell_kind c.args.kind) (view_tree c.args.view) _ (ap cell_kind c.in-Bool.is) c.as_bool.ensures) c.write_boolean_field.ensures

pub returns-in-Json : goal.returns-in-Json
returns-in-Json g c = WritesText-is _ _ _ _ c.write_json_field.result (json_field_is (cell_kind c.args.kind) (view_tree c.args.view) (ap cell_kind c.in-Json.is)) c.write_json_field.ensures
