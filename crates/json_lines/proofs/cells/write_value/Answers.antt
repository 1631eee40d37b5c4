use Rattle.std.proofs.Common.{ap}
use Rattle.json_doc.specs.Seen.{view_tree}
use Rattle.json_layout.proofs.ShownParts.{added_shows, Adds-same}
use Rattle.json_lines.specs.Tables.{cell_kind}
use Rattle.json_lines.proofs.CellTexts.{string_cell_is, integer_cell_is, boolean_cell_is, any_cell_is}
use Rattle.json_lines.proofs.TextWriting.{WritesText-is}
use Rattle.json_lines.proofs.cells.write_value.Goals as goal

pub returns-in-Text : goal.returns-in-Text
returns-in-Text g c =
    c.answered.ensures.text 0 _ _ _ (added_shows _ _ _ _ (Adds-same _ _ _ _ _ (string_cell_is (cell_kind c.args.kind) (view_tree c.args.view) _ (ap cell_kind c.in-Text.is) c.text.ensures) c.show_string_cell.ensures))

pub returns-in-Int : goal.returns-in-Int
returns-in-Int g c =
    c.answered-in-Int.ensures.text 0 _ _ _
    (added_shows _ _ _ _ (Adds-same _ _ _ _ _ (integer_cell_is (cell_kind c.args.kind) (view_tree c.args.view) c.as_number.result (ap cell_kind c.in-Int.is) c.as_number.ensures.value c.as_number.ensures.text) c.show_integer_cell.ensures))

pub returns-in-Bool : goal.returns-in-Bool
returns-in-Bool g c =
    c.answered-in-Bool.ensures.text 0 _ _ _ (added_shows _ _ _ _ (Adds-same _ _ _ _ _ (boolean_cell_is (cell_kind c.args.kind) (view_tree c.args.view) _ (ap cell_kind c.in-Bool.is) c.as_bool.ensures) c.show_boolean_cell.ensures))

pub returns-in-Json : goal.returns-in-Json
returns-in-Json g c = WritesText-is _ _ _ _ _ (any_cell_is (cell_kind c.args.kind) (view_tree c.args.view) _ (ap cell_kind c.in-Json.is) c.packed.ensures.tree) c.print.ensures.text
