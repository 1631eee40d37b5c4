use Rattle.std.proofs.Common.{◌≡◌, ◌<◌, ℕ, length, ap, ◌∙◌, true, arith}
use Rattle.std.specs.Prelude.{nat_lt, slice_index_or}
use Rattle.json_doc.specs.Docs.{doc_cells}
use Rattle.json_doc.specs.Shape.{first_byte, span_of}
use Rattle.json_doc.specs.declared.cell.Cell.{Cell}
use Rattle.json_doc.specs.declared.cell.Cell.TheVariants as cell
use Rattle.json_doc.specs.declared.doc.Doc.{Doc}
use Rattle.mezdruk_c.specs.Payloads.{node_text}
use Rattle.mezdruk_c.proofs.LentTexts.{range_lent, none_lent, string_here, literal_here, no_text_here, within}
use Rattle.mezdruk_c.proofs.parsed.Parsed.lend.Goals as goal

pub returns-in-Str : goal.returns-in-Str
returns-in-Str c =
    let d = c.args.self.now.doc.value in let n = c.args.node in let e = c.in-Str.is in
    let inside : n < length (doc_cells d) = omega (arith, c.if-node-cells.false, ap length (c.cells.ensures ∙ ap doc_cells c.deref.ensures)) in
    let is = c.node_cell.ensures ∙ ap (λ (d : Doc). slice_index_or (doc_cells d) n cell.Null) c.deref-2.ensures in
    range_lent c.args.self.now (node_text d n) c.in-Str.start c.in-Str.len c.range.result (string_here d n inside c.node_cell.result is c.in-Str.start c.in-Str.len e)
    (within d n inside c.node_cell.result is c.in-Str.start c.in-Str.len (ap first_byte e) (ap span_of e)) c.range.ensures.at c.range.ensures.length

pub returns-in-Raw : goal.returns-in-Raw
returns-in-Raw c =
    let d = c.args.self.now.doc.value in let n = c.args.node in let e = c.in-Raw.is in
    let inside : n < length (doc_cells d) = omega (arith, c.if-node-cells.false, ap length (c.cells.ensures ∙ ap doc_cells c.deref.ensures)) in
    let is = c.node_cell.ensures ∙ ap (λ (d : Doc). slice_index_or (doc_cells d) n cell.Null) c.deref-2.ensures in
    range_lent c.args.self.now (node_text d n) c.in-Raw.start c.in-Raw.len c.range-in-Raw.result (literal_here d n inside c.node_cell.result is c.in-Raw.start c.in-Raw.len e)
    (within d n inside c.node_cell.result is c.in-Raw.start c.in-Raw.len (ap first_byte e) (ap span_of e)) c.range-in-Raw.ensures.at c.range-in-Raw.ensures.length

pub returns-in_default : goal.returns-in_default
returns-in_default c =
    let d = c.args.self.now.doc.value in let n = c.args.node in
    let inside : n < length (doc_cells d) = omega (arith, c.if-node-cells.false, ap length (c.cells.ensures ∙ ap doc_cells c.deref.ensures)) in
    let is = c.node_cell.ensures ∙ ap (λ (d : Doc). slice_index_or (doc_cells d) n cell.Null) c.deref-2.ensures in
    none_lent c.args.self.now (node_text d n) (no_text_here d n inside c.node_cell.result is c.in_default.not-Str c.in_default.not-Raw)
