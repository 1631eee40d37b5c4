use Rattle.std.proofs.Common.{◌≡◌, arith, string_bytes}
use Rattle.json_doc.proofs.Segments.{node_some}
use Rattle.json_doc.proofs.Finishing.{finished, is_there_for, in_place}
use Rattle.json_doc.proofs.document_visitor.DocumentVisitor.into_doc.Goals as goal

pub invariant_of-result : goal.invariant_of-result
invariant_of-result c =
    let s = c.args.self in
    let f = finished s.cells.items s.text.items s.parent s.count c.requires.0 c.requires.1 in
    let bytes : string_bytes c.from_utf8_unchecked-text.result ≡ s.text.items = cc in
    record {
      small = omega (arith, s.cells.ok.0, s.cells_fit, s.small);
      rooted = omega (arith, node_some s.text.items 0 s.cells.items c.requires.0 f);
      in_place = rw bytes (in_place s.cells.items s.text.items s.parent s.count c.requires.0 c.requires.1);
    }

pub returns : goal.returns
returns c t h =
    let s = c.args.self in
    let bytes : string_bytes c.from_utf8_unchecked-text.result ≡ s.text.items = cc in
    rw bytes (is_there_for s.cells.items s.text.items s.parent s.count t h)
