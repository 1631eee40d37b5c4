use Rattle.std.proofs.Common.{Some, sym, ap, ◌∙◌}
use Rattle.json_doc.specs.Readings.{elements}
use Rattle.json_doc.specs.Seen.{view_doc, view_place, view_tree}
use Rattle.json_value.specs.ViewTargets.{doc_held}
use Rattle.json_value.proofs.PartTargets.{element_got, no_element_got, child_shown}
use Rattle.json_value.proofs.array_view.packed_element.Goals as goal

pub returns-in-Some-clause-target : goal.returns-in-Some-clause-target
returns-in-Some-clause-target c =
    let p = c.args.packed in let e = c.in-Some.element in
    ap Some (child_shown p c.beside.result e c.args.i c.beside.ensures.view c.beside.ensures.holder c.in-Some.ensures.doc c.in-Some.ensures.place)
    ∙ sym (element_got (view_doc p.view) (doc_held p.holder) (view_place p.view) (elements (view_tree p.view)) c.args.i (view_tree e) (sym c.in-Some.ensures.tree))

pub returns-in-None-clause-target : goal.returns-in-None-clause-target
returns-in-None-clause-target c =
    let p = c.args.packed in sym (no_element_got (view_doc p.view) (doc_held p.holder) (view_place p.view) (elements (view_tree p.view)) c.args.i (sym c.in-None.ensures.tree))
