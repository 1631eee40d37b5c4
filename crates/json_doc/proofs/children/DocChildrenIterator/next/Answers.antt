use Rattle.std.proofs.Common.{◌<◌, refl, arith}
use Rattle.json_doc.specs.Docs.{doc_cells, doc_tree}
use Rattle.json_doc.specs.Seen.{view_tree, view_place}
use Rattle.json_doc.proofs.Shown.{still_below, first_place, first_of_places}
use Rattle.json_doc.proofs.children.DocChildrenIterator.next.Goals as goal

pub invariant_of-self : goal.invariant_of-self
invariant_of-self c =
    let s = c.args.self.now in
    let some : 0 < s.left = omega arith in
    record {
      short = s.short;
      inside = rw c.place_behind.ensures.is (still_below (doc_cells s.doc.now) s.keys s.next s.left some s.inside);
    }

pub returns-clause-steps : goal.returns-clause-steps
returns-clause-steps c =
    let s = c.args.self.now in
    let some : 0 < s.left = omega arith in
    let view = c.view_at-view.result in
    rw c.place_behind.ensures.is (
      first_place (doc_tree s.doc.now) (doc_cells s.doc.now) s.keys s.next s.left (view_tree view) some c.view_at-view.ensures.tree,
      first_of_places (doc_cells s.doc.now) s.keys s.next s.left (view_place view) some c.view_at-view.ensures.place,
      refl,
      c.view_at-view.ensures.doc,
    )
