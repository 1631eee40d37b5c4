use Rattle.std.proofs.Common.{◌+◌, List, Some, sym, ap, ◌∙◌, arith}
use Rattle.std.specs.Prelude.{slice_get}
use Rattle.json_grammar.specs.Tree.{Tree}
use Rattle.json_doc.specs.Docs.{doc_cells, doc_tree}
use Rattle.json_doc.proofs.Shown.{elements_at, elements_below, array_child, get-of_places, past-of_places, no_elements_at}
use Rattle.json_doc.proofs.view.DocView.element.Goals as goal

pub place_from-at-requires-clause-inside : goal.place_from-at-requires-clause-inside
place_from-at-requires-clause-inside c =
    let s = c.args.self in
    elements_below s.doc.now s.at c.cell.result s.inside c.cell.ensures c.in-Array.link c.in-Array.len (c.args.i + 1) c.in-Array.is (omega arith)

pub returns-then-i-len-clause-tree : goal.returns-then-i-len-clause-tree
returns-then-i-len-clause-tree c =
    let s = c.args.self in
    let d = s.doc.now in
    ap Some (c.view_at.ensures.tree ∙ ap (doc_tree d) c.place_from-at.ensures.is)
    ∙ sym (ap (λ (ts : List Tree). slice_get ts c.args.i) (elements_at d s.at c.cell.result s.inside c.cell.ensures c.in-Array.link c.in-Array.len c.in-Array.is) ∙ get-of_places (doc_tree d) (doc_cells d) 0 (s.at + 1) c.in-Array.len c.args.i c.if-i-len.true)

pub returns-then-i-len-clause-place : goal.returns-then-i-len-clause-place
returns-then-i-len-clause-place c =
    let s = c.args.self in
    c.view_at.ensures.place ∙ c.place_from-at.ensures.is ∙ array_child s.doc.now s.at c.cell.result s.inside c.cell.ensures c.in-Array.link c.in-Array.len c.args.i c.in-Array.is

pub returns-else-i-len-clause-tree : goal.returns-else-i-len-clause-tree
returns-else-i-len-clause-tree c =
    let s = c.args.self in
    let d = s.doc.now in
    sym (ap (λ (ts : List Tree). slice_get ts c.args.i) (elements_at d s.at c.cell.result s.inside c.cell.ensures c.in-Array.link c.in-Array.len c.in-Array.is) ∙ past-of_places (doc_tree d) (doc_cells d) 0 (s.at + 1) c.in-Array.len c.args.i c.if-i-len.false)

pub returns-in_default : goal.returns-in_default
returns-in_default c =
    let s = c.args.self in
    record {
      tree = sym (ap (λ (ts : List Tree). slice_get ts c.args.i) (no_elements_at s.doc.now s.at c.cell.result s.inside c.cell.ensures c.in_default.not-Array));
      doc = tt;
      place = tt;
    }
