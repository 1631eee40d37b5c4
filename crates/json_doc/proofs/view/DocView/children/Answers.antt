use Rattle.std.proofs.Common.{ℕ, List, length, sym, ap, ◌∙◌, arith}
use Rattle.std.specs.Prelude.{slice_get}
use Rattle.json_doc.proofs.Shown.{array_children_at, object_children_at, no_children_at, elements_below, values_below, array_place_at, object_place_at}
use Rattle.json_doc.proofs.view.DocView.children.Goals as goal

pub new-requires-clause-inside : goal.new-requires-clause-inside
new-requires-clause-inside c =
    let s = c.args.self in
    elements_below s.doc.now s.at c.cell.result s.inside c.cell.ensures c.in-Array.link c.in-Array.len c.in-Array.len c.in-Array.is (omega arith)

pub new-requires-in-Object-clause-inside : goal.new-requires-in-Object-clause-inside
new-requires-in-Object-clause-inside c =
    let s = c.args.self in
    values_below s.doc.now s.at c.cell.result s.inside c.cell.ensures c.in-Object.link c.in-Object.len c.in-Object.len c.in-Object.is (omega arith)

pub returns-in-Array-clause-trees : goal.returns-in-Array-clause-trees
returns-in-Array-clause-trees c =
    let s = c.args.self in
    c.new.ensures.trees ∙ sym (array_children_at s.doc.now s.at c.cell.result s.inside c.cell.ensures c.in-Array.link c.in-Array.len c.in-Array.is)

pub returns-in-Object-clause-trees : goal.returns-in-Object-clause-trees
returns-in-Object-clause-trees c =
    let s = c.args.self in
    c.new-in-Object.ensures.trees ∙ sym (object_children_at s.doc.now s.at c.cell.result s.inside c.cell.ensures c.in-Object.link c.in-Object.len c.in-Object.is)

pub returns-in_default-clause-trees : goal.returns-in_default-clause-trees
returns-in_default-clause-trees c =
    let s = c.args.self in
    c.new-in_default.ensures.trees ∙ sym (no_children_at s.doc.now s.at c.cell.result s.inside c.cell.ensures c.in_default.not-Array c.in_default.not-Object)

pub returns-in-Array-clause-places : goal.returns-in-Array-clause-places
returns-in-Array-clause-places c i h =
    let s = c.args.self in
    ap (λ (ks : List ℕ). slice_get ks i) c.new.ensures.places ∙ array_place_at s.doc.now s.at c.cell.result s.inside c.cell.ensures c.in-Array.link c.in-Array.len i c.in-Array.is h

pub returns-in-Object-clause-places : goal.returns-in-Object-clause-places
returns-in-Object-clause-places c i h =
    let s = c.args.self in
    ap (λ (ks : List ℕ). slice_get ks i) c.new-in-Object.ensures.places ∙ object_place_at s.doc.now s.at c.cell.result s.inside c.cell.ensures c.in-Object.link c.in-Object.len i c.in-Object.is h

pub returns-in_default-clause-places : goal.returns-in_default-clause-places
returns-in_default-clause-places c i h =
    let s = c.args.self in
    absurd (omega (arith, ap length (no_children_at s.doc.now s.at c.cell.result s.inside c.cell.ensures c.in_default.not-Array c.in_default.not-Object)))
