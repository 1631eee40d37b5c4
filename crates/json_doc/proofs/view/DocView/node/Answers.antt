use Rattle.std.proofs.Common.{◌≡◌, ℕ, ◌+◌, pos, SFits, w64, to_z-of_z, List, Some, length, map, sym, ap, subst, ◌∙◌, arith, rules}
use Rattle.std.specs.Prelude.{slice_get}
use Rattle.std.specs.Fmt.{signed_decimal}
use Rattle.json_grammar.specs.Grammar.{number}
use Rattle.json_grammar.specs.Tree.{num, text}
use Rattle.json_number.specs.Integers.{integer_in}
use Rattle.json_doc.specs.ByValue.{value_of_cell}
use Rattle.json_doc.specs.Docs.{doc_cells, doc_tree}
use Rattle.json_doc.specs.Places.{places_from}
use Rattle.json_doc.specs.Left.{doc_pair}
use Rattle.json_doc.proofs.Shown.{null_at, boolean_at, integer_tree_at, num_at, number_at, raw_at, text_tree_at, array_at, object_at, elements_below, values_below, all_keyed, length-of_places, get-places, array_child, object_child}
use Rattle.json_doc.proofs.view.DocView.node.Goals as goal

pub returns-in-Null-clause-tree : goal.returns-in-Null-clause-tree
returns-in-Null-clause-tree c = let s = c.args.self in null_at s.doc.now s.at c.cell.result s.inside c.cell.ensures c.in-Null.is

pub returns-in-Bool-clause-tree : goal.returns-in-Bool-clause-tree
returns-in-Bool-clause-tree c = let s = c.args.self in boolean_at s.doc.now s.at c.cell.result s.inside c.cell.ensures c.in-Bool.b c.in-Bool.is

pub returns-in-Unsigned-clause-tree : goal.returns-in-Unsigned-clause-tree
returns-in-Unsigned-clause-tree c =
    let s = c.args.self in
    integer_tree_at s.doc.now s.at c.cell.result s.inside c.cell.ensures (pos c.in-Unsigned.n) (ap value_of_cell c.in-Unsigned.is) ∙ ap (λ z. num (signed_decimal z)) (sym c.from.ensures)

pub returns-in-Negative-clause-tree : goal.returns-in-Negative-clause-tree
returns-in-Negative-clause-tree c =
    let s = c.args.self in
    let fits : SFits w64 c.in-Negative.n = search rules in
    integer_tree_at s.doc.now s.at c.cell.result s.inside c.cell.ensures c.in-Negative.n (ap value_of_cell c.in-Negative.is) ∙ ap (λ z. num (signed_decimal z)) (sym (c.from-in-Negative.ensures ∙ to_z-of_z fits))

pub returns-in-Raw-clause-tree : goal.returns-in-Raw-clause-tree
returns-in-Raw-clause-tree c =
    let s = c.args.self in
    num_at s.doc.now s.at c.cell.result s.inside c.cell.ensures c.in-Raw.start c.in-Raw.len c.in-Raw.is ∙ ap num (sym c.text_range.ensures)

pub returns-in-Raw-clause-number : goal.returns-in-Raw-clause-number
returns-in-Raw-clause-number c =
    let s = c.args.self in
    let is = number_at s.doc.now s.at c.cell.result s.inside c.cell.ensures c.in-Raw.start c.in-Raw.len c.in-Raw.is in
    let raw = raw_at s.doc.now s.at c.cell.result s.inside c.cell.ensures c.in-Raw.start c.in-Raw.len c.in-Raw.is in
    (subst number (sym c.text_range.ensures) is, ap integer_in c.text_range.ensures ∙ raw)

pub returns-in-Str-clause-tree : goal.returns-in-Str-clause-tree
returns-in-Str-clause-tree c =
    let s = c.args.self in
    text_tree_at s.doc.now s.at c.cell.result s.inside c.cell.ensures c.in-Str.start c.in-Str.len c.in-Str.is ∙ ap text (sym c.text_range-in-Str.ensures)

pub returns-in-Array-clause-tree : goal.returns-in-Array-clause-tree
returns-in-Array-clause-tree c =
    let s = c.args.self in
    let a = array_at s.doc.now s.at c.cell.result s.inside c.cell.ensures c.in-Array.link c.in-Array.len c.in-Array.is in
    (a.0, a.1, c.new.ensures.trees ∙ a.2)

pub new-requires-clause-inside : goal.new-requires-clause-inside
new-requires-clause-inside c =
    let s = c.args.self in
    elements_below s.doc.now s.at c.cell.result s.inside c.cell.ensures c.in-Array.link c.in-Array.len c.in-Array.len c.in-Array.is (omega arith)

pub returns-in-Array-clause-places : goal.returns-in-Array-clause-places
returns-in-Array-clause-places c i h =
    let s = c.args.self in
    let d = s.doc.now in
    let len = c.in-Array.len in
    let count = length-of_places (doc_tree d) (doc_cells d) 0 (s.at + 1) len in
    ap (λ (ks : List ℕ). slice_get ks i) c.new.ensures.places
    ∙ get-places (doc_cells d) 0 (s.at + 1) len i (omega (arith, ap length c.new.ensures.trees, count)) ∙ ap Some (array_child d s.at c.cell.result s.inside c.cell.ensures c.in-Array.link len i c.in-Array.is)

-- the first key, and the value after it
second : (at : ℕ) → (at + 1) + 1 ≡ at + 2
second at = omega arith

pub new-requires-in-Object-clause-inside : goal.new-requires-in-Object-clause-inside
new-requires-in-Object-clause-inside c =
    let s = c.args.self in
    rw second (values_below s.doc.now s.at c.cell.result s.inside c.cell.ensures c.in-Object.link c.in-Object.len c.in-Object.len c.in-Object.is (omega arith))

pub new-requires-in-Object-clause-keyed : goal.new-requires-in-Object-clause-keyed
new-requires-in-Object-clause-keyed c =
    let s = c.args.self in
    rw second (all_keyed s.doc.now s.at c.cell.result s.inside c.cell.ensures c.in-Object.link c.in-Object.len c.in-Object.is)

pub returns-in-Object-clause-tree : goal.returns-in-Object-clause-tree
returns-in-Object-clause-tree c =
    let s = c.args.self in
    let d = s.doc.now in
    let o = object_at d s.at c.cell.result s.inside c.cell.ensures c.in-Object.link c.in-Object.len c.in-Object.is in
    (o.0, o.1, c.new-in-Object.ensures.pairs ∙ ap (λ (k : ℕ). map (doc_pair d) (places_from (doc_cells d) 1 k c.in-Object.len)) (second s.at) ∙ o.2)

pub returns-in-Object-clause-places : goal.returns-in-Object-clause-places
returns-in-Object-clause-places c i h =
    let s = c.args.self in
    let d = s.doc.now in
    let len = c.in-Object.len in
    let count = length-of_places (doc_pair d) (doc_cells d) 1 ((s.at + 1) + 1) len in
    ap (λ (ks : List ℕ). slice_get ks i) (c.new-in-Object.ensures.places ∙ ap (λ (k : ℕ). places_from (doc_cells d) 1 k len) (second s.at))
    ∙ get-places (doc_cells d) 1 (s.at + 2) len i (omega (arith, ap length c.new-in-Object.ensures.pairs, count)) ∙ ap Some (object_child d s.at c.cell.result s.inside c.cell.ensures c.in-Object.link len i c.in-Object.is)
