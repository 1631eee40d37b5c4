use Rattle.std.proofs.Common.{pos, SFits, w64, to_z-of_z, Some, sym, ap, ◌∙◌, rules}
use Rattle.std.specs.Fmt.{signed_decimal}
use Rattle.json_grammar.specs.Tree.{num}
use Rattle.json_doc.specs.ByValue.{value_of_cell}
use Rattle.json_doc.proofs.Shown.{integer_tree_at, integer_at, no_integer_at}
use Rattle.json_doc.proofs.view.DocView.as_number.Goals as goal

pub returns-in-Unsigned-clause-value : goal.returns-in-Unsigned-clause-value
returns-in-Unsigned-clause-value c =
    let s = c.args.self in
    ap Some c.from.ensures ∙ sym (integer_at s.doc.now s.at c.cell.result s.inside c.cell.ensures (pos c.in-Unsigned.n) (ap value_of_cell c.in-Unsigned.is))

pub returns-in-Negative-clause-value : goal.returns-in-Negative-clause-value
returns-in-Negative-clause-value c =
    let s = c.args.self in
    let fits : SFits w64 c.in-Negative.n = search rules in
    ap Some (c.from-in-Negative.ensures ∙ to_z-of_z fits) ∙ sym (integer_at s.doc.now s.at c.cell.result s.inside c.cell.ensures c.in-Negative.n (ap value_of_cell c.in-Negative.is))

pub returns-in_default-clause-value : goal.returns-in_default-clause-value
returns-in_default-clause-value c =
    let s = c.args.self in
    sym (no_integer_at s.doc.now s.at c.cell.result s.inside c.cell.ensures c.in_default.not-Unsigned c.in_default.not-Negative)

pub returns-in-Unsigned-clause-text : goal.returns-in-Unsigned-clause-text
returns-in-Unsigned-clause-text c =
    let s = c.args.self in
    integer_tree_at s.doc.now s.at c.cell.result s.inside c.cell.ensures (pos c.in-Unsigned.n) (ap value_of_cell c.in-Unsigned.is) ∙ ap (λ z. num (signed_decimal z)) (sym c.from.ensures)

pub returns-in-Negative-clause-text : goal.returns-in-Negative-clause-text
returns-in-Negative-clause-text c =
    let s = c.args.self in
    let fits : SFits w64 c.in-Negative.n = search rules in
    integer_tree_at s.doc.now s.at c.cell.result s.inside c.cell.ensures c.in-Negative.n (ap value_of_cell c.in-Negative.is) ∙ ap (λ z. num (signed_decimal z)) (sym (c.from-in-Negative.ensures ∙ to_z-of_z fits))
