use Rattle.std.proofs.Common.{Some, sym, ap, subst, ◌∙◌}
use Rattle.json_grammar.specs.Grammar.{number}
use Rattle.json_number.specs.Integers.{integer_in}
use Rattle.json_doc.proofs.Shown.{literal_at, raw_at, no_literal_at, number_at}
use Rattle.json_doc.proofs.view.DocView.literal.Goals as goal

pub returns-in-Raw-clause-literal : goal.returns-in-Raw-clause-literal
returns-in-Raw-clause-literal c =
    let s = c.args.self in
    ap Some c.text_range.ensures ∙ sym (literal_at s.doc.now s.at c.cell.result s.inside c.cell.ensures c.in-Raw.start c.in-Raw.len c.in-Raw.is)

pub returns-in-Raw-clause-number : goal.returns-in-Raw-clause-number
returns-in-Raw-clause-number c =
    let s = c.args.self in
    subst number (sym c.text_range.ensures) (number_at s.doc.now s.at c.cell.result s.inside c.cell.ensures c.in-Raw.start c.in-Raw.len c.in-Raw.is)

pub returns-in-Raw-clause-raw : goal.returns-in-Raw-clause-raw
returns-in-Raw-clause-raw c =
    let s = c.args.self in
    ap integer_in c.text_range.ensures ∙ raw_at s.doc.now s.at c.cell.result s.inside c.cell.ensures c.in-Raw.start c.in-Raw.len c.in-Raw.is

pub returns-in_default : goal.returns-in_default
returns-in_default c =
    let s = c.args.self in
    record {
      literal = sym (no_literal_at s.doc.now s.at c.cell.result s.inside c.cell.ensures c.in_default.not-Raw);
      number = tt;
      raw = tt;
    }
