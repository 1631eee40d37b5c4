use Rattle.std.proofs.Common.{ℕ, ◌+◌, ◌-◌, List, Some, sym, ap, ◌∙◌, arith}
use Rattle.std.specs.Prelude.{slice_get}
use Rattle.json_grammar.specs.Tree.{Tree}
use Rattle.json_doc.specs.Docs.{doc_cells, doc_text, doc_tree}
use Rattle.json_doc.specs.Trees.{text_of_tree}
use Rattle.json_doc.proofs.Trees.{place_up}
use Rattle.json_doc.proofs.Shown.{keys_at, values_at, values_below, all_keyed, object_child, get-of_places, past-of_places, no_keys_at, no_values_at}
use Rattle.json_doc.proofs.view.DocView.value_place.Goals as goal

pub place_from-requires-clause-inside : goal.place_from-requires-clause-inside
place_from-requires-clause-inside c =
    let s = c.args.self in
    values_below s.doc.now s.at c.cell.result s.inside c.cell.ensures c.in-Object.link c.in-Object.len (c.args.i + 1) c.in-Object.is (omega arith)

pub returns-then-i-len : goal.returns-then-i-len
returns-then-i-len c =
    let s = c.args.self in
    let d = s.doc.now in
    let is = c.place_from.ensures.is in
    record {
      within = c.place_from.ensures.within;
      after = omega (arith, is, place_up (doc_cells d) (doc_text d) 1 (s.at + 2) c.args.i d.in_place);
      keyed = rw is (all_keyed d s.at c.cell.result s.inside c.cell.ensures c.in-Object.link c.in-Object.len c.in-Object.is c.args.i c.if-i-len.true);
      place = is ∙ object_child d s.at c.cell.result s.inside c.cell.ensures c.in-Object.link c.in-Object.len c.args.i c.in-Object.is;
      value = ap (λ (k : ℕ). Some (doc_tree d k)) is
          ∙ sym (ap (λ (ts : List Tree). slice_get ts c.args.i) (values_at d s.at c.cell.result s.inside c.cell.ensures c.in-Object.link c.in-Object.len c.in-Object.is) ∙ get-of_places (doc_tree d) (doc_cells d) 1 (s.at + 2) c.in-Object.len c.args.i c.if-i-len.true);
      key = ap (λ (k : ℕ). Some (text_of_tree (doc_tree d (k - 1)))) is
          ∙ sym (ap (λ (ts : List (List ℕ)). slice_get ts c.args.i) (keys_at d s.at c.cell.result s.inside c.cell.ensures c.in-Object.link c.in-Object.len c.in-Object.is) ∙ get-of_places (λ k. text_of_tree (doc_tree d (k - 1))) (doc_cells d) 1 (s.at + 2) c.in-Object.len c.args.i c.if-i-len.true);
    }

pub returns-else-i-len : goal.returns-else-i-len
returns-else-i-len c =
    let s = c.args.self in
    let d = s.doc.now in
    record {
      within = tt;
      after = tt;
      keyed = tt;
      place = tt;
      value = sym (ap (λ (ts : List Tree). slice_get ts c.args.i) (values_at d s.at c.cell.result s.inside c.cell.ensures c.in-Object.link c.in-Object.len c.in-Object.is) ∙ past-of_places (doc_tree d) (doc_cells d) 1 (s.at + 2) c.in-Object.len c.args.i c.if-i-len.false);
      key = sym (ap (λ (ts : List (List ℕ)). slice_get ts c.args.i) (keys_at d s.at c.cell.result s.inside c.cell.ensures c.in-Object.link c.in-Object.len c.in-Object.is) ∙ past-of_places (λ k. text_of_tree (doc_tree d (k - 1))) (doc_cells d) 1 (s.at + 2) c.in-Object.len c.args.i c.if-i-len.false);
    }

pub returns-in_default : goal.returns-in_default
returns-in_default c =
    let s = c.args.self in
    record {
      within = tt;
      after = tt;
      keyed = tt;
      place = tt;
      value = sym (ap (λ (ts : List Tree). slice_get ts c.args.i) (no_values_at s.doc.now s.at c.cell.result s.inside c.cell.ensures c.in_default.not-Object));
      key = sym (ap (λ (ts : List (List ℕ)). slice_get ts c.args.i) (no_keys_at s.doc.now s.at c.cell.result s.inside c.cell.ensures c.in_default.not-Object));
    }
