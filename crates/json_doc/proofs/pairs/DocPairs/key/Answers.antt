use Rattle.std.proofs.Common.{◌≡◌, ◌+◌, ◌-◌, ◌<◌, ℕ, Some, true, length, sym, ap, ◌∙◌, arith}
use Rattle.std.specs.Prelude.{option_map, slice_index_or}
use Rattle.json_grammar.specs.Tree.{text}
use Rattle.json_doc.specs.Docs.{doc_cells, doc_tree}
use Rattle.json_doc.specs.Left.{doc_pair}
use Rattle.json_doc.specs.Shape.{is_str}
use Rattle.json_doc.specs.Trees.{text_of_tree}
use Rattle.json_doc.specs.declared.cell.Cell.TheVariants as cell
use Rattle.json_doc.proofs.Shown.{key_string, get-of_places, get-places}
use Rattle.json_doc.proofs.pairs.DocPairs.key.Goals as goal

before : (next : ℕ) → (next + 1) - 1 ≡ next
before next = omega arith

pub returns-clause-tree : goal.returns-clause-tree
returns-clause-tree c =
    let s = c.args.self.now in
    let d = s.doc.now in
    let some : 0 < s.left = omega arith in
    let first : s.next + 1 < length (doc_cells d) = s.inside 0 some in
    let keyed : is_str (slice_index_or (doc_cells d) s.next cell.Null) ≡ true = rw before at (s.keyed 0 some) in
    ap Some (c.view_at.ensures.tree ∙ key_string d s.next (omega arith) keyed ∙ ap (λ (k : ℕ). text (text_of_tree (doc_tree d k))) (sym (before s.next)))
    ∙ sym (ap (option_map (λ p. text p.0)) (get-of_places (doc_pair d) (doc_cells d) 1 (s.next + 1) s.left 0 some))

pub returns-clause-place : goal.returns-clause-place
returns-clause-place c =
    let s = c.args.self.now in
    get-places (doc_cells s.doc.now) 1 (s.next + 1) s.left 0 (omega arith) ∙ ap (λ (k : ℕ). Some (k + 1)) (sym c.view_at.ensures.place)
