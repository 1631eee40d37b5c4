use Rattle.std.proofs.Common.{◌≡◌, ◌+◌, ◌-◌, ◌<◌, ℕ, List, refl, sym, ap, ◌∙◌, arith}
use Rattle.json_grammar.specs.Tree.{Tree}
use Rattle.json_doc.specs.Docs.{doc_cells, doc_tree}
use Rattle.json_doc.specs.Left.{doc_pair}
use Rattle.json_doc.specs.Seen.{view_tree, view_place}
use Rattle.json_doc.specs.Trees.{text_of_tree}
use Rattle.json_doc.proofs.Shown.{still_below, still_keys, first_place, first_of_places}
use Rattle.json_doc.proofs.pairs.DocPairsIterator.next.Goals as goal

pub invariant_of-self : goal.invariant_of-self
invariant_of-self c =
    let s = c.args.self.now in
    let some : 0 < s.left = omega arith in
    record {
      inside = rw c.place_behind-self.ensures.is (still_below (doc_cells s.doc.now) 1 (s.next + 1) s.left some s.inside);
      keyed = rw c.place_behind-self.ensures.is (still_keys (doc_cells s.doc.now) (s.next + 1) s.left some s.keyed);
    }

pub key_text-key-requires-clause-keyed : goal.key_text-key-requires-clause-keyed
key_text-key-requires-clause-keyed c =
    let s = c.args.self.now in
    let before : (s.next + 1) - 1 ≡ s.next = omega arith in
    rw before at (s.keyed 0 (omega arith))

pub returns-clause-steps : goal.returns-clause-steps
returns-clause-steps c =
    let s = c.args.self.now in
    let some : 0 < s.left = omega arith in
    let value = c.view_at-value.result in
    let key = c.key_text-key.result.now in
    let before : (s.next + 1) - 1 ≡ s.next = omega arith in
    let is_key : key ≡ text_of_tree (doc_tree s.doc.now ((s.next + 1) - 1)) = c.key_text-key.ensures ∙ ap (λ (k : ℕ). text_of_tree (doc_tree s.doc.now k)) (sym before) in
    let pair : (key, view_tree value) ≡ doc_pair s.doc.now (s.next + 1) = ap (λ (k : List ℕ). (k, view_tree value)) is_key ∙ ap (λ (t : Tree). (text_of_tree (doc_tree s.doc.now ((s.next + 1) - 1)), t)) c.view_at-value.ensures.tree in
    rw c.place_behind-self.ensures.is (
      first_place (doc_pair s.doc.now) (doc_cells s.doc.now) 1 (s.next + 1) s.left (key, view_tree value) some pair,
      first_of_places (doc_cells s.doc.now) 1 (s.next + 1) s.left (view_place value) some c.view_at-value.ensures.place,
      refl,
      c.view_at-value.ensures.doc,
    )
