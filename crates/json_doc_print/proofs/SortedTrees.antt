-- What is still to be shown of a container in the order of its keys.
use Rattle.std.proofs.Common.{◌≡◌, ℕ, ◌+◌, List, ◌∷◌, true, Option, Result, map, inr, refl, sym, ap, ◌∙◌, arith}
use Rattle.json_grammar.specs.Tree.{Tree, list, pairs, list_trees, list_pairs}
use Rattle.json_model.specs.Print.{shown}
use Rattle.json_model.specs.Sort.{sorted, pairs_sorted}
use Rattle.json_io.specs.declared.sink.SinkError.{SinkError}
use Rattle.json_io.specs.Outside.{SinkState}
use Rattle.json_doc.specs.Nodes.{NodeOf}
use Rattle.json_doc.specs.declared.children.DocChildren.{DocChildren}
use Rattle.json_doc.specs.declared.node.DocNode.{DocNode}
use Rattle.json_doc.specs.declared.node.DocNode.TheVariants as node
use Rattle.json_doc.specs.declared.pairs.DocPairs.{DocPairs}
use Rattle.json_layout.specs.Showing.{Shows}
use Rattle.json_doc_print.specs.ShowingSorted.{greatest_level, ShowsOrRunsOut}
use Rattle.json_doc_print.specs.ShownNodes.{node_tree}
use Rattle.json_doc_print.proofs.KeyOrders.{elements_sorted}
use Rattle.json_doc_print.proofs.ShownTrees.{Goes, elements_left, members_left, array_is, object_is}

-- what is shown with any number of containers around it
pub shows_anywhere : {n : ℕ} (a b : SinkState) (p : List ℕ) (r : Result (Unit {0}) SinkError) → Shows n a b p r → ShowsOrRunsOut a b p r
shows_anywhere a b p r h =
    record {
      ok = h.ok;
      err = h.err;
      faults_ok = h.faults_ok;
      failed = h.failed;
      lacks_ok = h.lacks_ok;
      lacking = h.lacking;
      ran_out = λ e. inr (omega arith);
      later = h.later;
      same_loan = h.same_loan;
    }

-- what is left of it brings all that was to be shown, with any number of containers around it
abbrev pub GoesSorted : SinkState → SinkState → List ℕ → List ℕ → Type 0
GoesSorted = Goes greatest_level greatest_level

-- a scalar is sorted
pub shows_scalar : (r : DocNode) (t : Tree) → NodeOf r t → ((c : DocChildren) → ¬ (r ≡ node.Array c)) → ((p : DocPairs) → ¬ (r ≡ node.Object p)) → node_tree r ≡ sorted t
shows_scalar node.Null t h a o = sym (ap sorted h)
shows_scalar (node.Boolean b) t h a o = sym (ap sorted h)
shows_scalar (node.Number n) t h a o = sym (ap sorted h)
shows_scalar (node.Raw l) t h a o = sym (ap sorted h)
shows_scalar (node.String s) t h a o = sym (ap sorted h)
shows_scalar (node.Array c) t h a o = absurd (a c refl)
shows_scalar (node.Object p) t h a o = absurd (o p refl)

-- an array, from its elements sorted
pub sorted_array_is : (i : Option (List ℕ)) (d : ℕ) (ts : List Tree) → 91 ∷ elements_left i d (d + 1) true (map sorted ts) ≡ shown i d (sorted (list (list_trees ts)))
sorted_array_is i d ts = array_is i d (map sorted ts) ∙ ap (λ o. shown i d (list o)) (elements_sorted ts)

-- an object, from its members in order
pub sorted_object_is : (i : Option (List ℕ)) (d : ℕ) (ps qs : List (List ℕ × Tree)) → list_pairs qs ≡ pairs_sorted (list_pairs ps) → 123 ∷ members_left i d (d + 1) true qs ≡ shown i d (sorted (pairs (list_pairs ps)))
sorted_object_is i d ps qs e = object_is i d qs ∙ ap (λ o. shown i d (pairs o)) e
