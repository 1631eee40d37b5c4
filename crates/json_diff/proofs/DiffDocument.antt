-- The document of the operations between two trees is a patch that leads from the one to the other.
use Rattle.std.proofs.Common.{◌≡◌, ◌↔◌, ℕ, ◌+◌, ◌≤◌, List, [], ◌∷◌, length, map, true, Some, Ok, refl, sym, ap, ap₂, ◌∙◌, subst, arith}
use Rattle.std.proofs.lemmas.List.{length-map}
use Rattle.json_grammar.specs.Sizes.{nodes}
use Rattle.json_grammar.specs.Tree.{Tree, list, no_trees, list_trees, trees_list}
use Rattle.json_model.specs.Same.{same}
use Rattle.json_patch.specs.Patch.{Operation, add_at, remove, replace, move, copy, test, operation_with_value, with_path, operation_of, applied_from, patched}
use Rattle.json_diff.specs.Diff.{operations_between}
use Rattle.json_diff.specs.DiffDocument.{operation_below, patch_document, patch_between, operation_count, PatchLeads, EmptyPatchBetweenSame}
use Rattle.json_patch.proofs.PointerTexts.{pointer_text_parses}
use Rattle.json_patch.proofs.PatchOrder.{patch_applies_operations}
use Rattle.json_diff.proofs.FewOperations.{few_operations}
use Rattle.json_diff.proofs.DiffSteps.{IsBelowRoot, AreBelowRoot}
use Rattle.json_diff.proofs.OperationsLead.{all_operations_below, operations_lead, no_operations_between_same}

document_read : (o : Operation) → IsBelowRoot o → operation_of (operation_below [] o) ≡ Some o
document_read (add_at p u) h = ap (λ q. operation_with_value add_at q (Some u)) (pointer_text_parses p)
document_read (remove p) h = ap (λ q. with_path remove q) (pointer_text_parses p)
document_read (replace p u) h = ap (λ q. operation_with_value replace q (Some u)) (pointer_text_parses p)
document_read (move q p) h = absurd h
document_read (copy q p) h = absurd h
document_read (test p u) h = absurd h

all_read : (os : List Operation) → AreBelowRoot os → map operation_of (map (operation_below []) os) ≡ map Some os
all_read [] h = refl
all_read (o ∷ os) h = ap₂ (λ x xs. x ∷ xs) (document_read o h.0) (all_read os h.1)

pub document_applies : (t u : Tree) → patched t (patch_between t u) ≡ applied_from 0 (operations_between t u) t
document_applies t u = patch_applies_operations t (map (operation_below []) (operations_between t u)) (operations_between t u) (all_read (operations_between t u) (all_operations_below t u))

pub patch_leads : PatchLeads
patch_leads t u = let a = operations_lead t u in (a.0, document_applies t u ∙ a.1, a.2)

pub empty_patch_between_same : EmptyPatchBetweenSame
empty_patch_between_same t u = (λ h. ap patch_document (no_operations_between_same t u h), λ e. by e (patch_leads t u))
  where
    by : patch_between t u ≡ list no_trees → (w : Tree) × (patched t (patch_between t u) ≡ Ok w) × (same w u ≡ true) → same t u ≡ true
    by e a = let f = sym (ap (patched t) e) ∙ a.1 in let is : t ≡ a.0 = cc in subst (λ w. same w u ≡ true) (sym is) a.2

-- ---- what is known of the patch

pub leads_in : (t u p : Tree) → p ≡ patch_between t u → (w : Tree) × (patched t p ≡ Ok w) × (same w u ≡ true)
leads_in t u p e = subst (λ (q : Tree). (w : Tree) × (patched t q ≡ Ok w) × (same w u ≡ true)) (sym e) (patch_leads t u)

pub same_in : (t u p : Tree) → p ≡ patch_between t u → (p ≡ list no_trees) ↔ (same t u ≡ true)
same_in t u p e = let a = empty_patch_between_same t u in (λ h. a.1 (sym e ∙ h), λ h. e ∙ a.0 h)

listed : (ts : List Tree) → length (trees_list (list_trees ts)) ≡ length ts
listed [] = refl
listed (t ∷ ts) = omega (arith, listed ts)

count_of : (os : List Operation) → operation_count (patch_document os) ≡ length os
count_of os = listed (map (operation_below []) os) ∙ length-map os (operation_below [])

pub few_in : (t u p : Tree) → p ≡ patch_between t u → operation_count p ≤ nodes t + nodes u
few_in t u p e = subst (λ q. operation_count q ≤ nodes t + nodes u) (sym e) (omega (arith, count_of (operations_between t u), few_operations t u))
