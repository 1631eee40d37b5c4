-- Operations below a token, and their document.
use Rattle.std.proofs.Common.{◌≡◌, List, [], ◌∷◌, ◌++◌, ℕ, append_assoc, map, refl, sym, ap, ap₂, codes}
use Rattle.json_grammar.specs.Tree.{text, no_pairs, pair_and}
use Rattle.json_patch.specs.Pointer.{ReferenceToken, slash, escaped_token, pointer_text}
use Rattle.json_patch.specs.Patch.{Operation, add_at, remove, replace, move, copy, test}
use Rattle.json_diff.specs.Diff.{under}
use Rattle.json_diff.specs.DiffDocument.{operation_members, operation_below}

below_under : (b : List ℕ) (k : ReferenceToken) (p : List ReferenceToken) → b ++ pointer_text (k ∷ p) ≡ (b ++ (slash ∷ escaped_token k)) ++ pointer_text p
below_under b k p = sym (append_assoc b (slash ∷ escaped_token k) (pointer_text p))

one_under : (b : List ℕ) (k : ReferenceToken) (o : Operation) → operation_below b (under k o) ≡ operation_below (b ++ (slash ∷ escaped_token k)) o
one_under b k (add_at p u) = ap (λ q. operation_members (codes "add") (text q) (pair_and (codes "value") u no_pairs)) (below_under b k p)
one_under b k (remove p) = ap (λ q. operation_members (codes "remove") (text q) no_pairs) (below_under b k p)
one_under b k (replace p u) = ap (λ q. operation_members (codes "replace") (text q) (pair_and (codes "value") u no_pairs)) (below_under b k p)
one_under b k (move r p) = ap₂ (λ q s. operation_members (codes "move") (text q) (pair_and (codes "from") (text s) no_pairs)) (below_under b k p) (below_under b k r)
one_under b k (copy r p) = ap₂ (λ q s. operation_members (codes "copy") (text q) (pair_and (codes "from") (text s) no_pairs)) (below_under b k p) (below_under b k r)
one_under b k (test p u) = ap (λ q. operation_members (codes "test") (text q) (pair_and (codes "value") u no_pairs)) (below_under b k p)

pub document_under : (b : List ℕ) (k : ReferenceToken) (os : List Operation) → map (operation_below b) (map (under k) os) ≡ map (operation_below (b ++ (slash ∷ escaped_token k))) os
document_under b k [] = refl
document_under b k (o ∷ os) = ap₂ (λ x xs. x ∷ xs) (one_under b k o) (document_under b k os)
