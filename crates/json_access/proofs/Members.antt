-- Members made a tree's, and read again.
use Rattle.std.proofs.Common.{◌≡◌, ℕ, List, [], ◌∷◌, Some, refl, sym, ap, ◌∙◌}
use Rattle.json_grammar.specs.Tree.{Tree, list, pairs, trees_list, list_trees, pairs_list, list_pairs}
use Rattle.json_value.specs.Seen.{list_of, object_pairs}

elements_again : (ts : List Tree) → trees_list (list_trees ts) ≡ ts
elements_again [] = refl
elements_again (t ∷ ts) = ap (λ us. t ∷ us) (elements_again ts)

members_again : (ps : List (List ℕ × Tree)) → pairs_list (list_pairs ps) ≡ ps
members_again [] = refl
members_again (p ∷ ps) = ap (λ qs. p ∷ qs) (members_again ps)

-- the elements of an array, and the members of an object, from what its tree is
pub elements_found : (t : Tree) (ts : List Tree) → list (list_trees ts) ≡ t → Some ts ≡ list_of t
elements_found t ts e = ap (λ us. Some us) (sym (elements_again ts)) ∙ ap list_of e

pub members_found : (t : Tree) (ps : List (List ℕ × Tree)) → pairs (list_pairs ps) ≡ t → Some ps ≡ object_pairs t
members_found t ps e = ap (λ qs. Some qs) (sym (members_again ps)) ∙ ap object_pairs e
