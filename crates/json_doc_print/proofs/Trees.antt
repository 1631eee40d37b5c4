-- Trees, by what is read of them.
use Rattle.std.proofs.Common.{◌≡◌, ℕ, List, [], ◌∷◌, length, refl, ap, arith}
use Rattle.json_grammar.specs.Tree.{Tree, list, pairs, no_trees, tree_and, Pairs, no_pairs, pair_and, trees_list, list_trees, pairs_list, list_pairs}
use Rattle.json_doc.proofs.Trees.{list_back}
use Rattle.json_doc.specs.Readings.{type_of, elements, children}
use Rattle.json_doc.specs.declared.json_type.JsonType.TheVariants as kind
use Rattle.json_doc_print.specs.Readings.{members}

pub list_again : (ts : List Tree) → trees_list (list_trees ts) ≡ ts
list_again [] = refl
list_again (t ∷ ts) = ap (λ r. t ∷ r) (list_again ts)

pub pairs_back : (ps : Pairs) → list_pairs (pairs_list ps) ≡ ps
pairs_back no_pairs = refl
pairs_back (pair_and k t ps) = ap (pair_and k t) (pairs_back ps)

pub pairs_again : (ps : List (List ℕ × Tree)) → pairs_list (list_pairs ps) ≡ ps
pairs_again [] = refl
pairs_again (p ∷ ps) = ap (λ r. p ∷ r) (pairs_again ps)

pub array_back : (t : Tree) → type_of t ≡ kind.Array → list (list_trees (elements t)) ≡ t
array_back (list ts) h = ap list (list_back ts)
array_back _ h = absurd (cc)

pub object_back : (t : Tree) → type_of t ≡ kind.Object → pairs (list_pairs (members t)) ≡ t
object_back (pairs ps) h = ap pairs (pairs_back ps)
object_back _ h = absurd (cc)

-- containers without members
pub no_array : (t : Tree) → type_of t ≡ kind.Array → length (children t) ≡ 0 → list no_trees ≡ t
no_array (list no_trees) h e = refl
no_array (list (tree_and t ts)) h e = absurd (omega arith)
no_array _ h e = absurd (cc)

pub no_object : (t : Tree) → type_of t ≡ kind.Object → length (children t) ≡ 0 → pairs no_pairs ≡ t
no_object (pairs no_pairs) h e = refl
no_object (pairs (pair_and k t ps)) h e = absurd (omega arith)
no_object _ h e = absurd (cc)
