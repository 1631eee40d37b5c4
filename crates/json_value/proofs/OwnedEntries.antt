-- The entries of an index of owned members.
use Rattle.std.proofs.Common.{ℕ, ◌<◌, ◌≤◌, List, length, map, subst}
use Rattle.json_grammar.specs.Sizes.{nodes, pairs_nodes}
use Rattle.json_grammar.specs.Tree.{list_pairs}
use Rattle.json_value.specs.Denotes.{pair_of}
use Rattle.json_doc_print.specs.KeyOrder.{IsKeyOrder, numbers_in}
use Rattle.json_value.specs.OwnedKeys.{numbers_from, owned_key}
use Rattle.json_doc_print.specs.declared.key_order.IndexedMember.{IndexedMember}
use Rattle.json_value.specs.declared.pair.Keyed.{Keyed}
use Rattle.json_value.specs.declared.value.Value.{Value}
use Rattle.json_value.proofs.OwnedOrders.{owned_tree, number_within, number_value}
use Rattle.json_doc_print.proofs.KeyFronts.{number_of, numbered, number_there}

module _ (xs : List (Keyed Value)) (es : List IndexedMember) (is : IsKeyOrder (owned_key xs) (numbers_from 0 (length xs)) (numbers_in es)) where
  pub entry_within : (i : ℕ) → i < length es → number_of es i < length xs
  entry_within i l = subst (λ n. n < length xs) (number_there es i l) (number_within xs (numbers_in es) is i (numbered es i l))

  pub entry_value : (i : ℕ) → i < length es → nodes (owned_tree xs (number_of es i)) ≤ pairs_nodes (list_pairs (map pair_of xs))
  entry_value i l = subst (λ n. nodes (owned_tree xs n) ≤ pairs_nodes (list_pairs (map pair_of xs))) (number_there es i l) (number_value xs (numbers_in es) is i (numbered es i l))
