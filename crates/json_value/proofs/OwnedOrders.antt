-- The members of an owned object by their numbers, and in the order of their keys.
use Rattle.std.proofs.Common.{◌≡◌, ℕ, zero, suc, ◌+◌, ◌<◌, ◌≤◌, List, [], ◌∷◌, ◌++◌, length, map, get_or, refl, sym, ap, ap₂, subst, ◌∙◌, arith, inl, inr, append_assoc, length-append}
use Rattle.std.proofs.lemmas.List.{get_or-map, get_or_at, get_or_default, length-map}
use Rattle.json_grammar.specs.Tree.{Tree, null, list_pairs}
use Rattle.json_grammar.specs.Sizes.{nodes, pairs_nodes}
use Rattle.json_model.specs.Sort.{pairs_sorted}
use Rattle.json_print.specs.Orders.{NumberedKey, IsMember, Rise}
use Rattle.json_value.specs.Denotes.{pair_of}
use Rattle.json_doc_print.specs.KeyOrder.{key_and_number, IsKeyOrder}
use Rattle.json_value.specs.OwnedKeys.{numbers_from, member_at, owned_key}
use Rattle.json_value.specs.declared.pair.Keyed.{Keyed}
use Rattle.json_value.specs.declared.value.Value.{Value}
use Rattle.json_doc_print.proofs.KeyOrders.{paired, sorted_at, in_order, number_in, value_in}

from_up : (key : ℕ → List ℕ) (k n m : ℕ) → m ≤ k → (z : NumberedKey) → IsMember z (map (key_and_number key) (numbers_from k n)) → m ≤ z.1
from_up key k zero m l z h = absurd h
from_up key k (suc n) m l z (inl e) = omega (arith, l, ap (λ (x : NumberedKey). x.1) e)
from_up key k (suc n) m l z (inr h) = from_up key (suc k) n m (omega (arith, l)) z h

pub numbers_rise : (key : ℕ → List ℕ) (k n : ℕ) → Rise (map (key_and_number key) (numbers_from k n))
numbers_rise key k zero = tt
numbers_rise key k (suc n) = (λ z h. let more : suc k ≤ z.1 = from_up key (suc k) n (suc k) (omega arith) z h in omega (arith, more), numbers_rise key (suc k) n)

pub number_below : (k n p : ℕ) → IsMember p (numbers_from k n) → p < k + n
number_below k zero p h = absurd h
number_below k (suc n) p (inl e) = omega (arith, e)
number_below k (suc n) p (inr h) = omega (arith, number_below (suc k) n p h)

one_more : (k n m : ℕ) → m ≡ suc n → numbers_from k m ≡ numbers_from k n ++ (k + n) ∷ []
one_more k n zero e = absurd (omega (arith, e))
one_more k zero (suc m) e = let none : m ≡ 0 = omega (arith, e) in let here : k ≡ k + 0 = omega arith in ap (λ j. k ∷ numbers_from (suc k) j) none ∙ ap (λ j. j ∷ []) here
one_more k (suc n) (suc m) e = let here : suc k + n ≡ k + suc n = omega arith in ap (λ ns. k ∷ ns) (one_more (suc k) n m (omega (arith, e)) ∙ ap (λ j. numbers_from (suc k) n ++ j ∷ []) here)

pub numbers_more : (n : ℕ) → numbers_from 0 (n + 1) ≡ numbers_from 0 n ++ n ∷ []
numbers_more n = let here : 0 + n ≡ n = omega arith in one_more 0 n (n + 1) (omega arith) ∙ ap (λ j. numbers_from 0 n ++ j ∷ []) here

abbrev pub owned_tree : List (Keyed Value) → ℕ → Tree
owned_tree ps n = (member_at ps n).1

pub item_at : (xs : List (Keyed Value)) (n : ℕ) (p : Keyed Value) → n < length xs → p ≡ get_or xs n p → member_at xs n ≡ pair_of p
item_at xs n p l e = get_or-map pair_of xs n p ([], null) l ∙ ap pair_of (sym e)

-- the members are those of the numbers
back_from : (d : List ℕ × Tree) (front ps : List (List ℕ × Tree)) → map (λ n. get_or (front ++ ps) n d) (numbers_from (length front) (length ps)) ≡ ps
back_from d front [] = refl
back_from d front (p ∷ ps) =
    let n : length (front ++ p ∷ []) ≡ suc (length front) = omega (arith, length-append front (p ∷ [])) in
    let rest : map (λ m. get_or (front ++ p ∷ ps) m d) (numbers_from (suc (length front)) (length ps)) ≡ ps =
    subst (λ all. map (λ m. get_or all m d) (numbers_from (suc (length front)) (length ps)) ≡ ps) (append_assoc front (p ∷ []) ps) (subst (λ k. map (λ m. get_or ((front ++ p ∷ []) ++ ps) m d) (numbers_from k (length ps)) ≡ ps) n (back_from d (front ++ p ∷ []) ps)) in
    ap₂ (λ x xs. x ∷ xs) (get_or_at front p ps d (length front) refl) rest

pub owned_members : (ps : List (Keyed Value)) → map (paired (owned_key ps) (owned_tree ps)) (numbers_from 0 (length ps)) ≡ map pair_of ps
owned_members ps = subst (λ n. map (paired (owned_key ps) (owned_tree ps)) (numbers_from 0 n) ≡ map pair_of ps) (length-map ps pair_of) (back_from ([], null) [] (map pair_of ps))

-- an index of them
module _ (xs : List (Keyed Value)) (ns : List ℕ) (is : IsKeyOrder (owned_key xs) (numbers_from 0 (length xs)) ns) where
  pub numbers_sorted : list_pairs (map (paired (owned_key xs) (sorted_at (owned_tree xs))) ns) ≡ pairs_sorted (list_pairs (map pair_of xs))
  numbers_sorted = in_order (owned_key xs) (owned_tree xs) (numbers_from 0 (length xs)) ns is ∙ ap (λ ps. pairs_sorted (list_pairs ps)) (owned_members xs)

  number_there : (i : ℕ) → i < length ns → IsMember (get_or ns i 0) (numbers_from 0 (length xs))
  number_there i l = number_in (owned_key xs) (numbers_from 0 (length xs)) ns is i (get_or ns i 0) l (get_or_default ns i 0 (get_or ns i 0) l)

  pub number_within : (i : ℕ) → i < length ns → get_or ns i 0 < length xs
  number_within i l = omega (arith, number_below 0 (length xs) (get_or ns i 0) (number_there i l))

  pub number_value : (i : ℕ) → i < length ns → nodes (owned_tree xs (get_or ns i 0)) ≤ pairs_nodes (list_pairs (map pair_of xs))
  number_value i l = subst (λ ps. nodes (owned_tree xs (get_or ns i 0)) ≤ pairs_nodes (list_pairs ps)) (owned_members xs) (value_in (owned_key xs) (owned_tree xs) (numbers_from 0 (length xs)) (get_or ns i 0) (number_there i l))
