-- Compact texts of containers, a part more each time.
use Rattle.std.proofs.Common.{◌≡◌, ℕ, zero, suc, ◌+◌, ◌==◌, ◌≤◌, List, [], ◌∷◌, ◌++◌, length, take, slice_get, None, Some, refl, sym, ap, ap₂, ◌∙◌, arith, append_assoc, append-nil}
use Rattle.std.proofs.lemmas.Bool.{ne_eqb}
use Rattle.json_grammar.specs.Sizes.{nodes, pairs_nodes}
use Rattle.json_grammar.specs.Tree.{Tree, null, boolean, num, text, list, pairs, Trees, no_trees, tree_and, Pairs, no_pairs, pair_and, list_trees, list_pairs, trees_list, pairs_list}
use Rattle.json_model.specs.Print.{shown, trees_shown, more_trees_shown, pairs_shown, more_pairs_shown, quoted}
use Rattle.json_layout.specs.Pieces.{comma}
use Rattle.json_value.specs.Seen.{list_of, object_pairs}
use Rattle.json_doc_print.proofs.Trees.{array_back, object_back}

-- ---- with no indent a level is like the other

mutual
  level_free : (d e : ℕ) (t : Tree) → shown None d t ≡ shown None e t
  level_free d e null = refl
  level_free d e (boolean b) = refl
  level_free d e (num l) = refl
  level_free d e (text s) = refl
  level_free d e (list ts) = ap (λ l. 91 ∷ (l ++ 93 ∷ [])) (trees_free d e ts)
  level_free d e (pairs ps) = ap (λ l. 123 ∷ (l ++ 125 ∷ [])) (pairs_free d e ps)

  trees_free : (d e : ℕ) (ts : Trees) → trees_shown None d ts ≡ trees_shown None e ts
  trees_free d e no_trees = refl
  trees_free d e (tree_and t ts) = ap₂ (λ a b. a ++ (b ++ [])) (level_free (suc d) (suc e) t) (more_trees_free (suc d) (suc e) ts)

  more_trees_free : (d e : ℕ) (ts : Trees) → more_trees_shown None d ts ≡ more_trees_shown None e ts
  more_trees_free d e no_trees = refl
  more_trees_free d e (tree_and t ts) = ap₂ (λ a b. 44 ∷ (a ++ b)) (level_free d e t) (more_trees_free d e ts)

  pairs_free : (d e : ℕ) (ps : Pairs) → pairs_shown None d ps ≡ pairs_shown None e ps
  pairs_free d e no_pairs = refl
  pairs_free d e (pair_and k t ps) = ap₂ (λ a b. quoted k ++ (58 ∷ (a ++ (b ++ [])))) (level_free (suc d) (suc e) t) (more_pairs_free (suc d) (suc e) ps)

  more_pairs_free : (d e : ℕ) (ps : Pairs) → more_pairs_shown None d ps ≡ more_pairs_shown None e ps
  more_pairs_free d e no_pairs = refl
  more_pairs_free d e (pair_and k t ps) = ap₂ (λ a b. 44 ∷ (quoted k ++ (58 ∷ (a ++ b)))) (level_free d e t) (more_pairs_free d e ps)

-- ---- arrays

-- the bracket and the first i elements
abbrev pub array_text : List Tree → ℕ → List ℕ
array_text ts i = 91 ∷ trees_shown None 0 (list_trees (take i ts))

next : (i : ℕ) → suc i ≡ i + 1
next i = omega arith

-- a comma precedes each but the first
behind : (i : ℕ) → comma (suc i == 0) ≡ 44 ∷ []
behind i = ap comma (ne_eqb (suc i) 0 (λ e. absurd (omega arith)))

joined : (a m c s : List ℕ) → ((a ++ (m ++ [])) ++ c) ++ s ≡ a ++ ((m ++ (c ++ s)) ++ [])
joined a m c s = simp (append_assoc, append-nil)

more_trees : (ts : List Tree) (i : ℕ) (u : Tree) → slice_get ts i ≡ Some u → more_trees_shown None 1 (list_trees (take i ts)) ++ (44 ∷ shown None 0 u) ≡ more_trees_shown None 1 (list_trees (take (suc i) ts))
more_trees [] i u e = absurd (cc)
more_trees (t ∷ ts) zero u e = let s : u ≡ t = cc in ap (λ l. 44 ∷ l) (ap (shown None 0) s ∙ level_free 0 1 t ∙ sym (append-nil (shown None 1 t)))
more_trees (t ∷ ts) (suc i) u e = ap (λ l. 44 ∷ l) (append_assoc (shown None 1 t) _ _ ∙ ap (λ l. shown None 1 t ++ l) (more_trees ts i u e))

element_after : (ts : List Tree) (i : ℕ) (u : Tree) → slice_get ts i ≡ Some u → (array_text ts i ++ comma (i == 0)) ++ shown None 0 u ≡ array_text ts (suc i)
element_after [] i u e = absurd (cc)
element_after (t ∷ ts) zero u e = let s : u ≡ t = cc in ap (λ l. 91 ∷ l) (ap (shown None 0) s ∙ level_free 0 1 t ∙ sym (append-nil (shown None 1 t)))
element_after (t ∷ ts) (suc i) u e =
    ap (λ c. (array_text (t ∷ ts) (suc i) ++ c) ++ shown None 0 u) (behind i)
    ∙ ap (λ l. 91 ∷ l) (joined (shown None 1 t) (more_trees_shown None 1 (list_trees (take i ts))) (44 ∷ []) (shown None 0 u) ∙ ap (λ l. shown None 1 t ++ (l ++ [])) (more_trees ts i u e))

pub element_shown : (ts : List Tree) (i : ℕ) (c : List ℕ) (u : Tree) → c ≡ comma (i == 0) → slice_get ts i ≡ Some u → (array_text ts i ++ c) ++ shown None 0 u ≡ array_text ts (i + 1)
element_shown ts i c u s e = ap (λ x. (array_text ts i ++ x) ++ shown None 0 u) s ∙ element_after ts i u e ∙ ap (array_text ts) (next i)

-- an array is the list of its elements
pub list_itself : (t : Tree) (ts : List Tree) → Some ts ≡ list_of t → list (list_trees ts) ≡ t
list_itself (list us) ts e = let s : ts ≡ trees_list us = cc in ap (λ l. list (list_trees l)) s ∙ array_back (list us) refl
list_itself null ts e = absurd (cc)
list_itself (boolean b) ts e = absurd (cc)
list_itself (num l) ts e = absurd (cc)
list_itself (text s) ts e = absurd (cc)
list_itself (pairs ps) ts e = absurd (cc)

-- ---- objects

-- the brace and the first i members
abbrev pub object_text : List (List ℕ × Tree) → ℕ → List ℕ
object_text ps i = 123 ∷ pairs_shown None 0 (list_pairs (take i ps))

joined_pairs : (q a m c r s : List ℕ) → ((q ++ (58 ∷ (a ++ (m ++ [])))) ++ (c ++ (r ++ 58 ∷ []))) ++ s ≡ q ++ (58 ∷ (a ++ ((m ++ (c ++ (r ++ (58 ∷ s)))) ++ [])))
joined_pairs q a m c r s = simp (append_assoc, append-nil)

first_member : (k : List ℕ) (t : Tree) → (quoted k ++ 58 ∷ []) ++ shown None 0 t ≡ quoted k ++ (58 ∷ (shown None 1 t ++ []))
first_member k t = append_assoc (quoted k) (58 ∷ []) (shown None 0 t) ∙ ap (λ l. quoted k ++ (58 ∷ l)) (level_free 0 1 t ∙ sym (append-nil (shown None 1 t)))

more_pairs : (ps : List (List ℕ × Tree)) (i : ℕ) (k : List ℕ) (u : Tree) → slice_get ps i ≡ Some (k, u)
    → more_pairs_shown None 1 (list_pairs (take i ps)) ++ (44 ∷ (quoted k ++ (58 ∷ shown None 0 u))) ≡ more_pairs_shown None 1 (list_pairs (take (suc i) ps))
more_pairs [] i k u e = absurd (cc)
more_pairs (p ∷ ps) zero k u e =
    let j : k ≡ p.0 = cc in let s : u ≡ p.1 = cc in
    ap₂ (λ q t. 44 ∷ (quoted q ++ (58 ∷ shown None 0 t))) j s ∙ ap (λ l. 44 ∷ (quoted p.0 ++ (58 ∷ l))) (level_free 0 1 p.1 ∙ sym (append-nil (shown None 1 p.1)))
more_pairs (p ∷ ps) (suc i) k u e =
    ap (λ l. 44 ∷ l) (append_assoc (quoted p.0) _ _ ∙ ap (λ l. quoted p.0 ++ (58 ∷ l)) (append_assoc (shown None 1 p.1) _ _ ∙ ap (λ l. shown None 1 p.1 ++ l) (more_pairs ps i k u e)))

member_after : (ps : List (List ℕ × Tree)) (i : ℕ) (k : List ℕ) (u : Tree) → slice_get ps i ≡ Some (k, u) → (object_text ps i ++ (comma (i == 0) ++ (quoted k ++ 58 ∷ []))) ++ shown None 0 u ≡ object_text ps (suc i)
member_after [] i k u e = absurd (cc)
member_after (p ∷ ps) zero k u e =
    let j : k ≡ p.0 = cc in let s : u ≡ p.1 = cc in
    ap₂ (λ q t. 123 ∷ ((quoted q ++ 58 ∷ []) ++ shown None 0 t)) j s ∙ ap (λ l. 123 ∷ l) (first_member p.0 p.1)
member_after (p ∷ ps) (suc i) k u e =
    ap (λ c. (object_text (p ∷ ps) (suc i) ++ (c ++ (quoted k ++ 58 ∷ []))) ++ shown None 0 u) (behind i)
    ∙ ap (λ l. 123 ∷ l) (joined_pairs (quoted p.0) (shown None 1 p.1) (more_pairs_shown None 1 (list_pairs (take i ps))) (44 ∷ []) (quoted k) (shown None 0 u) ∙ ap (λ l. quoted p.0 ++ (58 ∷ (shown None 1 p.1 ++ (l ++ [])))) (more_pairs ps i k u e))

pub member_shown : (ps : List (List ℕ × Tree)) (i : ℕ) (c k : List ℕ) (u : Tree) → c ≡ comma (i == 0) → slice_get ps i ≡ Some (k, u)
    → (object_text ps i ++ (c ++ (quoted k ++ 58 ∷ []))) ++ shown None 0 u ≡ object_text ps (i + 1)
member_shown ps i c k u s e = ap (λ x. (object_text ps i ++ (x ++ (quoted k ++ 58 ∷ []))) ++ shown None 0 u) s ∙ member_after ps i k u e ∙ ap (object_text ps) (next i)

-- an object is the list of its members
pub pairs_itself : (t : Tree) (ps : List (List ℕ × Tree)) → Some ps ≡ object_pairs t → pairs (list_pairs ps) ≡ t
pairs_itself (pairs us) ps e = let s : ps ≡ pairs_list us = cc in ap (λ l. pairs (list_pairs l)) s ∙ object_back (pairs us) refl
pairs_itself null ps e = absurd (cc)
pairs_itself (boolean b) ps e = absurd (cc)
pairs_itself (num l) ps e = absurd (cc)
pairs_itself (text s) ps e = absurd (cc)
pairs_itself (list ts) ps e = absurd (cc)

-- a member's value has no more nodes than all
pub member_within : (ps : List (List ℕ × Tree)) (i : ℕ) (k : List ℕ) (u : Tree) → slice_get ps i ≡ Some (k, u) → nodes u ≤ pairs_nodes (list_pairs ps)
member_within [] i k u e = absurd (cc)
member_within (p ∷ ps) zero k u e = let s : p.1 ≡ u = cc in omega (arith, ap nodes s)
member_within (p ∷ ps) (suc i) k u e = omega (arith, member_within ps i k u e)

-- ---- past the end

pub past_end : {A : Type 0} (xs : List A) (i : ℕ) → slice_get xs i ≡ None → length xs ≤ i
past_end [] i e = omega arith
past_end (x ∷ xs) zero e = absurd (cc)
past_end (x ∷ xs) (suc i) e = omega (arith, past_end xs i e)
