-- The operations of a patch, one after another.
use Rattle.std.proofs.Common.{◌≡◌, ℕ, suc, ◌+◌, List, [], ◌∷◌, ◌++◌, length, map, Option, Some, None, Result, Ok, Err, refl, sym, ap, ◌∙◌, arith}
use Rattle.json_grammar.specs.Tree.{Tree, trees_list, list_trees}
use Rattle.json_patch.specs.Patch.{Operation, PatchFailure, bad_patch, operation_of, operations_from, applied, applied_from}
use Rattle.json_patch.specs.Laws.{then_applied_from, AppliedInTurn, AreOperations, PatchAppliesOperations, FirstBadOperationIsNamed}

after : (n m : ℕ) → suc n + m ≡ n + suc m
after n m = omega arith

none_after : (n : ℕ) → n + 0 ≡ n
none_after n = omega arith

pub applied_in_turn : AppliedInTurn
applied_in_turn n [] ps t = ap (λ m. applied_from m ps t) (sym (none_after n))
applied_in_turn n (o ∷ os) ps t = by (applied o t) (λ u. applied_in_turn (suc n) os ps u)
  where
    by : (r : Result Tree PatchFailure) → ((u : Tree) → applied_from (suc n) (os ++ ps) u ≡ then_applied_from (applied_from (suc n) os u) (suc n + length os) ps)
        → elim r as (λ _. Result Tree (PatchFailure × Option ℕ)) [ Ok u ↦ applied_from (suc n) (os ++ ps) u | Err e ↦ Err (e, Some n) ]
        ≡ then_applied_from (elim r as (λ _. Result Tree (PatchFailure × Option ℕ)) [ Ok u ↦ applied_from (suc n) os u | Err e ↦ Err (e, Some n) ]) (n + suc (length os)) ps
    by (Ok u) h = h u ∙ ap (λ m. then_applied_from (applied_from (suc n) os u) m ps) (after n (length os))
    by (Err e) h = refl

listed : (ts : List Tree) → trees_list (list_trees ts) ≡ ts
listed [] = refl
listed (t ∷ ts) = ap (λ us. t ∷ us) (listed ts)

-- the head and the tail of what is the same
same_head : (x y : Option Operation) (xs ys : List (Option Operation)) → x ∷ xs ≡ y ∷ ys → x ≡ y
same_head x y xs ys e = cc

same_tail : (x y : Option Operation) (xs ys : List (Option Operation)) → x ∷ xs ≡ y ∷ ys → xs ≡ ys
same_tail x y xs ys e = cc

nil_cons : (x : Option Operation) (xs : List (Option Operation)) → [] ≡ x ∷ xs → ⊥
nil_cons x xs e = cc

cons_nil : (x : Option Operation) (xs : List (Option Operation)) → x ∷ xs ≡ [] → ⊥
cons_nil x xs e = cc

-- an operation before others
abbrev before : ℕ → Option Operation → Result (List Operation) ℕ → Result (List Operation) ℕ
before n o r = elim o as (λ _. Result (List Operation) ℕ) [ None ↦ Err n | Some o ↦ elim r as (λ _. Result (List Operation) ℕ) [ Ok os ↦ Ok (o ∷ os) | Err m ↦ Err m ] ]

good : (n : ℕ) (ts : List Tree) (os : List Operation) → AreOperations ts os → operations_from n ts ≡ Ok os
good n [] [] h = refl
good n [] (o ∷ os) h = absurd (nil_cons (Some o) (map Some os) h)
good n (t ∷ ts) [] h = absurd (cons_nil (operation_of t) (map operation_of ts) h)
good n (t ∷ ts) (o ∷ os) h =
    ap (λ o. before n o (operations_from (suc n) ts)) (same_head (operation_of t) (Some o) (map operation_of ts) (map Some os) h)
    ∙ ap (before n (Some o)) (good (suc n) ts os (same_tail (operation_of t) (Some o) (map operation_of ts) (map Some os) h))

bad : (n : ℕ) (ts : List Tree) (os : List Operation) (u : Tree) (us : List Tree) → AreOperations ts os → operation_of u ≡ None → operations_from n (ts ++ u ∷ us) ≡ Err (n + length ts)
bad n [] os u us h e = ap (λ o. before n o (operations_from (suc n) us)) e ∙ ap Err (sym (none_after n))
bad n (t ∷ ts) [] u us h e = absurd (cons_nil (operation_of t) (map operation_of ts) h)
bad n (t ∷ ts) (o ∷ os) u us h e =
    ap (λ o. before n o (operations_from (suc n) (ts ++ u ∷ us))) (same_head (operation_of t) (Some o) (map operation_of ts) (map Some os) h)
    ∙ ap (before n (Some o)) (bad (suc n) ts os u us (same_tail (operation_of t) (Some o) (map operation_of ts) (map Some os) h) e)
    ∙ ap Err (after n (length ts))

-- what is made of the operations that were read
abbrev made : Tree → Result (List Operation) ℕ → Result Tree (PatchFailure × Option ℕ)
made t r = elim r as (λ _. Result Tree (PatchFailure × Option ℕ)) [ Ok os ↦ applied_from 0 os t | Err n ↦ Err (bad_patch, Some n) ]

pub patch_applies_operations : PatchAppliesOperations
patch_applies_operations t ts os h = ap (λ us. made t (operations_from 0 us)) (listed ts) ∙ ap (made t) (good 0 ts os h)

pub first_bad_operation_is_named : FirstBadOperationIsNamed
first_bad_operation_is_named t ts os u us h e =
    let z : 0 + length ts ≡ length ts = omega arith in
    ap (λ us. made t (operations_from 0 us)) (listed (ts ++ u ∷ us)) ∙ ap (made t) (bad 0 ts os u us h e) ∙ ap (λ n. Err (bad_patch, Some n)) z
