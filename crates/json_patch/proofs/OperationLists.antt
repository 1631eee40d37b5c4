-- Operations, read and applied in turn.
use Rattle.std.proofs.Common.{◌≡◌, ℕ, zero, suc, ◌+◌, ◌≤◌, List, [], ◌∷◌, ◌++◌, append_assoc, Option, Some, None, Result, Ok, Err, refl, sym, ap, ◌∙◌, drop, length, add-one, arith}
use Rattle.std.specs.Prelude.{slice_get}
use Rattle.json_grammar.specs.Tree.{Tree, list, list_trees}
use Rattle.json_doc_print.proofs.Trees.{list_again}
use Rattle.json_patch.specs.Patch.{Operation, PatchFailure, applied, applied_from, operation_of, operations_from, bad_patch, patched}
use Rattle.json_patch.specs.Errors.{with_number}

-- operations before others, if these are all operations
abbrev pub ahead : List Operation → Result (List Operation) ℕ → Result (List Operation) ℕ
ahead os (Ok ps) = Ok (os ++ ps)
ahead os (Err m) = Err m

-- ---- items of a list

pub drop_got : {A : Type 0} (xs : List A) (i : ℕ) (x : A) → Some x ≡ slice_get xs i → drop i xs ≡ x ∷ drop (i + 1) xs
drop_got [] i x e = cc
drop_got (y ∷ ys) zero x e = let same : x ≡ y = cc in ap (λ z. z ∷ ys) (sym same)
drop_got (y ∷ ys) (suc i) x e = drop_got ys i x e ∙ ap (λ n. x ∷ drop n (y ∷ ys)) (next i)
  where
    next : (i : ℕ) → suc (i + 1) ≡ suc i + 1
    next i = omega arith

pub got_past : {A : Type 0} (xs : List A) (i : ℕ) → None ≡ slice_get xs i → length xs ≤ i
got_past [] i e = omega arith
got_past (y ∷ ys) zero e = cc
got_past (y ∷ ys) (suc i) e = let h = got_past ys i e in omega (arith, h)

-- ---- reading

read_one : (n : ℕ) (u : Tree) (us : List Tree) (o : Operation) → Some o ≡ operation_of u → operations_from n (u ∷ us) ≡ ahead (o ∷ []) (operations_from (n + 1) us)
read_one n u us o e = by (operation_of u) e ∙ ap (λ m. ahead (o ∷ []) (operations_from m us)) (sym (add-one n))
  where
    with : (r : Result (List Operation) ℕ) → elim r as (λ _. Result (List Operation) ℕ) [ Ok os ↦ Ok (o ∷ os) | Err m ↦ Err m ] ≡ ahead (o ∷ []) r
    with (Ok os) = refl
    with (Err m) = refl

    by : (q : Option Operation) → Some o ≡ q
        → elim q as (λ _. Result (List Operation) ℕ) [ None ↦ Err n | Some p ↦ elim (operations_from (suc n) us) as (λ _. Result (List Operation) ℕ) [ Ok os ↦ Ok (p ∷ os) | Err m ↦ Err m ] ]
        ≡ ahead (o ∷ []) (operations_from (suc n) us)
    by None h = cc
    by (Some p) h = let same : p ≡ o = cc in ap (λ q. elim (operations_from (suc n) us) as (λ _. Result (List Operation) ℕ) [ Ok os ↦ Ok (q ∷ os) | Err m ↦ Err m ]) same ∙ with (operations_from (suc n) us)

ahead_twice : (os ps : List Operation) (r : Result (List Operation) ℕ) → ahead os (ahead ps r) ≡ ahead (os ++ ps) r
ahead_twice os ps (Ok qs) = ap Ok (sym (append_assoc os ps qs))
ahead_twice os ps (Err m) = refl

pub read_more : (os more : List Operation) (r : Result (List Operation) ℕ) (xs : List Tree) (i : ℕ) (u : Tree) (o : Operation) → r ≡ ahead os (operations_from i (drop i xs)) → Some u ≡ slice_get xs i → Some o ≡ operation_of u
    → more ≡ os ++ (o ∷ []) → r ≡ ahead more (operations_from (i + 1) (drop (i + 1) xs))
read_more os more r xs i u o h got is m =
    h ∙ ap (λ us. ahead os (operations_from i us)) (drop_got xs i u got) ∙ ap (ahead os) (read_one i u (drop (i + 1) xs) o is) ∙ ahead_twice os (o ∷ []) (operations_from (i + 1) (drop (i + 1) xs))
    ∙ ap (λ ps. ahead ps (operations_from (i + 1) (drop (i + 1) xs))) (sym m)

pub read_none : (os : List Operation) (r : Result (List Operation) ℕ) (xs : List Tree) (i : ℕ) (u : Tree) → r ≡ ahead os (operations_from i (drop i xs)) → Some u ≡ slice_get xs i → None ≡ operation_of u → r ≡ Err i
read_none os r xs i u h got is = h ∙ ap (λ us. ahead os (operations_from i us)) (drop_got xs i u got) ∙ ap (ahead os) (by (operation_of u) is)
  where
    by : (q : Option Operation) → None ≡ q
        → elim q as (λ _. Result (List Operation) ℕ) [ None ↦ Err i | Some p ↦ elim (operations_from (suc i) (drop (i + 1) xs)) as (λ _. Result (List Operation) ℕ) [ Ok os ↦ Ok (p ∷ os) | Err m ↦ Err m ] ]
        ≡ Err i
    by None e = refl
    by (Some p) e = cc

-- ---- applying

pub stopped : (n : ℕ) (o : Operation) (os : List Operation) (t : Tree) (e : PatchFailure × Option ℕ) → with_number (applied o t) n ≡ Err e → applied_from n (o ∷ os) t ≡ Err e
stopped n o os t e h = by (applied o t) h
  where
    by : (r : Result Tree PatchFailure) → with_number r n ≡ Err e → elim r as (λ _. Result Tree (PatchFailure × Option ℕ)) [ Ok u ↦ applied_from (suc n) os u | Err r ↦ Err (r, Some n) ] ≡ Err e
    by (Ok u) g = cc
    by (Err r) g = g

-- ---- a patch

pub read_length : (n : ℕ) (xs : List Tree) (os : List Operation) → operations_from n xs ≡ Ok os → length os ≡ length xs
read_length n [] os e = let same : [] ≡ os = cc in ap length (sym same)
read_length n (u ∷ us) os e = by (operation_of u) (operations_from (suc n) us) e (λ ps h. read_length (suc n) us ps h)
  where
    by : (q : Option Operation) (r : Result (List Operation) ℕ)
        → elim q as (λ _. Result (List Operation) ℕ) [ None ↦ Err n | Some p ↦ elim r as (λ _. Result (List Operation) ℕ) [ Ok ps ↦ Ok (p ∷ ps) | Err m ↦ Err m ] ] ≡ Ok os
        → ((ps : List Operation) → r ≡ Ok ps → length ps ≡ length us) → length os ≡ length (u ∷ us)
    by None r h g = cc
    by (Some p) (Ok ps) h g = let same : p ∷ ps ≡ os = cc in ap length (sym same) ∙ ap suc (g ps refl)
    by (Some p) (Err m) h g = cc

pub patched_read : (t : Tree) (xs : List Tree) (os : List Operation) → operations_from 0 xs ≡ Ok os → patched t (list (list_trees xs)) ≡ applied_from 0 os t
patched_read t xs os e =
    ap (λ ys. elim (operations_from 0 ys) as (λ _. Result Tree (PatchFailure × Option ℕ)) [ Ok ps ↦ applied_from 0 ps t | Err n ↦ Err (bad_patch, Some n) ]) (list_again xs)
    ∙ ap (λ r. elim r as (λ _. Result Tree (PatchFailure × Option ℕ)) [ Ok ps ↦ applied_from 0 ps t | Err n ↦ Err (bad_patch, Some n) ]) e

pub patched_bad : (t : Tree) (xs : List Tree) (n : ℕ) → operations_from 0 xs ≡ Err n → patched t (list (list_trees xs)) ≡ Err (bad_patch, Some n)
patched_bad t xs n e =
    ap (λ ys. elim (operations_from 0 ys) as (λ _. Result Tree (PatchFailure × Option ℕ)) [ Ok ps ↦ applied_from 0 ps t | Err n ↦ Err (bad_patch, Some n) ]) (list_again xs)
    ∙ ap (λ r. elim r as (λ _. Result Tree (PatchFailure × Option ℕ)) [ Ok ps ↦ applied_from 0 ps t | Err n ↦ Err (bad_patch, Some n) ]) e
