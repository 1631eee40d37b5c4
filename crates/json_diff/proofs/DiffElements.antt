-- The operations on the elements of an array.
use Rattle.std.proofs.Common.{◌≡◌, ℕ, zero, suc, ◌+◌, ◌-◌, ◌<◌, ◌≤◌, ◌^◌, List, [], ◌∷◌, ◌++◌, append_assoc, length, map, take, drop, reverse, Bool, true, false, cond, Some, Ok, refl, sym, ap, ◌∙◌, subst, subst₂, arith}
use Rattle.std.specs.Prelude.{ok_or, option_map, slice_get, decimal}
use Rattle.std.proofs.lemmas.Bool.{and_parts, and_from}
use Rattle.std.proofs.lemmas.List.{reverse-append, reverse-reverse, length-reverse}
use Rattle.json_grammar.specs.Tree.{Tree, list, Trees, no_trees, tree_and, trees_list, list_trees}
use Rattle.json_model.specs.Edit.{index_step, remove_at, not_found, within, pushed, without_index, edited_once, and_then}
use Rattle.json_model.specs.Same.{same, trees_same}
use Rattle.json_patch.specs.Pointer.{step_of_token, index_of_token}
use Rattle.json_patch.specs.Patch.{Operation, add_at, remove, insert_before, insert_at_index, lookup_outcome, applied}
use Rattle.json_diff.specs.Diff.{under, common_front, common_back, element_removals}
use Rattle.json_patch.proofs.Indexes.{decimal_is_index}
use Rattle.json_patch.proofs.PatchLaws.{no_dash}
use Rattle.json_patch.proofs.ReplacedAt.{replaced_at_index}
use Rattle.json_diff.proofs.DiffSteps.{Makes, made_nothing, made_first, made_both, AreBelowRoot, made_under}

-- ---- one element, after those that are done

removed_there : (done : List Tree) (x : Tree) (rest : List Tree) → without_index (length done) (list_trees (done ++ x ∷ rest)) ≡ Ok (list_trees (done ++ rest))
removed_there [] x rest = refl
removed_there (d ∷ done) x rest = ap (within (λ us. tree_and d us)) (removed_there done x rest)

inserted_there : (done : List Tree) (u : Tree) (rest : List Tree) → insert_before (length done) u (list_trees (done ++ rest)) ≡ Ok (list_trees (done ++ u ∷ rest))
inserted_there [] u rest = refl
inserted_there (d ∷ done) u rest = ap (within (λ us. tree_and d us)) (inserted_there done u rest)

got_there : (done : List Tree) (x : Tree) (rest : List Tree) → slice_get (trees_list (list_trees (done ++ x ∷ rest))) (length done) ≡ Some x
got_there [] x rest = refl
got_there (d ∷ done) x rest = got_there done x rest

replaced_there : (done : List Tree) (x y : Tree) (rest : List Tree) → replaced_at_index (length done) y (list_trees (done ++ x ∷ rest)) ≡ list_trees (done ++ y ∷ rest)
replaced_there [] x y rest = refl
replaced_there (d ∷ done) x y rest = ap (λ us. tree_and d us) (replaced_there done x y rest)

module _ (i : ℕ) (done : List Tree) (is : i ≡ length done) (low : i < 2 ^ 64) where
  abbrev array : List Tree → Tree
  array rest = list (list_trees (done ++ rest))

  index : index_of_token (decimal i) ≡ Some i
  index = decimal_is_index i low

  step : (ts : Trees) → step_of_token (decimal i) (list ts) ≡ Ok (index_step i)
  step ts = ap (λ o. ok_or (option_map index_step o) not_found) index

  pub element_removed : (x : Tree) (rest : List Tree) → applied (remove (decimal i ∷ [])) (array (x ∷ rest)) ≡ Ok (array rest)
  element_removed x rest = ap lookup_outcome (
      ap (λ r. and_then (within (λ s. remove_at [] s) r) (λ e. edited_once e (array (x ∷ rest)))) (step (list_trees (done ++ x ∷ rest)))
      ∙ ap (λ j. within list (without_index j (list_trees (done ++ x ∷ rest)))) is
      ∙ ap (within list) (removed_there done x rest)
      )

  pub element_added : (u : Tree) (rest : List Tree) → applied (add_at (decimal i ∷ []) u) (array rest) ≡ Ok (array (u ∷ rest))
  element_added u rest = ap lookup_outcome (
      ap (λ b. within list (cond b (Ok (pushed u (list_trees (done ++ rest)))) (insert_at_index (index_of_token (decimal i)) u (list_trees (done ++ rest))))) (no_dash (decimal i) i index)
      ∙ ap (λ o. within list (insert_at_index o u (list_trees (done ++ rest)))) index
      ∙ ap (λ j. within list (insert_before j u (list_trees (done ++ rest)))) is
      ∙ ap (within list) (inserted_there done u rest)
      )

  pub element_led : (os : List Operation) (x y : Tree) (rest : List Tree) → AreBelowRoot os → Makes os x y → Makes (map (under (decimal i)) os) (array (x ∷ rest)) (array (y ∷ rest))
  element_led os x y rest below makes =
      subst (λ (us : Trees). Makes (map (under (decimal i)) os) (array (x ∷ rest)) (list us))
      (ap (λ j. replaced_at_index j y (list_trees (done ++ x ∷ rest))) is ∙ replaced_there done x y rest)
      (made_under os (decimal i) (index_step i) (array (x ∷ rest)) x y below (step (list_trees (done ++ x ∷ rest))) (ap (λ o. ok_or o not_found) (ap (slice_get (trees_list (list_trees (done ++ x ∷ rest)))) is ∙ got_there done x rest)) makes)

-- ---- elements that are left are removed

pub elements_removed : (i : ℕ) (done ts back : List Tree) → i ≡ length done → i + length ts ≤ 2 ^ 64 → Makes (element_removals i ts) (list (list_trees (done ++ (ts ++ back)))) (list (list_trees (done ++ back)))
elements_removed i done [] back is low = made_nothing (list (list_trees (done ++ back)))
elements_removed i done (t ∷ ts) back is low =
    made_first (remove (decimal i ∷ [])) (element_removals i ts) (list (list_trees (done ++ (t ∷ (ts ++ back))))) (list (list_trees (done ++ (ts ++ back)))) (list (list_trees (done ++ back)))
    (element_removed i done is (omega arith) t (ts ++ back)) (elements_removed i done ts back is (omega arith))

-- ---- one element more is done

done_more : (done xs : List Tree) (y : Tree) → list (list_trees ((done ++ y ∷ []) ++ xs)) ≡ list (list_trees (done ++ (y ∷ xs)))
done_more done xs y = ap (λ zs. list (list_trees zs)) (append_assoc done (y ∷ []) xs)

pub makes_more : (os ps : List Operation) (t : Tree) (done xs zs : List Tree) (y : Tree) → Makes os t (list (list_trees (done ++ (y ∷ xs)))) → Makes ps (list (list_trees ((done ++ y ∷ []) ++ xs))) (list (list_trees ((done ++ y ∷ []) ++ zs)))
    → Makes (os ++ ps) t (list (list_trees (done ++ (y ∷ zs))))
makes_more os ps t done xs zs y first rest =
    made_both os ps t (list (list_trees (done ++ (y ∷ xs)))) (list (list_trees (done ++ (y ∷ zs)))) first (subst₂ (λ a b. Makes ps a b) (done_more done xs y) (done_more done zs y) rest)

-- ---- the last elements, which are the same

-- the m first
abbrev pub taken : ℕ → Trees → Trees
taken m no_trees = no_trees
taken zero (tree_and u us) = no_trees
taken (suc m) (tree_and u us) = tree_and u (taken m us)

list_back : (us : Trees) → list_trees (trees_list us) ≡ us
list_back no_trees = refl
list_back (tree_and u us) = ap (λ ts. tree_and u ts) (list_back us)

no_true : false ≡ true → ⊥
no_true e = cc

pub same_both : (ws back : List Tree) (m : ℕ) (us : Trees) → trees_same (list_trees ws) (taken m us) ≡ true → trees_same (list_trees back) (list_trees (drop m (trees_list us))) ≡ true → trees_same (list_trees (ws ++ back)) us ≡ true
same_both [] back zero us h g = subst (λ ts. trees_same (list_trees back) ts ≡ true) (list_back us) g
same_both [] back (suc m) no_trees h g = g
same_both [] back (suc m) (tree_and u us) h g = absurd (no_true h)
same_both (w ∷ ws) back m no_trees h g = absurd (no_true h)
same_both (w ∷ ws) back zero (tree_and u us) h g = absurd (no_true h)
same_both (w ∷ ws) back (suc m) (tree_and u us) h g =
    let a = and_parts (same w u) (trees_same (list_trees ws) (taken m us)) h in and_from (same w u) (trees_same (list_trees (ws ++ back)) us) a.0 (same_both ws back m us a.1 g)

same_joined : (xs ys vs ws : List Tree) → trees_same (list_trees xs) (list_trees ys) ≡ true → trees_same (list_trees vs) (list_trees ws) ≡ true → trees_same (list_trees (xs ++ vs)) (list_trees (ys ++ ws)) ≡ true
same_joined [] [] vs ws h g = g
same_joined [] (b ∷ ys) vs ws h g = absurd (no_true h)
same_joined (a ∷ xs) [] vs ws h g = absurd (no_true h)
same_joined (a ∷ xs) (b ∷ ys) vs ws h g =
    let p = and_parts (same a b) (trees_same (list_trees xs) (list_trees ys)) h in and_from (same a b) (trees_same (list_trees (xs ++ vs)) (list_trees (ys ++ ws))) p.0 (same_joined xs ys vs ws p.1 g)

same_reversed : (xs ys : List Tree) → trees_same (list_trees xs) (list_trees ys) ≡ true → trees_same (list_trees (reverse xs)) (list_trees (reverse ys)) ≡ true
same_reversed [] [] h = refl
same_reversed [] (b ∷ ys) h = absurd (no_true h)
same_reversed (a ∷ xs) [] h = absurd (no_true h)
same_reversed (a ∷ xs) (b ∷ ys) h =
    let p = and_parts (same a b) (trees_same (list_trees xs) (list_trees ys)) h in
    subst₂ (λ xs ys. trees_same (list_trees xs) (list_trees ys) ≡ true) (sym (reverse-append (a ∷ []) xs)) (sym (reverse-append (b ∷ []) ys))
    (same_joined (reverse xs) (reverse ys) (a ∷ []) (b ∷ []) (same_reversed xs ys p.1) (and_from (same a b) true p.0 refl))

front_same : (xs ys : List Tree) → trees_same (list_trees (take (common_front xs ys) xs)) (list_trees (take (common_front xs ys) ys)) ≡ true
front_same [] ys = refl
front_same (a ∷ xs) [] = refl
front_same (a ∷ xs) (b ∷ ys) = by (same a b) refl (front_same xs ys)
  where
    by : (c : Bool) → same a b ≡ c → trees_same (list_trees (take (common_front xs ys) xs)) (list_trees (take (common_front xs ys) ys)) ≡ true
        → trees_same (list_trees (take (cond c (suc (common_front xs ys)) 0) (a ∷ xs))) (list_trees (take (cond c (suc (common_front xs ys)) 0) (b ∷ ys))) ≡ true
    by true e h = and_from (same a b) (trees_same (list_trees (take (common_front xs ys) xs)) (list_trees (take (common_front xs ys) ys))) e h
    by false e h = refl

front_low : (xs ys : List Tree) → (common_front xs ys ≤ length xs) × (common_front xs ys ≤ length ys)
front_low [] ys = (omega arith, omega arith)
front_low (a ∷ xs) [] = (omega arith, omega arith)
front_low (a ∷ xs) (b ∷ ys) = by (same a b) (front_low xs ys)
  where
    by : (c : Bool) → (common_front xs ys ≤ length xs) × (common_front xs ys ≤ length ys) → (cond c (suc (common_front xs ys)) 0 ≤ suc (length xs)) × (cond c (suc (common_front xs ys)) 0 ≤ suc (length ys))
    by true h = (omega arith, omega arith)
    by false h = (omega arith, omega arith)

drop_joined : (xs ys : List Tree) (n : ℕ) → n ≡ length xs → drop n (xs ++ ys) ≡ ys
drop_joined [] ys n e = ap (λ m. drop m ys) e
drop_joined (a ∷ xs) ys zero e = absurd (omega arith)
drop_joined (a ∷ xs) ys (suc n) e = drop_joined xs ys n (omega arith)

parts : (n : ℕ) (xs : List Tree) → take n xs ++ drop n xs ≡ xs
parts zero xs = refl
parts (suc n) [] = refl
parts (suc n) (a ∷ xs) = ap (λ ys. a ∷ ys) (parts n xs)

length_left : (n : ℕ) (xs : List Tree) → n ≤ length xs → length xs - n ≡ length (drop n xs)
length_left zero xs h = omega arith
length_left (suc n) [] h = absurd (omega arith)
length_left (suc n) (a ∷ xs) h = let i = length_left n xs (omega arith) in omega (arith, i)

-- the last n are the first n from the end
last_reversed : (n : ℕ) (xs : List Tree) → n ≤ length (reverse xs) → drop (length xs - n) xs ≡ reverse (take n (reverse xs))
last_reversed n xs h =
    let rs : List Tree = reverse xs in
    let e : xs ≡ reverse (drop n rs) ++ reverse (take n rs) = sym (reverse-reverse xs) ∙ ap reverse (sym (parts n rs)) ∙ reverse-append (take n rs) (drop n rs) in
    let l : length xs - n ≡ length (reverse (drop n rs)) = ap (λ k. k - n) (sym (length-reverse xs)) ∙ length_left n rs h ∙ sym (length-reverse (drop n rs)) in
    ap (λ ys. drop (length xs - n) ys) e ∙ drop_joined (reverse (drop n rs)) (reverse (take n rs)) (length xs - n) l

pub back_same : (xs ys : List Tree) → trees_same (list_trees (drop (length xs - common_back xs ys) xs)) (list_trees (drop (length ys - common_back xs ys) ys)) ≡ true
back_same xs ys =
    let n : ℕ = common_back xs ys in
    let low = front_low (reverse xs) (reverse ys) in
    subst₂ (λ xs ys. trees_same (list_trees xs) (list_trees ys) ≡ true) (sym (last_reversed n xs low.0)) (sym (last_reversed n ys low.1))
    (same_reversed (take n (reverse xs)) (take n (reverse ys)) (front_same (reverse xs) (reverse ys)))

pub take_and_drop : (n : ℕ) (xs : List Tree) → take n xs ++ drop n xs ≡ xs
take_and_drop n xs = parts n xs
