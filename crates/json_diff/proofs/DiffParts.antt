-- The parts of a patch between two trees, as the calls make them.
use Rattle.std.proofs.Common.{◌≡◌, ℕ, zero, suc, ◌+◌, ◌-◌, ◌<◌, ◌≤◌, List, [], ◌∷◌, ◌++◌, length, map, take, drop, min, get_or, reverse, Bool, true, false, cond, ◌&&◌, Option, Some, None, refl, sym, ap, ap₂, ◌∙◌, arith}
use Rattle.std.specs.Prelude.{slice_get, decimal, nat_lt}
use Rattle.std.proofs.lemmas.Bool.{and_from, lt-ltb}
use Rattle.std.proofs.lemmas.List.{drop_all, drop_more, get_or-map, get_or-reverse, length-map, length-reverse, length-take, take-map}
use Rattle.json_grammar.specs.Sizes.{nodes, trees_nodes}
use Rattle.json_grammar.specs.Tree.{Tree, list, pairs, Trees, tree_and, list_trees, Pairs, list_pairs}
use Rattle.json_model.specs.Edit.{has_key}
use Rattle.json_model.specs.Same.{first_value, same}
use Rattle.json_doc_print.proofs.Trees.{list_again}
use Rattle.json_patch.specs.Pointer.{ReferenceToken, slash, escaped_token}
use Rattle.json_patch.specs.Patch.{Operation, add_at, remove, replace}
use Rattle.json_diff.specs.MergeDiff.{has_unique_keys}
use Rattle.json_diff.specs.Diff.{under, whole, key_removals, common_front, common_back, element_removals, are_addressable, operations_between, members_operations, element_operations}
use Rattle.json_diff.specs.DiffDocument.{operation_below}
use Rattle.json_diff.specs.DiffParts.{are_keyed, child_operations, operations_at}
use Rattle.json_diff.proofs.OperationsBelow.{document_under}

abbrev Members : Type 0
Members = List (List ℕ × Tree)

-- ---- the whole

pub whole_of_others : (t u : Tree) → false ≡ same t u → whole t u ≡ replace [] u ∷ []
whole_of_others t u e = ap (λ b. cond b [] (replace [] u ∷ [])) (sym e)

-- ---- below a token

pub child_below : (b : List ℕ) (k : ReferenceToken) (o : Option Tree) (u : Tree) → map (operation_below (b ++ (slash ∷ escaped_token k))) (child_operations o u) ≡ map (operation_below b) (operations_at k o u)
child_below b k None u = sym (document_under b k (add_at [] u ∷ []))
child_below b k (Some t) u = sym (document_under b k (operations_between t u))

-- ---- members

pub removal_more : (qs : Pairs) (k : List ℕ) (t : Tree) (all left : Members) → all ≡ (k, t) ∷ left → has_key k qs ≡ false → key_removals qs (list_pairs all) ≡ remove (k ∷ []) ∷ key_removals qs (list_pairs left)
removal_more qs k t all left e h = ap (λ (ms : Members). key_removals qs (list_pairs ms)) e ∙ ap (λ b. cond b (key_removals qs (list_pairs left)) (remove (k ∷ []) ∷ key_removals qs (list_pairs left))) h

pub removal_none : (qs : Pairs) (k : List ℕ) (t : Tree) (all left : Members) → all ≡ (k, t) ∷ left → has_key k qs ≡ true → key_removals qs (list_pairs all) ≡ key_removals qs (list_pairs left)
removal_none qs k t all left e h = ap (λ (ms : Members). key_removals qs (list_pairs ms)) e ∙ ap (λ b. cond b (key_removals qs (list_pairs left)) (remove (k ∷ []) ∷ key_removals qs (list_pairs left))) h

pub member_more : (ps : Pairs) (k : List ℕ) (v : Tree) (o : Option Tree) (all left : Members) → all ≡ (k, v) ∷ left → o ≡ first_value k ps → members_operations ps (list_pairs all) ≡ operations_at k o v ++ members_operations ps (list_pairs left)
member_more ps k v o all left e f = ap (λ (ms : Members). members_operations ps (list_pairs ms)) e ∙ ap (λ (p : Option Tree). operations_at k p v ++ members_operations ps (list_pairs left)) (sym f)

pub keyed_operations : (t u : Tree) (ps qs : Members) → are_keyed t u ≡ true → t ≡ pairs (list_pairs ps) → u ≡ pairs (list_pairs qs) → operations_between t u ≡ key_removals (list_pairs qs) (list_pairs ps) ++ members_operations (list_pairs ps) (list_pairs qs)
keyed_operations t u ps qs h e f =
    ap₂ operations_between e f ∙ ap (λ b. cond b (key_removals (list_pairs qs) (list_pairs ps) ++ members_operations (list_pairs ps) (list_pairs qs)) (whole (pairs (list_pairs ps)) (pairs (list_pairs qs)))) (sym (ap₂ are_keyed e f) ∙ h)

pub keyed_found : (t u : Tree) (ps qs : Members) → t ≡ pairs (list_pairs ps) → u ≡ pairs (list_pairs qs) → has_unique_keys (list_pairs ps) ≡ true → has_unique_keys (list_pairs qs) ≡ true → true ≡ are_keyed t u
keyed_found t u ps qs e f h g = sym (ap₂ are_keyed e f ∙ ap₂ (λ (a b : Bool). a && b) h g)

pub keyed_repeats_first : (t u : Tree) (ps qs : Members) → t ≡ pairs (list_pairs ps) → u ≡ pairs (list_pairs qs) → has_unique_keys (list_pairs ps) ≡ false → false ≡ are_keyed t u
keyed_repeats_first t u ps qs e f h = sym (ap₂ are_keyed e f ∙ ap (λ (a : Bool). a && has_unique_keys (list_pairs qs)) h)

pub keyed_repeats_second : (t u : Tree) (ps qs : Members) → t ≡ pairs (list_pairs ps) → u ≡ pairs (list_pairs qs) → has_unique_keys (list_pairs qs) ≡ false → false ≡ are_keyed t u
keyed_repeats_second t u ps qs e f h = sym (ap₂ are_keyed e f ∙ ap (λ (b : Bool). has_unique_keys (list_pairs ps) && b) h ∙ by (has_unique_keys (list_pairs ps)))
  where
    by : (a : Bool) → (a && false) ≡ false
    by true = refl
    by false = refl

-- ---- elements

-- an element as far from the end
pub reversed_item : {X : Type 0} (f : X → Tree) (xs : List X) (n : ℕ) (x : X) → n < length xs → x ≡ get_or xs (length xs - 1 - n) x → f x ≡ get_or (reverse (map f xs)) n (f x)
reversed_item f xs n x h e =
    let k : ℕ = length xs - 1 - n in
    let long : length (map f xs) ≡ length xs = length-map xs f in
    ap f e ∙ sym (get_or-map f xs k x (f x) (omega arith)) ∙ ap (λ (m : ℕ). get_or (map f xs) (m - 1 - n) (f x)) (sym long) ∙ sym (get_or-reverse (map f xs) n (f x) (omega arith))

front_one : (xs ys : List Tree) (n : ℕ) (x y : Tree) → n < length xs → n < length ys → x ≡ get_or xs n x → y ≡ get_or ys n y
    → common_front (drop n xs) (drop n ys) ≡ cond (same x y) (suc (common_front (drop (n + 1) xs) (drop (n + 1) ys))) 0
front_one xs ys n x y h g e f =
    ap₂ common_front (drop_more xs n x h) (drop_more ys n y g) ∙ ap₂ (λ (a b : Tree). cond (same a b) (suc (common_front (drop (n + 1) xs) (drop (n + 1) ys))) 0) (sym e) (sym f)

front_none : (xs : List Tree) → common_front xs [] ≡ 0
front_none [] = refl
front_none (x ∷ xs) = refl

front_end : (xs ys : List Tree) (n : ℕ) → min (length xs) (length ys) ≤ n → common_front (drop n xs) (drop n ys) ≡ 0
front_end [] ys zero h = refl
front_end [] ys (suc n) h = refl
front_end (x ∷ xs) [] zero h = refl
front_end (x ∷ xs) [] (suc n) h = front_none (drop n xs)
front_end (x ∷ xs) (y ∷ ys) zero h = absurd (omega arith)
front_end (x ∷ xs) (y ∷ ys) (suc n) h = front_end xs ys n (omega arith)

-- n last elements are the same, and these are as many as of the others
abbrev pub Back : List Tree → List Tree → ℕ → Type 0
Back ts us n = common_back ts us ≡ n + common_front (drop n (reverse ts)) (drop n (reverse us))

pub back_more : (ts us : List Tree) (n : ℕ) (t u : Tree) → Back ts us n → n < length ts → n < length us → t ≡ get_or (reverse ts) n t → u ≡ get_or (reverse us) n u → true ≡ same t u → Back ts us (n + 1)
back_more ts us n t u h g i e f s =
    let one = front_one (reverse ts) (reverse us) n t u (omega (arith, length-reverse ts)) (omega (arith, length-reverse us)) e f in
    let more = one ∙ ap (λ (b : Bool). cond b (suc (common_front (drop (n + 1) (reverse ts)) (drop (n + 1) (reverse us)))) 0) (sym s) in omega (arith, h, more)

pub back_stop : (ts us : List Tree) (n : ℕ) (t u : Tree) → Back ts us n → n < length ts → n < length us → t ≡ get_or (reverse ts) n t → u ≡ get_or (reverse us) n u → false ≡ same t u → n ≡ common_back ts us
back_stop ts us n t u h g i e f s =
    let one = front_one (reverse ts) (reverse us) n t u (omega (arith, length-reverse ts)) (omega (arith, length-reverse us)) e f in
    let none = one ∙ ap (λ (b : Bool). cond b (suc (common_front (drop (n + 1) (reverse ts)) (drop (n + 1) (reverse us)))) 0) (sym s) in omega (arith, h, none)

pub back_end : (ts us : List Tree) (n m : ℕ) → Back ts us n → min (length ts) (length us) ≤ n → n ≡ m → m ≡ common_back ts us
back_end ts us n m h g e =
    let low : min (length (reverse ts)) (length (reverse us)) ≤ n = omega (arith, length-reverse ts, length-reverse us) in
    let none = front_end (reverse ts) (reverse us) n low in omega (arith, h, none)

first_of_rest : (j : ℕ) (ts : List Tree) (i : ℕ) (u : Tree) (m : ℕ) (us : Trees) → element_operations j (drop i ts) (suc m) (tree_and u us) ≡ operations_at (decimal j) (slice_get ts i) u ++ element_operations (suc j) (drop (suc i) ts) m us
first_of_rest j [] zero u m us = refl
first_of_rest j [] (suc i) u m us = refl
first_of_rest j (t ∷ ts) zero u m us = refl
first_of_rest j (t ∷ ts) (suc i) u m us = first_of_rest j ts i u m us

-- one element more
pub element_more : (ts us : List Tree) (i n : ℕ) (u : Tree) (o : Option Tree) → i < n → o ≡ slice_get ts i → drop i us ≡ u ∷ drop (i + 1) us
    → element_operations i (drop i ts) (n - i) (list_trees (drop i us)) ≡ operations_at (decimal i) o u ++ element_operations (i + 1) (drop (i + 1) ts) (n - (i + 1)) (list_trees (drop (i + 1) us))
element_more ts us i n u o h e f =
    let one : suc i ≡ i + 1 = omega arith in
    let left : n - i ≡ suc (n - (i + 1)) = omega arith in
    ap₂ (λ (m : ℕ) (xs : List Tree). element_operations i (drop i ts) m (list_trees xs)) left f
    ∙ first_of_rest i ts i u (n - (i + 1)) (list_trees (drop (i + 1) us))
    ∙ ap₂ (λ (p : Option Tree) (j : ℕ). operations_at (decimal i) p u ++ element_operations j (drop j ts) (n - (i + 1)) (list_trees (drop (i + 1) us))) (sym e) one

-- no element is left to lead to
pub elements_end : (ts us : List Tree) (i n m : ℕ) → length us ≤ i → i ≡ n → element_operations i (drop i ts) m (list_trees (drop i us)) ≡ element_removals n (drop n ts)
elements_end ts us i n m h e = ap (λ (xs : List Tree). element_operations i (drop i ts) m (list_trees xs)) (drop_all i us h) ∙ ap (λ (j : ℕ). element_removals j (drop j ts)) e

only_first : (i : ℕ) (ts : List Tree) (m : ℕ) (us : List Tree) → element_operations i ts m (list_trees us) ≡ element_operations i ts m (list_trees (take m us))
only_first i ts zero [] = refl
only_first i ts (suc m) [] = refl
only_first i ts zero (u ∷ us) = refl
only_first i [] (suc m) (u ∷ us) = ap (λ os. add_at (decimal i ∷ []) u ∷ os) (only_first (suc i) [] m us)
only_first i (t ∷ ts) (suc m) (u ∷ us) = ap (λ os. map (under (decimal i)) (operations_between t u) ++ os) (only_first (suc i) ts m us)

pub array_operations : (ts us before others : List Tree) (n m : ℕ) → length ts < 18446744073709551616 → length us < 18446744073709551616 → n ≡ common_back ts us → before ≡ take (length ts - n) ts → others ≡ take (length us - n) us → m ≡ length us - n
    → operations_between (list (list_trees ts)) (list (list_trees us)) ≡ element_operations 0 before m (list_trees others)
array_operations ts us before others n m low high e f g h =
    addressed
    ∙ ap (λ (k : ℕ). element_operations 0 (take (length ts - k) ts) (length us - k) (list_trees us)) (sym e)
    ∙ only_first 0 (take (length ts - n) ts) (length us - n) us
    ∙ sym (ap₂ (λ (xs ys : List Tree). element_operations 0 xs (length us - n) (list_trees ys)) f g)
    ∙ ap (λ (k : ℕ). element_operations 0 before k (list_trees others)) (sym h)
  where
    parted : Bool → List Tree → List Tree → List Operation
    parted b xs ys = let k : ℕ = common_back xs ys in cond b (element_operations 0 (take (length xs - k) xs) (length ys - k) (list_trees us)) (whole (list (list_trees ts)) (list (list_trees us)))

    addressable : are_addressable ts us ≡ true
    addressable = and_from (nat_lt (length ts) 18446744073709551616) (nat_lt (length us) 18446744073709551616) (lt-ltb (length ts) 18446744073709551616 low) (lt-ltb (length us) 18446744073709551616 high)

    addressed : operations_between (list (list_trees ts)) (list (list_trees us)) ≡ element_operations 0 (take (length ts - common_back ts us) ts) (length us - common_back ts us) (list_trees us)
    addressed = ap₂ (λ (xs ys : List Tree). parted (are_addressable xs ys) xs ys) (list_again ts) (list_again us) ∙ ap (λ (b : Bool). parted b ts us) addressable

-- the elements from an index on
pub items_left : {X : Type 0} (f : X → Tree) (xs : List X) (i : ℕ) (x : X) → i < length xs → x ≡ get_or xs i x → drop i (map f xs) ≡ f x ∷ drop (i + 1) (map f xs)
items_left f xs i x h e =
    let long : length (map f xs) ≡ length xs = length-map xs f in
    drop_more (map f xs) i (f x) (omega arith) ∙ ap (λ (y : Tree). y ∷ drop (i + 1) (map f xs)) (get_or-map f xs i x (f x) h ∙ ap f (sym e))

-- lists of which the last n are cut off, seen as trees
pub cut_operations : {X : Type 0} (f : X → Tree) (xs ys : List X) (ts us : List Tree) (n k l : ℕ) → map f xs ≡ ts → map f ys ≡ us → length xs < 18446744073709551616 → length ys < 18446744073709551616 → n ≡ common_back ts us → k ≡ length xs - n → l ≡ length ys - n
    → operations_between (list (list_trees ts)) (list (list_trees us)) ≡ element_operations 0 (map f (take k xs)) (length (take l ys)) (list_trees (map f (take l ys)))
cut_operations f xs ys ts us n k l e g low high back h i =
    let first : length ts ≡ length xs = sym (ap length e) ∙ length-map xs f in
    let second : length us ≡ length ys = sym (ap length g) ∙ length-map ys f in
    let front : k ≡ length ts - n = omega arith in
    let others : l ≡ length us - n = omega arith in
    let cut : length (take l ys) ≡ min l (length ys) = length-take l ys in
    array_operations ts us (map f (take k xs)) (map f (take l ys)) n (length (take l ys)) (omega arith) (omega arith) back (sym (take-map f k xs) ∙ ap₂ take front e) (sym (take-map f l ys) ∙ ap₂ take others g) (omega arith)

-- ---- how many nodes there are

pub fewer_trees : (n : ℕ) (us : List Tree) → trees_nodes (list_trees (take n us)) ≤ trees_nodes (list_trees us)
fewer_trees zero us = omega arith
fewer_trees (suc n) [] = omega arith
fewer_trees (suc n) (u ∷ us) = let h = fewer_trees n us in omega (arith, h)

pub element_nodes : (us : List Tree) (i : ℕ) (u : Tree) → drop i us ≡ u ∷ drop (i + 1) us → nodes u ≤ trees_nodes (list_trees us)
element_nodes us i u e =
    let here : trees_nodes (list_trees (drop i us)) ≡ nodes u + trees_nodes (list_trees (drop (i + 1) us)) = ap (λ (xs : List Tree). trees_nodes (list_trees xs)) e in
    let low = dropped_nodes i us in omega (arith, here, low)
  where
    dropped_nodes : (i : ℕ) (us : List Tree) → trees_nodes (list_trees (drop i us)) ≤ trees_nodes (list_trees us)
    dropped_nodes zero us = omega arith
    dropped_nodes (suc i) [] = omega arith
    dropped_nodes (suc i) (u ∷ us) = let h = dropped_nodes i us in omega (arith, h)

pub fewer_seen : {X : Type 0} (f : X → Tree) (k : ℕ) (xs : List X) (us : List Tree) → map f xs ≡ us → trees_nodes (list_trees (map f (take k xs))) ≤ trees_nodes (list_trees us)
fewer_seen f k xs us e =
    let cut : trees_nodes (list_trees (map f (take k xs))) ≡ trees_nodes (list_trees (take k us)) = ap (λ (ts : List Tree). trees_nodes (list_trees ts)) (sym (take-map f k xs) ∙ ap (take k) e) in
    let low = fewer_trees k us in omega (arith, cut, low)
