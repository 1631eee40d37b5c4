-- The operations between two trees lead from the one to the other.
use Rattle.std.proofs.Common.{◌≡◌, ◌⊎◌, inl, inr, ℕ, zero, suc, ◌+◌, ◌-◌, ◌<◌, ◌≤◌, ◌^◌, List, [], ◌∷◌, ◌++◌, length, map, take, drop, Bool, true, false, cond, ◌==◌, ◌&&◌, Option, Some, None, refl, sym, ap, ap₂, ◌∙◌, subst, arith, bytes_eq, ltb-true}
use Rattle.std.specs.Prelude.{nat_lt, decimal, is_some}
use Rattle.std.specs.List.{list_all}
use Rattle.std.specs.Option.{option_eq}
use Rattle.std.proofs.lemmas.Bool.{and_parts, and_from}
use Rattle.std.proofs.lemmas.List.Folds.{list_all-append}
use Rattle.json_grammar.specs.Tree.{Tree, null, boolean, num, text, list, pairs, Trees, no_trees, tree_and, trees_list, list_trees, Pairs, no_pairs, pair_and, list_pairs}
use Rattle.json_model.specs.Edit.{inserted, has_key}
use Rattle.json_model.specs.Same.{keys, first_value, same, trees_same, first_same}
use Rattle.json_model.proofs.Equality.{same_itself, first_agree}
use Rattle.json_model.proofs.Members.{same_key, key_itself}
use Rattle.json_patch.specs.Patch.{Operation, add_at, remove, replace}
use Rattle.json_patch.specs.Merge.{members_or_none, pairs_merged}
use Rattle.json_diff.specs.MergeDiff.{has_unique_keys, is_object, removals}
use Rattle.json_diff.specs.Diff.{under, whole, key_removals, member_operations, is_array, array_elements, common_back, element_removals, are_addressable, operations_between, members_operations, element_operations, OperationsLead, NoOperationsBetweenSame}
use Rattle.json_diff.proofs.UniqueKeys.{true_false, has_first, first_absent, unique_parts, same_by_members, first_beside_inserted, keys_turned, keys_apart}
use Rattle.json_diff.proofs.MergeDiff.{merged_unique, first_stays, removals_beside, removals_gone}
use Rattle.json_diff.proofs.DiffSteps.{Makes, made_nothing, made_one, made_both, AreBelowRoot, below_both, all_below}
use Rattle.json_diff.proofs.DiffMembers.{Led, removals_make, member_makes, AreMade, none_made, one_made}
use Rattle.json_diff.proofs.DiffElements.{element_added, element_led, elements_removed, makes_more, taken, same_both, back_same, take_and_drop}
use Rattle.json_value.specs.Steps.{tree_or_null}

-- ---- what is below the root

whole_below : (t u : Tree) → AreBelowRoot (whole t u)
whole_below t u = by (same t u)
  where
    by : (b : Bool) → AreBelowRoot (cond b [] (replace [] u ∷ []))
    by true = tt
    by false = (tt, tt)

keys_below : (qs ps : Pairs) → AreBelowRoot (key_removals qs ps)
keys_below qs no_pairs = tt
keys_below qs (pair_and k t ps) = by (has_key k qs) (keys_below qs ps)
  where
    by : (b : Bool) → AreBelowRoot (key_removals qs ps) → AreBelowRoot (cond b (key_removals qs ps) (remove (k ∷ []) ∷ key_removals qs ps))
    by true h = h
    by false h = (tt, h)

member_below : (k : List ℕ) (o : Option Tree) (v : Tree) (os : List Operation) → AreBelowRoot os → AreBelowRoot (member_operations k o v os)
member_below k None v os h = (tt, tt)
member_below k (Some t) v os h = all_below k os h

removals_below : (i : ℕ) (ts : List Tree) → AreBelowRoot (element_removals i ts)
removals_below i [] = tt
removals_below i (t ∷ ts) = (tt, removals_below i ts)

either_below : (b : Bool) (os ps : List Operation) → AreBelowRoot os → AreBelowRoot ps → AreBelowRoot (cond b os ps)
either_below true os ps h g = h
either_below false os ps h g = g

mutual
  pub all_operations_below : (t u : Tree) → AreBelowRoot (operations_between t u)
  all_operations_below t null = whole_below t null
  all_operations_below t (boolean b) = whole_below t (boolean b)
  all_operations_below t (num l) = whole_below t (num l)
  all_operations_below t (text s) = whole_below t (text s)
  all_operations_below t (list us) =
      let n : ℕ = common_back (array_elements t) (trees_list us) in
      let m : ℕ = length (trees_list us) - n in
      let ts : List Tree = take (length (array_elements t) - n) (array_elements t) in
      either_below (is_array t && are_addressable (array_elements t) (trees_list us)) (element_operations 0 ts m us) (whole t (list us)) (elements_below 0 ts m us) (whole_below t (list us))
  all_operations_below t (pairs qs) =
      either_below (is_object t && (has_unique_keys (members_or_none t) && has_unique_keys qs)) (key_removals qs (members_or_none t) ++ members_operations (members_or_none t) qs) (whole t (pairs qs))
      (below_both (key_removals qs (members_or_none t)) (members_operations (members_or_none t) qs) (keys_below qs (members_or_none t)) (members_below (members_or_none t) qs)) (whole_below t (pairs qs))

  members_below : (ps qs : Pairs) → AreBelowRoot (members_operations ps qs)
  members_below ps no_pairs = tt
  members_below ps (pair_and k v qs) =
      below_both (member_operations k (first_value k ps) v (operations_between (tree_or_null (first_value k ps)) v)) (members_operations ps qs)
      (member_below k (first_value k ps) v (operations_between (tree_or_null (first_value k ps)) v) (all_operations_below (tree_or_null (first_value k ps)) v)) (members_below ps qs)

  elements_below : (i : ℕ) (ts : List Tree) (m : ℕ) (us : Trees) → AreBelowRoot (element_operations i ts m us)
  elements_below i ts m no_trees = removals_below i ts
  elements_below i ts zero (tree_and u us) = removals_below i ts
  elements_below i [] (suc m) (tree_and u us) = (tt, elements_below (suc i) [] m us)
  elements_below i (t ∷ ts) (suc m) (tree_and u us) =
      below_both (map (under (decimal i)) (operations_between t u)) (element_operations (suc i) ts m us) (all_below (decimal i) (operations_between t u) (all_operations_below t u)) (elements_below (suc i) ts m us)

-- ---- the whole replaced

abbrev Made : List Operation → Tree → Tree → Type 0
Made os t u = (w : Tree) × Makes os t w × (same w u ≡ true)

whole_made : (t u : Tree) → Made (whole t u) t u
whole_made t u = by (same t u) refl
  where
    by : (b : Bool) → same t u ≡ b → Made (cond b [] (replace [] u ∷ [])) t u
    by true e = (t, made_nothing t, e)
    by false e = (u, made_one (replace [] u) t u refl, same_itself u)

-- ---- objects

abbrev MembersLed : Pairs → Pairs → Type 0
MembersLed ps qs = (ms : Pairs) → has_unique_keys qs ≡ true → ((n : List ℕ) → has_key n qs ≡ true → first_value n ms ≡ first_value n ps) → AreMade (members_operations ps qs) ms qs

object_made : (ps qs : Pairs) → has_unique_keys ps ≡ true → has_unique_keys qs ≡ true → MembersLed ps qs → Made (key_removals qs ps ++ members_operations ps qs) (pairs ps) (pairs qs)
object_made ps qs u v led = (pairs rest.made, made_both (key_removals qs ps) (members_operations ps qs) (pairs ps) (pairs left) (pairs rest.made) (removals_make ps qs ps u (λ n h. h)) rest.makes, same_by_members rest.made qs (rest.unique (merged_unique ps gone u)) v (λ n. by n (has_key n qs) refl))
  where
    gone : Pairs
    gone = list_pairs (removals qs ps)

    left : Pairs
    left = pairs_merged ps gone

    rest : AreMade (members_operations ps qs) left qs
    rest = led left v (λ n h. first_stays n ps gone (removals_beside n qs ps h))

    by : (n : List ℕ) (b : Bool) → has_key n qs ≡ b → option_eq same (first_value n rest.made) (first_value n qs) ≡ true
    by n true h = rest.at n h
    by n false h = ap₂ (option_eq same) (rest.beside n h ∙ removals_gone n ps qs ps h (first_absent n ps)) (first_absent n qs h)

-- one member more
member_led : (ps : Pairs) (k : List ℕ) (v : Tree) (qs : Pairs) → ((t : Tree) → Led (operations_between t v) t v) → MembersLed ps qs → MembersLed ps (pair_and k v qs)
member_led ps k v qs led more ms u h = one_made os (members_operations ps qs) ms qs k v a.0 d.0 a.1 a.2 (more (inserted k a.0 ms) d.1 (λ n g. first_beside_inserted k n a.0 ms (keys_turned n k (keys_apart n k qs g d.0)) ∙ later n g))
  where
    old : Option Tree
    old = first_value k ps

    os : List Operation
    os = member_operations k old v (operations_between (tree_or_null old) v)

    d : (has_key k qs ≡ false) × (has_unique_keys qs ≡ true)
    d = unique_parts k v qs u

    later : (n : List ℕ) → has_key n qs ≡ true → first_value n ms ≡ first_value n ps
    later n g = h n (both (bytes_eq k n))
      where
        both : (b : Bool) → cond b true (has_key n qs) ≡ true
        both true = refl
        both false = g

    a : (y : Tree) × Makes os (pairs ms) (pairs (inserted k y ms)) × (same y v ≡ true)
    a =
        member_makes ms k old v (operations_between (tree_or_null old) v) (h k (ap (λ b. cond b true (has_key k qs)) (key_itself k)))
        (λ t e. subst (λ o. Led (operations_between (tree_or_null o) v) t v) (sym e) (led t))

-- ---- arrays

abbrev ElementsLed : Trees → Type 0
ElementsLed us =
    (i : ℕ) (done ts back : List Tree) (m : ℕ) → i ≡ length done → i + length ts ≤ 2 ^ 64 → i + m ≤ 2 ^ 64
    → (ws : List Tree) × Makes (element_operations i ts m us) (list (list_trees (done ++ (ts ++ back)))) (list (list_trees (done ++ (ws ++ back)))) × (trees_same (list_trees ws) (taken m us) ≡ true)

length_more : (done : List Tree) (y : Tree) → length (done ++ y ∷ []) ≡ suc (length done)
length_more [] y = refl
length_more (d ∷ done) y = ap suc (length_more done y)

none_left : ElementsLed no_trees
none_left i done ts back m is low high = ([], elements_removed i done ts back is low, refl)

element_one : (u : Tree) (us : Trees) → ((t : Tree) → Led (operations_between t u) t u) → ElementsLed us → ElementsLed (tree_and u us)
element_one u us led more i done ts back zero is low high = ([], elements_removed i done ts back is low, refl)
element_one u us led more i done [] back (suc m) is low high =
    let rest = more (suc i) (done ++ u ∷ []) [] back m (ap suc is ∙ sym (length_more done u)) (omega arith) (omega arith) in (
      u ∷ rest.0,
      makes_more (add_at (decimal i ∷ []) u ∷ []) (element_operations (suc i) [] m us) (list (list_trees (done ++ back))) done back (rest.0 ++ back) u
          (made_one (add_at (decimal i ∷ []) u) (list (list_trees (done ++ back))) (list (list_trees (done ++ (u ∷ back)))) (element_added i done is (omega arith) u back)) rest.1,
      and_from (same u u) (trees_same (list_trees rest.0) (taken m us)) (same_itself u) rest.2,
    )
element_one u us led more i done (t ∷ ts) back (suc m) is low high =
    let a = led t in
    let y : Tree = a.1.0 in
    let rest = more (suc i) (done ++ y ∷ []) ts back m (ap suc is ∙ sym (length_more done y)) (omega arith) (omega arith) in (
      y ∷ rest.0,
      makes_more (map (under (decimal i)) (operations_between t u)) (element_operations (suc i) ts m us) (list (list_trees (done ++ (t ∷ (ts ++ back))))) done (ts ++ back) (rest.0 ++ back) y
          (element_led i done is (omega arith) (operations_between t u) t y (ts ++ back) a.0 a.1.1) rest.1,
      and_from (same y u) (trees_same (list_trees rest.0) (taken m us)) a.1.2 rest.2,
    )

list_back : (us : Trees) → list_trees (trees_list us) ≡ us
list_back no_trees = refl
list_back (tree_and u us) = ap (λ ts. tree_and u ts) (list_back us)

length_taken : (n : ℕ) (ts : List Tree) → length (take n ts) ≤ length ts
length_taken zero ts = omega arith
length_taken (suc n) [] = omega arith
length_taken (suc n) (t ∷ ts) = let h = length_taken n ts in omega (arith, h)

array_made : (ts us : Trees) → are_addressable (trees_list ts) (trees_list us) ≡ true → ElementsLed us
    → let n = common_back (trees_list ts) (trees_list us) in Made (element_operations 0 (take (length (trees_list ts) - n) (trees_list ts)) (length (trees_list us) - n) us) (list ts) (list us)
array_made ts us h led =
    let xs : List Tree = trees_list ts in
    let n : ℕ = common_back xs (trees_list us) in
    let m : ℕ = length (trees_list us) - n in
    let l : ℕ = length xs - n in
    let back : List Tree = drop l xs in
    let small = and_parts (nat_lt (length xs) 18446744073709551616) (nat_lt (length (trees_list us)) 18446744073709551616) h in
    let first : length xs < 18446744073709551616 = ltb-true (length xs) 18446744073709551616 small.0 in
    let second : length (trees_list us) < 18446744073709551616 = ltb-true (length (trees_list us)) 18446744073709551616 small.1 in
    let short : length (take l xs) ≤ length xs = length_taken l xs in
    let a = led 0 [] (take l xs) back m refl (omega arith) (omega arith) in
    let from : list (list_trees (take l xs ++ back)) ≡ list ts = ap (λ zs. list (list_trees zs)) (take_and_drop l xs) ∙ ap list (list_back ts) in
    (list (list_trees (a.0 ++ back)), subst (λ t. Makes (element_operations 0 (take l xs) m us) t (list (list_trees (a.0 ++ back)))) from a.1, same_both a.0 back m us a.2 (back_same xs (trees_list us)))

-- ---- all trees

object_led : (t : Tree) (qs : Pairs) → MembersLed (members_or_none t) qs → Made (operations_between t (pairs qs)) t (pairs qs)
object_led (pairs ps) qs led = by (has_unique_keys ps) (has_unique_keys qs) refl refl
  where
    by : (a b : Bool) → has_unique_keys ps ≡ a → has_unique_keys qs ≡ b → Made (cond (a && b) (key_removals qs ps ++ members_operations ps qs) (whole (pairs ps) (pairs qs))) (pairs ps) (pairs qs)
    by true true u v = object_made ps qs u v led
    by true false u v = whole_made (pairs ps) (pairs qs)
    by false b u v = whole_made (pairs ps) (pairs qs)
object_led null qs led = whole_made null (pairs qs)
object_led (boolean b) qs led = whole_made (boolean b) (pairs qs)
object_led (num l) qs led = whole_made (num l) (pairs qs)
object_led (text s) qs led = whole_made (text s) (pairs qs)
object_led (list ts) qs led = whole_made (list ts) (pairs qs)

array_led : (t : Tree) (us : Trees) → ElementsLed us → Made (operations_between t (list us)) t (list us)
array_led (list ts) us led = by (are_addressable (trees_list ts) (trees_list us)) refl
  where
    n : ℕ
    n = common_back (trees_list ts) (trees_list us)

    by : (b : Bool) → are_addressable (trees_list ts) (trees_list us) ≡ b
        → Made (cond b (element_operations 0 (take (length (trees_list ts) - n) (trees_list ts)) (length (trees_list us) - n) us) (whole (list ts) (list us))) (list ts) (list us)
    by true h = array_made ts us h led
    by false h = whole_made (list ts) (list us)
array_led null us led = whole_made null (list us)
array_led (boolean b) us led = whole_made (boolean b) (list us)
array_led (num l) us led = whole_made (num l) (list us)
array_led (text s) us led = whole_made (text s) (list us)
array_led (pairs ps) us led = whole_made (pairs ps) (list us)

mutual
  all_made : (u t : Tree) → Made (operations_between t u) t u
  all_made null t = whole_made t null
  all_made (boolean b) t = whole_made t (boolean b)
  all_made (num l) t = whole_made t (num l)
  all_made (text s) t = whole_made t (text s)
  all_made (list us) t = array_led t us (elements_led us)
  all_made (pairs qs) t = object_led t qs (members_led qs (members_or_none t))

  members_led : (qs ps : Pairs) → MembersLed ps qs
  members_led no_pairs ps = λ ms u h. none_made ms
  members_led (pair_and k v qs) ps = member_led ps k v qs (λ t. (all_operations_below t v, all_made v t)) (members_led qs ps)

  elements_led : (us : Trees) → ElementsLed us
  elements_led no_trees = none_left
  elements_led (tree_and u us) = element_one u us (λ t. (all_operations_below t u, all_made u t)) (elements_led us)

pub operations_lead : OperationsLead
operations_lead t u = let a = all_made u t in (a.0, a.1 0, a.2)

-- ---- nothing between trees that are the same

passed : (f : List ℕ → Bool) (k : List ℕ) (ps : Pairs) → list_all f (keys ps) ≡ true → has_key k ps ≡ true → f k ≡ true
passed f k no_pairs h g = absurd (true_false (sym g))
passed f k (pair_and n t ps) h g = by (bytes_eq n k) refl g (and_parts (f n) (list_all f (keys ps)) h) (passed f k ps)
  where
    by : (b : Bool) → bytes_eq n k ≡ b → cond b true (has_key k ps) ≡ true → (f n ≡ true) × (list_all f (keys ps) ≡ true) → (list_all f (keys ps) ≡ true → has_key k ps ≡ true → f k ≡ true) → f k ≡ true
    by true e g a i = ap f (sym (same_key n k e)) ∙ a.0
    by false e g a i = i a.1 g

-- at each key of either the first values of two objects that are the same are the same
agree : (ps qs : Pairs) → same (pairs ps) (pairs qs) ≡ true → (k : List ℕ) → (has_key k ps ≡ true) ⊎ (has_key k qs ≡ true) → option_eq same (first_value k ps) (first_value k qs) ≡ true
agree ps qs h k there = sym (first_agree k ps (first_value k qs)) ∙ by there
  where
    f : List ℕ → Bool
    f m = first_same m ps (first_value m qs)

    a : (list_all f (keys ps) ≡ true) × (list_all f (keys qs) ≡ true)
    a = and_parts (list_all f (keys ps)) (list_all f (keys qs)) (sym (list_all-append f (keys ps) (keys qs)) ∙ (and_parts (length (keys ps) == length (keys qs)) (list_all f (keys ps ++ keys qs)) h).1)

    by : (has_key k ps ≡ true) ⊎ (has_key k qs ≡ true) → f k ≡ true
    by (inl g) = passed f k ps a.0 g
    by (inr g) = passed f k qs a.1 g

no_removals : (qs ps : Pairs) → ((k : List ℕ) → has_key k ps ≡ true → has_key k qs ≡ true) → key_removals qs ps ≡ []
no_removals qs no_pairs h = refl
no_removals qs (pair_and k t ps) h =
    ap (λ b. cond b (key_removals qs ps) (remove (k ∷ []) ∷ key_removals qs ps)) (h k (ap (λ b. cond b true (has_key k ps)) (key_itself k))) ∙ no_removals qs ps (λ n g. h n (both n (bytes_eq k n) g))
  where
    both : (n : List ℕ) (b : Bool) → has_key n ps ≡ true → cond b true (has_key n ps) ≡ true
    both n true g = refl
    both n false g = g

abbrev Agree : Pairs → Pairs → Type 0
Agree ps qs = (k : List ℕ) → has_key k qs ≡ true → option_eq same (first_value k ps) (first_value k qs) ≡ true

no_member : (k : List ℕ) (o : Option Tree) (v : Tree) → ((t : Tree) → same t v ≡ true → operations_between t v ≡ []) → option_eq same o (Some v) ≡ true → member_operations k o v (operations_between (tree_or_null o) v) ≡ []
no_member k None v i h = absurd (true_false (sym h))
no_member k (Some t) v i h = ap (map (under k)) (i t h)

there_too : (o p : Option Tree) → option_eq same o p ≡ true → is_some o ≡ true → is_some p ≡ true
there_too None p h g = absurd (true_false (sym g))
there_too (Some t) None h g = absurd (true_false (sym h))
there_too (Some t) (Some u) h g = refl

whole_same : (t u : Tree) → same t u ≡ true → whole t u ≡ []
whole_same t u h = ap (λ b. cond b [] (replace [] u ∷ [])) h

either_none : (b : Bool) (os ps : List Operation) → os ≡ [] → ps ≡ [] → cond b os ps ≡ []
either_none true os ps h g = h
either_none false os ps h g = g

abbrev NoElements : Trees → Type 0
NoElements us = (i : ℕ) (ts : Trees) (m : ℕ) → trees_same ts us ≡ true → element_operations i (take m (trees_list ts)) m us ≡ []

same_length : (ts us : Trees) → trees_same ts us ≡ true → length (trees_list ts) ≡ length (trees_list us)
same_length no_trees no_trees h = refl
same_length no_trees (tree_and u us) h = absurd (true_false (sym h))
same_length (tree_and t ts) no_trees h = absurd (true_false (sym h))
same_length (tree_and t ts) (tree_and u us) h = ap suc (same_length ts us (and_parts (same t u) (trees_same ts us) h).1)

object_none : (t : Tree) (qs : Pairs) → ((ps : Pairs) → has_unique_keys qs ≡ true → Agree ps qs → members_operations ps qs ≡ []) → same t (pairs qs) ≡ true → operations_between t (pairs qs) ≡ []
object_none (pairs ps) qs none h = by (has_unique_keys ps) (has_unique_keys qs) refl
  where
    there : (k : List ℕ) → has_key k ps ≡ true → has_key k qs ≡ true
    there k g = has_first k qs ∙ there_too (first_value k ps) (first_value k qs) (agree ps qs h k (inl g)) (sym (has_first k ps) ∙ g)

    by : (a b : Bool) → has_unique_keys qs ≡ b → cond (a && b) (key_removals qs ps ++ members_operations ps qs) (whole (pairs ps) (pairs qs)) ≡ []
    by true true u = ap₂ (λ os ps. os ++ ps) (no_removals qs ps there) (none ps u (λ k g. agree ps qs h k (inr g)))
    by true false u = whole_same (pairs ps) (pairs qs) h
    by false b u = whole_same (pairs ps) (pairs qs) h
object_none null qs none h = absurd (true_false (sym h))
object_none (boolean b) qs none h = absurd (true_false (sym h))
object_none (num l) qs none h = absurd (true_false (sym h))
object_none (text s) qs none h = absurd (true_false (sym h))
object_none (list ts) qs none h = absurd (true_false (sym h))

array_none : (t : Tree) (us : Trees) → NoElements us → same t (list us) ≡ true → operations_between t (list us) ≡ []
array_none (list ts) us none h =
    let n : ℕ = common_back (trees_list ts) (trees_list us) in
    let m : ℕ = length (trees_list us) - n in
    either_none (are_addressable (trees_list ts) (trees_list us)) (element_operations 0 (take (length (trees_list ts) - n) (trees_list ts)) m us) (whole (list ts) (list us))
    (ap (λ k. element_operations 0 (take (k - n) (trees_list ts)) m us) (same_length ts us h) ∙ none 0 ts m h) (whole_same (list ts) (list us) h)
array_none null us none h = absurd (true_false (sym h))
array_none (boolean b) us none h = absurd (true_false (sym h))
array_none (num l) us none h = absurd (true_false (sym h))
array_none (text s) us none h = absurd (true_false (sym h))
array_none (pairs ps) us none h = absurd (true_false (sym h))

member_none : (ps : Pairs) (k : List ℕ) (v : Tree) (qs : Pairs) → ((t : Tree) → same t v ≡ true → operations_between t v ≡ []) → (has_unique_keys qs ≡ true → Agree ps qs → members_operations ps qs ≡ []) → has_unique_keys (pair_and k v qs) ≡ true → Agree ps (pair_and k v qs)
    → members_operations ps (pair_and k v qs) ≡ []
member_none ps k v qs one more u h = ap₂ (λ os ps. os ++ ps) (no_member k (first_value k ps) v one here) (more d.1 (λ n g. later n g))
  where
    d : (has_key k qs ≡ false) × (has_unique_keys qs ≡ true)
    d = unique_parts k v qs u

    here : option_eq same (first_value k ps) (Some v) ≡ true
    here = subst (λ b. option_eq same (first_value k ps) (cond b (Some v) (first_value k qs)) ≡ true) (key_itself k) (h k (ap (λ b. cond b true (has_key k qs)) (key_itself k)))

    later : (n : List ℕ) → has_key n qs ≡ true → option_eq same (first_value n ps) (first_value n qs) ≡ true
    later n g =
        let apart : bytes_eq k n ≡ false = keys_turned n k (keys_apart n k qs g d.0) in
        subst (λ b. option_eq same (first_value n ps) (cond b (Some v) (first_value n qs)) ≡ true) apart (h n (ap (λ b. cond b true (has_key n qs)) apart ∙ g))

element_none : (u : Tree) (us : Trees) → ((t : Tree) → same t u ≡ true → operations_between t u ≡ []) → NoElements us → NoElements (tree_and u us)
element_none u us one more i no_trees m h = absurd (true_false (sym h))
element_none u us one more i (tree_and t ts) zero h = refl
element_none u us one more i (tree_and t ts) (suc m) h = let a = and_parts (same t u) (trees_same ts us) h in ap₂ (λ os ps. map (under (decimal i)) os ++ ps) (one t a.0) (more (suc i) ts m a.1)

no_elements : NoElements no_trees
no_elements i no_trees zero h = refl
no_elements i no_trees (suc m) h = refl
no_elements i (tree_and t ts) m h = absurd (true_false (sym h))

mutual
  none_between : (u t : Tree) → same t u ≡ true → operations_between t u ≡ []
  none_between null t h = whole_same t null h
  none_between (boolean b) t h = whole_same t (boolean b) h
  none_between (num l) t h = whole_same t (num l) h
  none_between (text s) t h = whole_same t (text s) h
  none_between (list us) t h = array_none t us (elements_none us) h
  none_between (pairs qs) t h = object_none t qs (λ ps. members_none qs ps) h

  members_none : (qs ps : Pairs) → has_unique_keys qs ≡ true → Agree ps qs → members_operations ps qs ≡ []
  members_none no_pairs ps u h = refl
  members_none (pair_and k v qs) ps u h = member_none ps k v qs (λ t. none_between v t) (members_none qs ps) u h

  elements_none : (us : Trees) → NoElements us
  elements_none no_trees = no_elements
  elements_none (tree_and u us) = element_none u us (λ t. none_between u t) (elements_none us)

pub no_operations_between_same : NoOperationsBetweenSame
no_operations_between_same t u h = none_between u t h
