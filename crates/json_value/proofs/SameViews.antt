-- Two views that show the same, by the loops that compare them.
use Rattle.std.proofs.Common.{◌≡◌, ◌≢◌, ℕ, zero, suc, ◌+◌, ◌<◌, ◌≤◌, List, [], ◌∷◌, ◌++◌, map, length, take, drop, Bool, true, false, cond, ◌==◌, ◌&&◌, ◌||◌, Option, Some, None, is_some, option_map, refl, sym, ap, ap₂, ◌∙◌, arith, bytes_eq}
use Rattle.std.specs.Prelude.{slice_get}
use Rattle.std.specs.List.{list_all, list_any}
use Rattle.std.specs.Option.{option_eq}
use Rattle.std.proofs.lemmas.Bool.{and_parts, and_from, and_left, and_right, or_parts, or_right, ne_eqb, eq-eqb}
use Rattle.std.proofs.lemmas.List.{length-map}
use Rattle.std.proofs.lemmas.List.Folds.{list_all-append}
use Rattle.std.proofs.lemmas.Slice.Eq.{bytes_eq-Decides}
use Rattle.json_grammar.specs.Sizes.{nodes, trees_nodes, pairs_nodes}
use Rattle.json_grammar.specs.Tree.{Tree, null, boolean, num, text, list, pairs, list_trees, trees_list, list_pairs, pairs_list}
use Rattle.json_model.specs.Same.{keys, first_value, same, trees_same, first_same}
use Rattle.json_model.proofs.Equality.{first_agree}
use Rattle.json_value.specs.SameMembers.{value_at, keys_in, agree_at}
use Rattle.json_value.specs.Seen.{list_of, object_pairs, first_of}
use Rattle.json_doc.proofs.Trees.{list_back}
use Rattle.json_doc_print.proofs.Trees.{pairs_back, pairs_again}

-- ---- what is seen

-- the array that is seen, and the object
pub array_seen : (t : Tree) (xs : List Tree) → Some xs ≡ list_of t → t ≡ list (list_trees xs)
array_seen null xs e = absurd (cc)
array_seen (boolean b) xs e = absurd (cc)
array_seen (num l) xs e = absurd (cc)
array_seen (text s) xs e = absurd (cc)
array_seen (list ts) xs e = let s : xs ≡ trees_list ts = cc in ap list (sym (list_back ts) ∙ ap list_trees (sym s))
array_seen (pairs ps) xs e = absurd (cc)

pub object_seen : (t : Tree) (xs : List (List ℕ × Tree)) → Some xs ≡ object_pairs t → t ≡ pairs (list_pairs xs)
object_seen null xs e = absurd (cc)
object_seen (boolean b) xs e = absurd (cc)
object_seen (num l) xs e = absurd (cc)
object_seen (text s) xs e = absurd (cc)
object_seen (list ts) xs e = absurd (cc)
object_seen (pairs ps) xs e = let s : xs ≡ pairs_list ps = cc in ap pairs (sym (pairs_back ps) ∙ ap list_pairs (sym s))

-- of two that show the same both are there or none
pub found_together : {X Y Z : Type 0} (f : X → Z) (g : Y → Z) (o : Option X) (p : Option Y) → option_map f o ≡ option_map g p → is_some p ≡ is_some o
found_together f g None None e = refl
found_together f g None (Some y) e = absurd (cc)
found_together f g (Some x) None e = absurd (cc)
found_together f g (Some x) (Some y) e = refl

-- ---- arrays

-- lists of other lengths are not the same
pub lengths_apart : (xs ys : List Tree) → length xs ≢ length ys → trees_same (list_trees xs) (list_trees ys) ≡ false
lengths_apart [] [] n = absurd (n refl)
lengths_apart [] (y ∷ ys) n = refl
lengths_apart (x ∷ xs) [] n = refl
lengths_apart (x ∷ xs) (y ∷ ys) n = and_right (same x y) (trees_same (list_trees xs) (list_trees ys)) (lengths_apart xs ys (λ e. n (ap suc e)))

rest_step : (xs ys : List Tree) (i : ℕ) → i < length xs → length xs ≡ length ys → trees_same (list_trees (drop i xs)) (list_trees (drop i ys)) ≡ (option_eq same (slice_get xs i) (slice_get ys i) && trees_same (list_trees (drop (suc i) xs)) (list_trees (drop (suc i) ys)))
rest_step [] ys i h e = absurd (omega arith)
rest_step (x ∷ xs) [] i h e = absurd (omega (arith, e))
rest_step (x ∷ xs) (y ∷ ys) zero h e = refl
rest_step (x ∷ xs) (y ∷ ys) (suc i) h e = rest_step xs ys i (omega arith) (omega (arith, e))

next : (i : ℕ) → suc i ≡ i + 1
next i = omega arith

-- the elements from i on are the same if those at i are and those after them
pub trees_step : (xs ys : List Tree) (i : ℕ) (r : Bool) → i < length xs → length xs ≡ length ys → r ≡ option_eq same (slice_get xs i) (slice_get ys i) → trees_same (list_trees (drop i xs)) (list_trees (drop i ys)) ≡ (r && trees_same (list_trees (drop (i + 1) xs)) (list_trees (drop (i + 1) ys)))
trees_step xs ys i r h e f = rest_step xs ys i h e ∙ ap₂ (λ b j. b && trees_same (list_trees (drop j xs)) (list_trees (drop j ys))) (sym f) (next i)

-- ---- measures

-- the nodes of a tree that may be there
abbrev pub nodes_in : Option Tree → ℕ
nodes_in None = 0
nodes_in (Some t) = nodes t

pub element_nodes : (ts : List Tree) (i : ℕ) → nodes_in (slice_get ts i) ≤ trees_nodes (list_trees ts)
element_nodes [] i = omega arith
element_nodes (t ∷ ts) zero = omega arith
element_nodes (t ∷ ts) (suc i) = omega (arith, element_nodes ts i)

pub member_nodes : (ps : List (List ℕ × Tree)) (i : ℕ) (k : List ℕ) (u : Tree) → slice_get ps i ≡ Some (k, u) → nodes u < pairs_nodes (list_pairs ps)
member_nodes [] i k u e = absurd (cc)
member_nodes (p ∷ ps) zero k u e = let s : p.1 ≡ u = cc in omega (arith, ap nodes s)
member_nodes (p ∷ ps) (suc i) k u e = omega (arith, member_nodes ps i k u e)

-- ---- tests of keys in turn

all_next : (f : List ℕ → Bool) (ks : List (List ℕ)) (i : ℕ) (k : List ℕ) → slice_get ks i ≡ Some k → list_all f (take i ks) ≡ true → f k ≡ true → list_all f (take (suc i) ks) ≡ true
all_next f [] i k e h g = absurd (cc)
all_next f (n ∷ ks) zero k e h g = let s : n ≡ k = cc in and_from (f n) true (ap f s ∙ g) refl
all_next f (n ∷ ks) (suc i) k e h g =
    let a = and_parts (f n) (list_all f (take i ks)) h in
    and_from (f n) (list_all f (take (suc i) ks)) a.0 (all_next f ks i k e a.1 g)

-- one more key passes
pub all_more : (f : List ℕ → Bool) (ks : List (List ℕ)) (i : ℕ) (k : List ℕ) → slice_get ks i ≡ Some k → list_all f (take i ks) ≡ true → f k ≡ true → list_all f (take (i + 1) ks) ≡ true
all_more f ks i k e h g = sym (ap (λ j. list_all f (take j ks)) (next i)) ∙ all_next f ks i k e h g

-- a key that fails
pub all_fail : (f : List ℕ → Bool) (ks : List (List ℕ)) (i : ℕ) (k : List ℕ) → slice_get ks i ≡ Some k → f k ≡ false → list_all f ks ≡ false
all_fail f [] i k e g = absurd (cc)
all_fail f (n ∷ ks) zero k e g = let s : n ≡ k = cc in and_left (f n) (list_all f ks) (ap f s ∙ g)
all_fail f (n ∷ ks) (suc i) k e g = and_right (f n) (list_all f ks) (all_fail f ks i k e g)

none_next : {X : Type 0} (xs : List X) (i : ℕ) → slice_get xs i ≡ None → take (suc i) xs ≡ take i xs
none_next [] zero e = refl
none_next [] (suc i) e = refl
none_next (x ∷ xs) zero e = absurd (cc)
none_next (x ∷ xs) (suc i) e = ap (λ r. x ∷ r) (none_next xs i e)

-- there is no more
pub take_more : {X : Type 0} (xs : List X) (i : ℕ) → slice_get xs i ≡ None → take (i + 1) xs ≡ take i xs
take_more xs i e = ap (λ j. take j xs) (sym (next i)) ∙ none_next xs i e

any_next : (f : List ℕ → Bool) (ks : List (List ℕ)) (i : ℕ) (k : List ℕ) → slice_get ks i ≡ Some k → list_any f (take i ks) ≡ false → f k ≡ false → list_any f (take (suc i) ks) ≡ false
any_next f [] i k e h g = absurd (cc)
any_next f (n ∷ ks) zero k e h g = let s : n ≡ k = cc in rw (ap f s ∙ g) refl
any_next f (n ∷ ks) (suc i) k e h g =
    let a = or_parts (f n) (list_any f (take i ks)) h in rw a.0 (any_next f ks i k e a.1 g)

-- one more key fails
pub any_more : (f : List ℕ → Bool) (ks : List (List ℕ)) (i : ℕ) (k : List ℕ) → slice_get ks i ≡ Some k → list_any f (take i ks) ≡ false → f k ≡ false → list_any f (take (i + 1) ks) ≡ false
any_more f ks i k e h g = sym (ap (λ j. list_any f (take j ks)) (next i)) ∙ any_next f ks i k e h g

-- a key that passes, before the end
pub any_found : (f : List ℕ → Bool) (ks : List (List ℕ)) (i end : ℕ) (k : List ℕ) → slice_get ks i ≡ Some k → i < end → f k ≡ true → list_any f (take end ks) ≡ true
any_found f [] i end k e h g = absurd (cc)
any_found f (n ∷ ks) i zero k e h g = absurd (omega arith)
any_found f (n ∷ ks) zero (suc end) k e h g = let s : n ≡ k = cc in rw (ap f s ∙ g) refl
any_found f (n ∷ ks) (suc i) (suc end) k e h g = or_right (f n) (list_any f (take end ks)) (any_found f ks i end k e (omega arith) g)

-- a test that all these keys pass is passed by a key that is among them
pub passed_before : (f : List ℕ → Bool) (ks : List (List ℕ)) (k : List ℕ) → list_any (λ m. bytes_eq m k) ks ≡ true → list_all f ks ≡ true → f k ≡ true
passed_before f [] k h g = absurd (cc)
passed_before f (n ∷ ks) k h g = by (bytes_eq n k) refl h (λ i. passed_before f ks k i (and_parts (f n) (list_all f ks) g).1)
  where
    by : (b : Bool) → bytes_eq n k ≡ b → (b || list_any (λ m. bytes_eq m k) ks) ≡ true → (list_any (λ m. bytes_eq m k) ks ≡ true → f k ≡ true) → f k ≡ true
    by true e i r = ap f (sym ((bytes_eq-Decides n k).0 e)) ∙ (and_parts (f n) (list_all f ks) g).0
    by false e i r = r i

-- ---- members

-- the key of the member at an index
pub key_of_pair : (ps : List (List ℕ × Tree)) (i : ℕ) (k : List ℕ) (u : Tree) → slice_get ps i ≡ Some (k, u) → slice_get (keys_in ps) i ≡ Some k
key_of_pair [] i k u e = absurd (cc)
key_of_pair (p ∷ ps) zero k u e = ap (option_map (λ (q : List ℕ × Tree). q.0)) e
key_of_pair (p ∷ ps) (suc i) k u e = key_of_pair ps i k u e

pub no_key_at : (ps : List (List ℕ × Tree)) (i : ℕ) → slice_get ps i ≡ None → slice_get (keys_in ps) i ≡ None
no_key_at [] zero e = refl
no_key_at [] (suc i) e = refl
no_key_at (p ∷ ps) zero e = absurd (cc)
no_key_at (p ∷ ps) (suc i) e = no_key_at ps i e

-- a member before which none has its key is the first of it
pub value_first : (ps : List (List ℕ × Tree)) (i : ℕ) (k : List ℕ) (u : Tree) → slice_get ps i ≡ Some (k, u) → list_any (λ m. bytes_eq m k) (take i (keys_in ps)) ≡ false → value_at k ps ≡ Some u
value_first [] i k u e h = absurd (cc)
value_first (p ∷ ps) zero k u e h =
    let s : bytes_eq p.0 k ≡ true = (bytes_eq-Decides p.0 k).1 (ap (λ (q : Option (List ℕ × Tree)). elim q [ Some r ↦ r.0 | None ↦ k ]) e) in
    rw s (ap (option_map (λ (q : List ℕ × Tree). q.1)) e)
value_first (p ∷ ps) (suc i) k u e h =
    let a = or_parts (bytes_eq p.0 k) (list_any (λ m. bytes_eq m k) (take i (keys_in ps))) h in rw a.0 (value_first ps i k u e a.1)

-- ---- objects

-- the first value of a key
first_at : (k : List ℕ) (ps : List (List ℕ × Tree)) → first_value k (list_pairs ps) ≡ value_at k ps
first_at k [] = refl
first_at k (p ∷ ps) = by (bytes_eq p.0 k) (first_at k ps)
  where
    by : (b : Bool) → first_value k (list_pairs ps) ≡ value_at k ps → cond b (Some p.1) (first_value k (list_pairs ps)) ≡ option_map (λ (q : List ℕ × Tree). q.1) (cond b (Some p) (first_of k ps))
    by true h = refl
    by false h = h

-- a test that the keys pass is passed by a key that some member has
passed : (f : List ℕ → Bool) (k : List ℕ) (ps : List (List ℕ × Tree)) → list_all f (keys_in ps) ≡ true → is_some (first_of k ps) ≡ true → f k ≡ true
passed f k [] h g = absurd (cc)
passed f k (p ∷ ps) h g = by (bytes_eq p.0 k) refl g (passed f k ps (and_parts (f p.0) (list_all f (keys_in ps)) h).1)
  where
    by : (b : Bool) → bytes_eq p.0 k ≡ b → is_some (cond b (Some p) (first_of k ps)) ≡ true → (is_some (first_of k ps) ≡ true → f k ≡ true) → f k ≡ true
    by true e i r = ap f (sym ((bytes_eq-Decides p.0 k).0 e)) ∙ (and_parts (f p.0) (list_all f (keys_in ps)) h).0
    by false e i r = r i

all_weaker : (f g : List ℕ → Bool) (ks : List (List ℕ)) → ((k : List ℕ) → f k ≡ true → g k ≡ true) → list_all f ks ≡ true → list_all g ks ≡ true
all_weaker f g [] h e = refl
all_weaker f g (k ∷ ks) h e =
    let a = and_parts (f k) (list_all f ks) e in and_from (g k) (list_all g ks) (h k a.0) (all_weaker f g ks h a.1)

all_where : (f g h : List ℕ → Bool) (ks : List (List ℕ)) → ((k : List ℕ) → h k ≡ true → f k ≡ g k) → list_all h ks ≡ true → list_all f ks ≡ list_all g ks
all_where f g h [] s e = refl
all_where f g h (k ∷ ks) s e =
    let a = and_parts (h k) (list_all h ks) e in ap₂ (λ x y. x && y) (s k a.0) (all_where f g h ks s a.1)

-- an object has each of its keys
pub has_own : (ps : List (List ℕ × Tree)) → list_all (λ k. is_some (first_of k ps)) (keys_in ps) ≡ true
has_own [] = refl
has_own (p ∷ ps) =
    and_from (is_some (first_of p.0 (p ∷ ps))) (list_all (λ k. is_some (first_of k (p ∷ ps))) (keys_in ps)) (ap (λ b. is_some (cond b (Some p) (first_of p.0 ps))) ((bytes_eq-Decides p.0 p.0).1 refl))
    (all_weaker (λ k. is_some (first_of k ps)) (λ k. is_some (first_of k (p ∷ ps))) (keys_in ps) (λ k e. by k (bytes_eq p.0 k) e) (has_own ps))
  where
    by : (k : List ℕ) (b : Bool) → is_some (first_of k ps) ≡ true → is_some (cond b (Some p) (first_of k ps)) ≡ true
    by k true e = refl
    by k false e = e

-- at a key of the second, two objects whose first values agree at the keys of the first agree exactly where the first has it
agree_has : (ps qs : List (List ℕ × Tree)) (k : List ℕ) → list_all (agree_at ps qs) (keys_in ps) ≡ true → is_some (first_of k qs) ≡ true → agree_at ps qs k ≡ is_some (first_of k ps)
agree_has ps qs k h e = by (first_of k ps) refl (passed (agree_at ps qs) k ps h)
  where
    none : (o : Option (List ℕ × Tree)) → is_some o ≡ true → option_eq same None (option_map (λ (q : List ℕ × Tree). q.1) o) ≡ false
    none None g = absurd (cc)
    none (Some q) g = refl

    by : (o : Option (List ℕ × Tree)) → first_of k ps ≡ o → (is_some o ≡ true → agree_at ps qs k ≡ true) → agree_at ps qs k ≡ is_some o
    by None s g = ap (λ (r : Option (List ℕ × Tree)). option_eq same (option_map (λ (q : List ℕ × Tree). q.1) r) (value_at k qs)) s ∙ none (first_of k qs) e
    by (Some p) s g = g refl

all_has : (ps qs : List (List ℕ × Tree)) (b : Bool) → list_all (agree_at ps qs) (keys_in ps) ≡ b → (b && list_all (agree_at ps qs) (keys_in qs)) ≡ (b && list_all (λ k. is_some (first_of k ps)) (keys_in qs))
all_has ps qs true e = all_where (agree_at ps qs) (λ k. is_some (first_of k ps)) (λ k. is_some (first_of k qs)) (keys_in qs) (λ k. agree_has ps qs k e) (has_own qs)
all_has ps qs false e = refl

keys_back : (ps : List (List ℕ × Tree)) → keys (list_pairs ps) ≡ keys_in ps
keys_back ps = ap (map (λ (p : List ℕ × Tree). p.0)) (pairs_again ps)

keys_length : (ps : List (List ℕ × Tree)) → length (keys (list_pairs ps)) ≡ length ps
keys_length ps = ap length (keys_back ps) ∙ length-map ps (λ (p : List ℕ × Tree). p.0)

all_agree : (ps qs : List (List ℕ × Tree)) (ks : List (List ℕ)) → list_all (λ k. first_same k (list_pairs ps) (first_value k (list_pairs qs))) ks ≡ list_all (agree_at ps qs) ks
all_agree ps qs [] = refl
all_agree ps qs (k ∷ ks) = ap₂ (λ x y. x && y) (first_agree k (list_pairs ps) (first_value k (list_pairs qs)) ∙ ap₂ (option_eq same) (first_at k ps) (first_at k qs)) (all_agree ps qs ks)

-- objects are the same where they have as many members, the first values of each key of the first agree, and the first has each key of the second
objects_same : (ps qs : List (List ℕ × Tree)) → same (pairs (list_pairs ps)) (pairs (list_pairs qs)) ≡ ((length ps == length qs) && (list_all (agree_at ps qs) (keys_in ps) && list_all (λ k. is_some (first_of k ps)) (keys_in qs)))
objects_same ps qs =
    ap₂ (λ x y. x && y) (ap₂ (λ m n. m == n) (keys_length ps) (keys_length qs))
    (ap₂ (λ (k l : List (List ℕ)). list_all (λ m. first_same m (list_pairs ps) (first_value m (list_pairs qs))) (k ++ l)) (keys_back ps) (keys_back qs)
    ∙ all_agree ps qs (keys_in ps ++ keys_in qs)
    ∙ list_all-append (agree_at ps qs) (keys_in ps) (keys_in qs)
    ∙ all_has ps qs (list_all (agree_at ps qs) (keys_in ps)) refl)

pub members_apart : (ps qs : List (List ℕ × Tree)) → length ps ≢ length qs → same (pairs (list_pairs ps)) (pairs (list_pairs qs)) ≡ false
members_apart ps qs n = objects_same ps qs ∙ and_left (length ps == length qs) (list_all (agree_at ps qs) (keys_in ps) && list_all (λ k. is_some (first_of k ps)) (keys_in qs)) (ne_eqb (length ps) (length qs) n)

pub members_same : (ps qs : List (List ℕ × Tree)) (b : Bool) → length ps ≡ length qs → b ≡ list_all (agree_at ps qs) (keys_in ps) → same (pairs (list_pairs ps)) (pairs (list_pairs qs)) ≡ (b && list_all (λ k. is_some (first_of k ps)) (keys_in qs))
members_same ps qs b n e =
    objects_same ps qs ∙ ap₂ (λ x y. x && (y && list_all (λ k. is_some (first_of k ps)) (keys_in qs))) (eq-eqb (length ps) (length qs) n) (sym e)
