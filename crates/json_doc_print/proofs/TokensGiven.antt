-- A tree, given in turn.
use Rattle.std.proofs.Common.{◌≡◌, ℕ, zero, suc, ◌+◌, ◌≤◌, List, [], ◌∷◌, ◌++◌, length, take, drop, map, Option, Some, None, Ok, Err, Result, refl, sym, ap, ap₂, subst, ◌∙◌, arith, append_assoc, append-nil, slice_get, IfSome}
use Rattle.json_grammar.specs.declared.Kind.TheVariants.{Array as array, Object as object}
use Rattle.json_grammar.specs.Tree.{Tree, null, boolean, num, text, list, pairs, Trees, Pairs, trees_list, pairs_list, list_trees, list_pairs, begin, end, key_token}
use Rattle.json_grammar.specs.TokenStates.{TokenState, after_token, ValueMayCome, NameMayCome, EndMayCome}
use Rattle.json_grammar.specs.Sizes.{nodes, trees_nodes, pairs_nodes}
use Rattle.json_io.specs.declared.error.Error.{Error}
use Rattle.json_doc.specs.Readings.{object_keys, values}
use Rattle.std.proofs.lemmas.List.{take_all}
use Rattle.json_print.specs.Given.{TokenOrInteger, given, token_of}
use Rattle.json_print.proofs.Taking.{state_moves}
use Rattle.json_print.specs.Taking.{after_all, StopsAmong, Takes}
use Rattle.json_doc_print.specs.Readings.{members}
use Rattle.json_doc_print.specs.Emitting.{Emits, tree_given, trees_given, pairs_given}
use Rattle.json_doc.proofs.Trees.{list_back}
use Rattle.json_doc_print.proofs.Trees.{pairs_back}
use Rattle.json_doc_print.proofs.ExpectedTokens.{after_append, all_given, all_pairs, elements_state, members_state}

-- ---- one

pub emits_one : {S : Type 0} (after : S → TokenOrInteger → S) (stopped : S → TokenOrInteger → S → Error → Type 0) (old new : S) (err err' : Option Error) (x : TokenOrInteger) (ts : List TokenOrInteger) (r : Result (Unit {0}) Error)
    → ts ≡ x ∷ [] → Takes after stopped old new err err' x r → Emits after stopped old new err err' ts r
emits_one after stopped old new err err' x ts (Ok u) e h = record { all = rw e h.ok; fresh = h.fresh; failed = tt; stops = λ f. tt; again = h.again }
emits_one after stopped old new err err' x ts (Err y) e h =
    record { all = tt; fresh = tt; failed = h.failed; stops = λ f. record { front = []; at = x; back = []; whole = e; left = h.stopped f }; again = h.again }

-- the first was refused
pub emits_none : {S : Type 0} (after : S → TokenOrInteger → S) (stopped : S → TokenOrInteger → S → Error → Type 0) (old new : S) (err err' : Option Error) (x : TokenOrInteger) (rest ts : List TokenOrInteger) (e : Error)
    → ts ≡ x ∷ rest → Takes after stopped old new err err' x (Err e) → Emits after stopped old new err err' ts (Err e)
emits_none after stopped old new err err' x rest ts e w h =
    record { all = tt; fresh = tt; failed = h.failed; stops = λ f. record { front = []; at = x; back = rest; whole = w; left = h.stopped f }; again = h.again }

-- one is taken only where no error was answered
pub was_fresh : {S : Type 0} (after : S → TokenOrInteger → S) (stopped : S → TokenOrInteger → S → Error → Type 0) (old new : S) (err err' : Option Error) (x : TokenOrInteger) (u : Unit {0}) → Takes after stopped old new err err' x (Ok u) → err ≡ None
was_fresh after stopped old new None err' x u h = refl
was_fresh after stopped old new (Some e) err' x u h = let same : Ok u ≡ Err e = h.again.0 in absurd (cc)

if_none : (err : Option Error) (P : Error → Type 0) → err ≡ None → IfSome err P
if_none None P f = tt
if_none (Some e) P f = absurd (cc)

-- ---- what is in a container

-- an array is the list of its elements
pub list_seen : (t : Tree) (ts : Trees) (xs : List Tree) → t ≡ list ts → xs ≡ trees_list ts → list (list_trees xs) ≡ t
list_seen t ts xs e h = ap (λ ys. list (list_trees ys)) h ∙ ap list (list_back ts) ∙ sym e

pub pairs_seen : (t : Tree) (ps : Pairs) (xs : List (List ℕ × Tree)) → t ≡ pairs ps → xs ≡ pairs_list ps → pairs (list_pairs xs) ≡ t
pairs_seen t ps xs e h = ap (λ ys. pairs (list_pairs ys)) h ∙ ap pairs (pairs_back ps) ∙ sym e

-- no element has more nodes than all
pub element_within : (ts : List Tree) (i : ℕ) (u : Tree) → slice_get ts i ≡ Some u → nodes u ≤ trees_nodes (list_trees ts)
element_within [] i u e = absurd (cc)
element_within (t ∷ ts) zero u e = let s : t ≡ u = cc in omega (arith, ap nodes s)
element_within (t ∷ ts) (suc i) u e = omega (arith, element_within ts i u e)

pub value_within : (ps : List (List ℕ × Tree)) (i : ℕ) (u : Tree) → slice_get (map (λ p. p.1) ps) i ≡ Some u → nodes u ≤ pairs_nodes (list_pairs ps)
value_within [] i u e = absurd (cc)
value_within (p ∷ ps) zero u e = let s : p.1 ≡ u = cc in omega (arith, ap nodes s)
value_within (p ∷ ps) (suc i) u e = omega (arith, value_within ps i u e)

keys_of : (t : Tree) → object_keys t ≡ map (λ p. p.0) (members t)
keys_of (pairs ps) = refl
keys_of null = refl
keys_of (boolean b) = refl
keys_of (num l) = refl
keys_of (text c) = refl
keys_of (list ts) = refl

values_of : (t : Tree) → values t ≡ map (λ p. p.1) (members t)
values_of (pairs ps) = refl
values_of null = refl
values_of (boolean b) = refl
values_of (num l) = refl
values_of (text c) = refl
values_of (list ts) = refl

-- the key of a pair is that of the member
pub key_there : (t : Tree) (i : ℕ) (k : Option (List ℕ)) → k ≡ slice_get (object_keys t) i → slice_get (map (λ p. p.0) (members t)) i ≡ k
key_there t i k e = sym (e ∙ ap (λ o. slice_get o i) (keys_of t))

pub value_there : (t : Tree) (i : ℕ) (u : Option Tree) → u ≡ slice_get (values t) i → slice_get (map (λ p. p.1) (members t)) i ≡ u
value_there t i u e = sym (e ∙ ap (λ o. slice_get o i) (values_of t))

-- so has none of a list that is taken apart
pub tree_among : (front rest ts : List Tree) (u : Tree) → front ++ u ∷ rest ≡ ts → nodes u ≤ trees_nodes (list_trees ts)
tree_among front rest ts u e = subst (λ xs. nodes u ≤ trees_nodes (list_trees xs)) e (among front)
  where
    among : (xs : List Tree) → nodes u ≤ trees_nodes (list_trees (xs ++ u ∷ rest))
    among [] = omega arith
    among (x ∷ xs) = omega (arith, among xs)

pub value_among : (front rest ps : List (List ℕ × Tree)) (k : List ℕ) (u : Tree) → front ++ (k, u) ∷ rest ≡ ps → nodes u ≤ pairs_nodes (list_pairs ps)
value_among front rest ps k u e = subst (λ xs. nodes u ≤ pairs_nodes (list_pairs xs)) e (among front)
  where
    among : (xs : List (List ℕ × Tree)) → nodes u ≤ pairs_nodes (list_pairs (xs ++ (k, u) ∷ rest))
    among [] = omega arith
    among (x ∷ xs) = omega (arith, among xs)

-- ---- what is left of a list

next : (i : ℕ) → i + 1 ≡ suc i
next i = omega arith

pub item_left : {A : Type 0} (xs rest : List A) (i : ℕ) (x : A) → drop i xs ≡ x ∷ rest → slice_get xs i ≡ Some x
item_left [] rest zero x e = absurd (cc)
item_left [] rest (suc i) x e = absurd (cc)
item_left (y ∷ ys) rest zero x e = let s : y ≡ x = cc in ap Some s
item_left (y ∷ ys) rest (suc i) x e = item_left ys rest i x e

rest_from : {A : Type 0} (xs rest : List A) (i : ℕ) (x : A) → drop i xs ≡ x ∷ rest → drop (suc i) xs ≡ rest
rest_from [] rest zero x e = absurd (cc)
rest_from [] rest (suc i) x e = absurd (cc)
rest_from (y ∷ ys) rest zero x e = cc
rest_from (y ∷ ys) rest (suc i) x e = rest_from ys rest i x e

pub rest_left : {A : Type 0} (xs rest : List A) (i : ℕ) (x : A) → drop i xs ≡ x ∷ rest → drop (i + 1) xs ≡ rest
rest_left xs rest i x e = ap (λ n. drop n xs) (next i) ∙ rest_from xs rest i x e

pub nothing_after : {A : Type 0} (xs : List A) (i : ℕ) → drop i xs ≡ [] → length xs ≤ i
nothing_after [] i e = omega arith
nothing_after (y ∷ ys) zero e = absurd (cc)
nothing_after (y ∷ ys) (suc i) e = omega (arith, nothing_after ys i e)

-- ---- one more

more_given : (xs : List Tree) (i : ℕ) (u : Tree) → slice_get xs i ≡ Some u → all_given (take (suc i) xs) ≡ all_given (take i xs) ++ tree_given u
more_given [] i u e = absurd (cc)
more_given (x ∷ xs) zero u e = let s : x ≡ u = cc in append-nil (tree_given x) ∙ ap tree_given s
more_given (x ∷ xs) (suc i) u e = ap (λ o. tree_given x ++ o) (more_given xs i u e) ∙ sym (append_assoc (tree_given x) (all_given (take i xs)) (tree_given u))

-- what follows an element
rest_given : (xs : List Tree) (i : ℕ) (u : Tree) → slice_get xs i ≡ Some u → (m : List TokenOrInteger) × (all_given xs ≡ all_given (take i xs) ++ (tree_given u ++ m))
rest_given [] i u e = absurd (cc)
rest_given (x ∷ xs) zero u e = let s : x ≡ u = cc in (all_given xs, ap (λ o. tree_given o ++ all_given xs) s)
rest_given (x ∷ xs) (suc i) u e =
    let r = rest_given xs i u e in (r.0, ap (λ o. tree_given x ++ o) r.1 ∙ sym (append_assoc (tree_given x) (all_given (take i xs)) (tree_given u ++ r.0)))

-- ---- errors

pub stops_one : {S : Type 0} (after : S → TokenOrInteger → S) (stopped : S → TokenOrInteger → S → Error → Type 0) (old new : S) (err err' : Option Error) (x : TokenOrInteger) (e : Error)
    → err ≡ None → Takes after stopped old new err err' x (Err e) → StopsAmong after stopped old new (x ∷ []) e
stops_one after stopped old new err err' x e fresh h = record { front = []; at = x; back = []; whole = refl; left = h.stopped fresh }

-- an error within some of them is one within all
pub stops_within : {S : Type 0} (after : S → TokenOrInteger → S) (stopped : S → TokenOrInteger → S → Error → Type 0) (first old new : S) (pre mid post ts : List TokenOrInteger) (e : Error)
    → old ≡ after_all after first pre → ts ≡ pre ++ (mid ++ post) → StopsAmong after stopped old new mid e → StopsAmong after stopped first new ts e
stops_within after stopped first old new pre mid post ts e s w h =
    record {
      front = pre ++ h.front;
      at = h.at;
      back = h.back ++ post;
      whole = w ∙ ap (λ m. pre ++ (m ++ post)) h.whole ∙ ap (λ m. pre ++ m) (append_assoc h.front (h.at ∷ h.back) post) ∙ sym (append_assoc pre h.front (h.at ∷ (h.back ++ post)));
      left = subst (λ z. stopped z h.at new e) (ap (λ z. after_all after z h.front) s ∙ sym (after_append after first pre h.front)) h.left;
    }

pub emits_refused : {S : Type 0} (after : S → TokenOrInteger → S) (stopped : S → TokenOrInteger → S → Error → Type 0) (old new : S) (err err' : Option Error) (ts : List TokenOrInteger) (e : Error)
    → err ≡ None → err' ≡ Some e → StopsAmong after stopped old new ts e → Emits after stopped old new err err' ts (Err e)
emits_refused after stopped old new err err' ts e f k h = record { all = tt; fresh = tt; failed = k; stops = λ g. h; again = if_none err _ f }

-- ---- arrays

trees_all : (ts : List Tree) → trees_given (list_trees ts) ≡ all_given ts
trees_all [] = refl
trees_all (t ∷ ts) = ap (λ o. tree_given t ++ o) (trees_all ts)

-- what is given of an array of these elements
pub array_given : (ts : List Tree) → tree_given (list (list_trees ts)) ≡ given (begin array) ∷ (all_given ts ++ given (end array) ∷ [])
array_given ts = ap (λ o. given (begin array) ∷ (o ++ given (end array) ∷ [])) (trees_all ts)

abbrev pub array_front : List Tree → ℕ → List TokenOrInteger
array_front ts i = given (begin array) ∷ all_given (take i ts)

-- ... around one element
pub array_around : (ts : List Tree) (i : ℕ) (u : Tree) → slice_get ts i ≡ Some u → (m : List TokenOrInteger) × (tree_given (list (list_trees ts)) ≡ array_front ts i ++ (tree_given u ++ m))
array_around ts i u e =
    let r = rest_given ts i u e in (
      r.0 ++ given (end array) ∷ [],
      array_given ts ∙ ap (λ o. given (begin array) ∷ (o ++ given (end array) ∷ [])) r.1 ∙ ap (λ o. given (begin array) ∷ o) (append_assoc (all_given (take i ts)) (tree_given u ++ r.0) (given (end array) ∷ []) ∙ ap (λ o. all_given (take i ts) ++ o) (append_assoc (tree_given u) r.0 (given (end array) ∷ []))),
    )

array_more : (ts : List Tree) (i : ℕ) (u : Tree) → slice_get ts i ≡ Some u → array_front ts (i + 1) ≡ array_front ts i ++ tree_given u
array_more ts i u e = ap (array_front ts) (next i) ∙ ap (λ o. given (begin array) ∷ o) (more_given ts i u e)

pub array_whole : (ts : List Tree) (n : ℕ) → length ts ≤ n → tree_given (list (list_trees ts)) ≡ array_front ts n ++ (given (end array) ∷ [] ++ [])
array_whole ts n l = array_given ts ∙ ap (λ o. given (begin array) ∷ (all_given o ++ given (end array) ∷ [])) (sym (take_all n ts l))

-- after some elements an element or the end may follow
pub array_state : {S : Type 0} (after : S → TokenOrInteger → S) (token_state : S → TokenState) → ((s : S) (g : TokenOrInteger) → token_state (after s g) ≡ after_token (token_state s) (token_of g)) → (first now : S) (ts : List Tree) (i : ℕ) → now ≡ after_all after first (array_front ts i)
    → ValueMayCome (token_state now).expected × EndMayCome (token_state now).expected array
array_state after token_state moves first now ts i e =
    let o = (token_state first).opened in let r = elements_state o (take i ts) in
    let s = ap token_state e ∙ state_moves after token_state moves first (array_front ts i) ∙ r in
    (subst (λ (z : TokenState). ValueMayCome z.expected) (sym s) tt, subst (λ (z : TokenState). EndMayCome z.expected array) (sym s) tt)

-- one element more was given
pub array_step : {S : Type 0} (after : S → TokenOrInteger → S) (first now new : S) (ts : List Tree) (i : ℕ) (u : Tree) → now ≡ after_all after first (array_front ts i) → new ≡ after_all after now (tree_given u) → slice_get ts i ≡ Some u
    → new ≡ after_all after first (array_front ts (i + 1))
array_step after first now new ts i u s n e =
    n ∙ ap (λ z. after_all after z (tree_given u)) s ∙ sym (after_append after first (array_front ts i) (tree_given u)) ∙ ap (after_all after first) (sym (array_more ts i u e))

-- ---- objects

more_pairs : (xs : List (List ℕ × Tree)) (i : ℕ) (k : List ℕ) (u : Tree) → slice_get (map (λ p. p.0) xs) i ≡ Some k → slice_get (map (λ p. p.1) xs) i ≡ Some u → all_pairs (take (suc i) xs) ≡ all_pairs (take i xs) ++ given (key_token k) ∷ tree_given u
more_pairs [] i k u d e = absurd (cc)
more_pairs (x ∷ xs) zero k u d e = let s : x.0 ≡ k = cc in let r : x.1 ≡ u = cc in ap (λ o. given (key_token x.0) ∷ o) (append-nil (tree_given x.1)) ∙ ap₂ (λ a b. given (key_token a) ∷ tree_given b) s r
more_pairs (x ∷ xs) (suc i) k u d e =
    ap (λ o. given (key_token x.0) ∷ (tree_given x.1 ++ o)) (more_pairs xs i k u d e) ∙ ap (λ o. given (key_token x.0) ∷ o) (sym (append_assoc (tree_given x.1) (all_pairs (take i xs)) (given (key_token k) ∷ tree_given u)))

rest_pairs : (xs : List (List ℕ × Tree)) (i : ℕ) (k : List ℕ) (u : Tree) → slice_get (map (λ p. p.0) xs) i ≡ Some k → slice_get (map (λ p. p.1) xs) i ≡ Some u → (m : List TokenOrInteger) × (all_pairs xs ≡ all_pairs (take i xs) ++ (given (key_token k) ∷ (tree_given u ++ m)))
rest_pairs [] i k u d e = absurd (cc)
rest_pairs (x ∷ xs) zero k u d e = let s : x.0 ≡ k = cc in let r : x.1 ≡ u = cc in (all_pairs xs, ap₂ (λ a b. given (key_token a) ∷ (tree_given b ++ all_pairs xs)) s r)
rest_pairs (x ∷ xs) (suc i) k u d e =
    let r = rest_pairs xs i k u d e in
    (r.0, ap (λ o. given (key_token x.0) ∷ (tree_given x.1 ++ o)) r.1 ∙ ap (λ o. given (key_token x.0) ∷ o) (sym (append_assoc (tree_given x.1) (all_pairs (take i xs)) (given (key_token k) ∷ (tree_given u ++ r.0)))))

pairs_all : (ps : List (List ℕ × Tree)) → pairs_given (list_pairs ps) ≡ all_pairs ps
pairs_all [] = refl
pairs_all (p ∷ ps) = ap (λ o. given (key_token p.0) ∷ (tree_given p.1 ++ o)) (pairs_all ps)

-- what is given of an object of these members
pub object_given : (ps : List (List ℕ × Tree)) → tree_given (pairs (list_pairs ps)) ≡ given (begin object) ∷ (all_pairs ps ++ given (end object) ∷ [])
object_given ps = ap (λ o. given (begin object) ∷ (o ++ given (end object) ∷ [])) (pairs_all ps)

abbrev pub object_front : List (List ℕ × Tree) → ℕ → List TokenOrInteger
object_front ps i = given (begin object) ∷ all_pairs (take i ps)

-- ... around one member
pub object_around : (ps : List (List ℕ × Tree)) (i : ℕ) (k : List ℕ) (u : Tree) → slice_get (map (λ p. p.0) ps) i ≡ Some k → slice_get (map (λ p. p.1) ps) i ≡ Some u
    → (m : List TokenOrInteger) × (tree_given (pairs (list_pairs ps)) ≡ object_front ps i ++ (given (key_token k) ∷ (tree_given u ++ m)))
object_around ps i k u d e =
    let r = rest_pairs ps i k u d e in (
      r.0 ++ given (end object) ∷ [],
      object_given ps ∙ ap (λ o. given (begin object) ∷ (o ++ given (end object) ∷ [])) r.1
          ∙ ap (λ o. given (begin object) ∷ o) (append_assoc (all_pairs (take i ps)) (given (key_token k) ∷ (tree_given u ++ r.0)) (given (end object) ∷ []) ∙ ap (λ o. all_pairs (take i ps) ++ (given (key_token k) ∷ o)) (append_assoc (tree_given u) r.0 (given (end object) ∷ []))),
    )

object_more : (ps : List (List ℕ × Tree)) (i : ℕ) (k : List ℕ) (u : Tree) → slice_get (map (λ p. p.0) ps) i ≡ Some k → slice_get (map (λ p. p.1) ps) i ≡ Some u → object_front ps (i + 1) ≡ object_front ps i ++ given (key_token k) ∷ tree_given u
object_more ps i k u d e = ap (object_front ps) (next i) ∙ ap (λ o. given (begin object) ∷ o) (more_pairs ps i k u d e)

pub object_whole : (ps : List (List ℕ × Tree)) (n : ℕ) → length ps ≤ n → tree_given (pairs (list_pairs ps)) ≡ object_front ps n ++ (given (end object) ∷ [] ++ [])
object_whole ps n l = object_given ps ∙ ap (λ o. given (begin object) ∷ (all_pairs o ++ given (end object) ∷ [])) (sym (take_all n ps l))

-- after some members a name or the end may follow
pub object_state : {S : Type 0} (after : S → TokenOrInteger → S) (token_state : S → TokenState) → ((s : S) (g : TokenOrInteger) → token_state (after s g) ≡ after_token (token_state s) (token_of g)) → (first now : S) (ps : List (List ℕ × Tree)) (i : ℕ) → now ≡ after_all after first (object_front ps i)
    → NameMayCome (token_state now).expected × EndMayCome (token_state now).expected object
object_state after token_state moves first now ps i e =
    let o = (token_state first).opened in let r = members_state o (take i ps) in
    let s = ap token_state e ∙ state_moves after token_state moves first (object_front ps i) ∙ r in
    (subst (λ (z : TokenState). NameMayCome z.expected) (sym s) tt, subst (λ (z : TokenState). EndMayCome z.expected object) (sym s) tt)

-- a value may follow a name
pub member_state : {S : Type 0} (after : S → TokenOrInteger → S) (token_state : S → TokenState) → ((s : S) (g : TokenOrInteger) → token_state (after s g) ≡ after_token (token_state s) (token_of g)) → (now new : S) (k : List ℕ) → new ≡ after now (given (key_token k)) → ValueMayCome (token_state new).expected
member_state after token_state moves now new k e = subst (λ (z : TokenState). ValueMayCome z.expected) (sym (ap token_state e ∙ moves now (given (key_token k)))) tt

-- one member more was given
pub object_step : {S : Type 0} (after : S → TokenOrInteger → S) (first now mid new : S) (ps : List (List ℕ × Tree)) (i : ℕ) (k : List ℕ) (u : Tree) → now ≡ after_all after first (object_front ps i) → mid ≡ after now (given (key_token k))
    → new ≡ after_all after mid (tree_given u) → slice_get (map (λ p. p.0) ps) i ≡ Some k → slice_get (map (λ p. p.1) ps) i ≡ Some u → new ≡ after_all after first (object_front ps (i + 1))
object_step after first now mid new ps i k u s m n d e =
    n ∙ ap (λ z. after_all after z (tree_given u)) (m ∙ ap (λ z. after z (given (key_token k))) s) ∙ sym (after_append after first (object_front ps i) (given (key_token k) ∷ tree_given u)) ∙ ap (after_all after first) (sym (object_more ps i k u d e))

-- ---- the end

-- the last was given, or met an error
pub emits_last : {S : Type 0} (after : S → TokenOrInteger → S) (stopped : S → TokenOrInteger → S → Error → Type 0) (first old new : S) (begun err err' : Option Error) (pre : List TokenOrInteger) (x : TokenOrInteger) (ts : List TokenOrInteger) (r : Result (Unit {0}) Error)
    → begun ≡ None → old ≡ after_all after first pre → err ≡ None → ts ≡ pre ++ x ∷ [] → Takes after stopped old new err err' x r → Emits after stopped first new begun err' ts r
emits_last after stopped first old new begun err err' pre x ts (Ok u) b s fresh w h =
    record {
      all = h.ok ∙ ap (λ z. after z x) s ∙ sym (after_append after first pre (x ∷ [])) ∙ ap (after_all after first) (sym w);
      fresh = h.fresh;
      failed = tt;
      stops = λ f. tt;
      again = if_none begun _ b;
    }
emits_last after stopped first old new begun err err' pre x ts (Err e) b s fresh w h =
    record {
      all = tt;
      fresh = tt;
      failed = h.failed;
      stops = λ f. stops_within after stopped first old new pre (x ∷ []) [] ts e s w (stops_one after stopped old new err err' x e fresh h);
      again = if_none begun _ b;
    }
