-- Steps of a source over a value.
use Rattle.std.proofs.Common.{◌≡◌, ◌≢◌, ◌∙◌, ℕ, ℤ, ◌<◌, ◌+◌, List, [], ◌∷◌, ◌++◌, length, map, Bool, true, false, if◌then◌else◌, Option, Some, None, refl, sym, ap, subst, arith, rules, append_assoc, length-append}
use denote.Enum.Bare.{sameb}
use Rattle.json_tokens.specs.contracts.token.TokenKind.{the_type}
use Rattle.json_grammar.specs.declared.Kind.{Kind}
use Rattle.json_grammar.specs.declared.Kind.TheVariants.{Array as array, Object as object}
use Rattle.json_grammar.specs.Tree.{Tree, null, boolean, num, text, list, pairs, Trees, Pairs, Token as Tok, null_token, boolean_token, num_token, text_token, tokens, trees_tokens, pairs_tokens, trees_list, list_trees, pairs_list, list_pairs, tree_and, begin, end, key_token}
use Rattle.json_number.specs.Integers.{integer_in}
use Rattle.json_doc.proofs.Trees.{list_back, pairs_back}
use Rattle.json_doc.specs.Readings.{type_of}
use Rattle.json_doc.specs.declared.json_type.JsonType.TheVariants as json
use Rattle.json_io.specs.Errors.{no_memory}
use Rattle.json_tokens.specs.declared.level.Level.{Level}
use Rattle.json_tokens.specs.declared.level.Level.TheVariants as level
use Rattle.json_tokens.specs.declared.token.TokenKind.{TokenKind}
use Rattle.json_tokens.specs.declared.token.TokenKind.TheVariants as kind
use Rattle.json_tokens.specs.declared.value_tokens.ValueTokens.{ValueTokens}
use Rattle.json_tokens.specs.Kinds.{kind_of, first_kind, number_kind}
use Rattle.json_grammar.specs.TokenStates.{TokenState, initial_state, state_in, state_after_value, after_token}
use Rattle.json_tokens.proofs.Places.{value_kind}
use Rattle.json_tokens.specs.ExpectedTokens.{around, begins_value, KindMayCome, IsOpen}
use Rattle.json_tokens.specs.TokensStates.{over_tree, WantsValue, WantsValueAt, Peeks, Moves, MatchesPeek, TakesOne, TakesTree, Leaves, RestOfContainer, FirstIs}
use Rattle.json_tokens.specs.Values.{Left, elements_of, members_of, left_after_opening, opened_in, kind_left, left_tokens, open_tokens, next_tokens, state_in_levels, ValueState, value_state, rest_of_tokens, head_kind, state_taken, tokens_state_of, value_taken, value_tokens_state, PullsMember, NoElement, FrontIs, SettlesNext, TakesTokensTo}

some_is : {A : Type 0} {x y : A} → Some x ≡ Some y → x ≡ y
some_is e = cc

regroup : (a b c d : List Tok) → ((a ++ b) ++ c) ++ d ≡ a ++ ((b ++ c) ++ d)
regroup a b c d = ap (λ (xs : List Tok). xs ++ d) (append_assoc a b c) ∙ append_assoc a (b ++ c) d

-- ---- open containers

opened_more : (c : List Left) (ls : List Level) (l : Level) → opened_in c (ls ++ l ∷ []) ≡ left_after_opening l (opened_in c ls)
opened_more c [] l = refl
opened_more c (k ∷ ls) l = opened_more (left_after_opening k c) ls l

-- those around the innermost
around_inner : (inner : Level) (c : List Left) (l : Left) (ls : List Left) → left_after_opening inner c ≡ l ∷ ls → c ≡ ls
around_inner level.Root c l ls e = absurd (cc)
around_inner (level.List s) c l ls e = cc
around_inner (level.Pairs s) c l ls e = cc

pub exit_some : (inner k : Level) (outer new : List Level) (l : Left) (ls : List Left) → left_after_opening inner (opened_in [] outer) ≡ l ∷ ls → outer ≡ new ++ k ∷ [] → left_after_opening k (opened_in [] new) ≡ ls
exit_some inner k outer new l ls e f = sym (opened_more [] new k) ∙ ap (opened_in []) (sym f) ∙ around_inner inner (opened_in [] outer) l ls e

pub entered : (d l k i : Level) (os ns : List Level) → d ≡ l → k ≡ i → ns ≡ os ++ k ∷ [] → left_after_opening d (opened_in [] ns) ≡ left_after_opening l (left_after_opening i (opened_in [] os))
entered d l k i os ns e f g =
    ap (λ (x : Level). left_after_opening x (opened_in [] ns)) e
    ∙ ap (left_after_opening l) (ap (opened_in []) g ∙ opened_more [] os k ∙ ap (λ (x : Level). left_after_opening x (opened_in [] os)) f)

-- ---- spots

kinds_at : (ls : List Left) (o : Option Tree) → map kind_left ls ≡ (state_in_levels ls o).opened
kinds_at [] None = refl
kinds_at [] (Some t) = refl
kinds_at (elements_of ts ∷ ls) o = refl
kinds_at (members_of ps ∷ ls) None = refl
kinds_at (members_of ps ∷ ls) (Some t) = refl

expected_after : (ls : List Left) → state_in_levels ls None ≡ state_in (map kind_left ls)
expected_after [] = refl
expected_after (elements_of ts ∷ ls) = refl
expected_after (members_of ps ∷ ls) = refl

expected_value : (ls : List Left) (o : Option Tree) → state_in_levels ls None ≡ state_after_value (state_in_levels ls o)
expected_value ls o = expected_after ls ∙ ap state_in (kinds_at ls o)

expected_around : (l : Left) (ls : List Left) (o : Option Tree) → state_in_levels ls None ≡ around (state_in_levels (l ∷ ls) o)
expected_around (elements_of ts) ls o = expected_after ls
expected_around (members_of ps) ls None = expected_after ls
expected_around (members_of ps) ls (Some t) = expected_after ls

-- ---- the first token

number_begins : (o : Option ℤ) → begins_value (number_kind o) ≡ true
number_begins None = refl
number_begins (Some n) = refl

first_begins : (t : Tree) → begins_value (first_kind t) ≡ true
first_begins null = refl
first_begins (boolean b) = refl
first_begins (num l) = number_begins (integer_in l)
first_begins (text s) = refl
first_begins (list ts) = refl
first_begins (pairs ps) = refl

value_may : (ls : List Left) (t : Tree) (k : TokenKind) → begins_value k ≡ true → KindMayCome (state_in_levels ls (Some t)) k
value_may [] t k e = value_kind initial_state k e tt
value_may (members_of ps ∷ ls) t k e = value_kind (state_in_levels (members_of ps ∷ ls) (Some t)) k e tt
value_may (elements_of ts ∷ ls) t k e = value_kind (state_in (array ∷ map kind_left ls)) k e tt

-- a value's first token has its kind
head_tree : (t : Tree) (xs : List Tok) → head_kind (tokens t ++ xs) ≡ Some (first_kind t)
head_tree null xs = refl
head_tree (boolean b) xs = refl
head_tree (num l) xs = refl
head_tree (text s) xs = refl
head_tree (list ts) xs = refl
head_tree (pairs ps) xs = refl

value_head : (ls : List Left) (t : Tree) (k : TokenKind) → head_kind (tokens t ++ open_tokens ls) ≡ Some k → KindMayCome (state_in_levels ls (Some t)) k
value_head ls t k e =
    let f : first_kind t ≡ k = some_is (sym (head_tree t (open_tokens ls)) ∙ e) in
    value_may ls t k (ap begins_value (sym f) ∙ first_begins t)

element_first : (t : Tree) (ts : List Tree) (ls : List Left) → open_tokens (elements_of (t ∷ ts) ∷ ls) ≡ tokens t ++ open_tokens (elements_of ts ∷ ls)
element_first t ts ls = regroup (tokens t) (trees_tokens (list_trees ts)) (end array ∷ []) (open_tokens ls)

member_first : (p : List ℕ × Tree) (ps : List (List ℕ × Tree)) (ls : List Left) → open_tokens (members_of (p ∷ ps) ∷ ls) ≡ key_token p.0 ∷ (tokens p.1 ++ open_tokens (members_of ps ∷ ls))
member_first p ps ls = ap (λ (xs : List Tok). key_token p.0 ∷ xs) (regroup (tokens p.1) (pairs_tokens (list_pairs ps)) (end object ∷ []) (open_tokens ls))

-- the next token may follow
head_may : (ls : List Left) (o : Option Tree) (k : TokenKind) → head_kind (next_tokens o ++ open_tokens ls) ≡ Some k → KindMayCome (state_in_levels ls o) k
head_may ls (Some t) k e = value_head ls t k e
head_may [] None k e = absurd (cc)
head_may (elements_of [] ∷ ls) None k e = subst (λ (j : TokenKind). KindMayCome (state_in (array ∷ map kind_left ls)) j) (some_is e) tt
head_may (elements_of (t ∷ ts) ∷ ls) None k e = value_head (elements_of ts ∷ ls) t k (ap head_kind (sym (element_first t ts ls)) ∙ e)
head_may (members_of [] ∷ ls) None k e = subst (λ (j : TokenKind). KindMayCome (state_in (object ∷ map kind_left ls)) j) (some_is e) tt
head_may (members_of (p ∷ ps) ∷ ls) None k e = subst (λ (j : TokenKind). KindMayCome (state_in (object ∷ map kind_left ls)) j) (some_is e) tt

-- where no value is next, a key or an end is
front_head : (ls : List Left) (k : TokenKind) → NoElement ls → FrontIs ls k → state_in_levels ls None ≢ state_in [] → head_kind (open_tokens ls) ≡ Some k
front_head [] k n f o = absurd (o refl)
front_head (elements_of [] ∷ ls) k n f o = ap Some (sym f)
front_head (elements_of (t ∷ ts) ∷ ls) k n f o = absurd (cc)
front_head (members_of [] ∷ ls) k n f o = ap Some (sym f)
front_head (members_of (p ∷ ps) ∷ ls) k n f o = ap Some (sym f)

peeked_head : (b : Bool) (o : Option TokenKind) (j k : TokenKind) → o ≡ Some k → (if b then o else None) ≡ Some j → k ≡ j
peeked_head true o j k e f = some_is (sym e ∙ f)
peeked_head false o j k e f = absurd (cc)

peeked_none : (b : Bool) (o : Option TokenKind) → b ≡ false → (if b then o else None) ≡ None
peeked_none b o e = rw e

-- memory did not run out
pub not_failed : (b : Bool) → b ≡ false → (if b then Some no_memory else None) ≡ None
not_failed b e = rw e

-- ---- what is promised of a step

as_peeked : (a : ValueState) (k : TokenKind) → head_kind (rest_of_tokens a) ≡ Some k → MatchesPeek (tokens_state_of a) k
as_peeked a k e = record { may = head_may a.levels a.next k e; peeked = λ j f. peeked_head a.peeked (head_kind (rest_of_tokens a)) j k e f }

taken_on : (a b : ValueState) (xs : List Tok) → b.tree ≡ a.tree → rest_of_tokens a ≡ xs ++ rest_of_tokens b → (ts : List Tok) → state_taken a ts → state_taken b (ts ++ xs)
taken_on a b xs t r ts h = append_assoc ts xs (rest_of_tokens b) ∙ ap (λ (ys : List Tok). ts ++ ys) (sym r) ∙ h ∙ ap tokens (sym t)

fewer : (xs ys zs : List Tok) (x : Tok) → xs ≡ (x ∷ ys) ++ zs → length zs < length xs
fewer xs ys zs x e = let l : length xs ≡ length ((x ∷ ys) ++ zs) = ap length e in let m : length (ys ++ zs) ≡ length ys + length zs = length-append ys zs in omega arith

moves : {a b : ValueState} {p : TokenState} (x : Tok) (xs : List Tok) → TakesTokensTo a b (x ∷ xs) p → Moves (tokens_state_of a) (tokens_state_of b) p
moves {a} {b} x xs s = record {
  input = ap over_tree s.tree;
  expected = s.expected;
  peeked = peeked_none b.peeked (head_kind (rest_of_tokens b)) s.peeked;
  left = fewer (rest_of_tokens a) xs (rest_of_tokens b) x s.rest;
}

pub one_taken : (a b : ValueTokens) (x : Tok) → TakesTokensTo (value_state a) (value_state b) (x ∷ []) (after_token (value_tokens_state a).expected x) → TakesOne value_taken value_tokens_state a b x
one_taken a b x s = record {
  takes = record { on = taken_on (value_state a) (value_state b) (x ∷ []) s.tree s.rest };
  moves = moves x [] s;
  as_peeked = as_peeked (value_state a) (kind_of x) (ap head_kind s.rest);
}

-- a tree has a first token
first_of : (t : Tree) → (x : Tok) × (xs : List Tok) × (tokens t ≡ x ∷ xs)
first_of null = (null_token, [], refl)
first_of (boolean b) = (boolean_token b, [], refl)
first_of (num l) = (num_token l, [], refl)
first_of (text s) = (text_token s, [], refl)
first_of (list ts) = (begin array, _, refl)
first_of (pairs ps) = (begin object, _, refl)

tree_taken : (a b : ValueTokens) (t : Tree) → TakesTokensTo (value_state a) (value_state b) (tokens t) (state_after_value (value_tokens_state a).expected) → TakesTree value_taken value_tokens_state a b t
tree_taken a b t s =
    let f = first_of t in
    record {
      takes = record { on = taken_on (value_state a) (value_state b) (tokens t) s.tree s.rest };
      moves = moves f.0 f.1 (subst (λ (xs : List Tok). TakesTokensTo (value_state a) (value_state b) xs (state_after_value (value_tokens_state a).expected)) f.2 s);
      as_peeked = as_peeked (value_state a) (first_kind t) (ap head_kind s.rest ∙ head_tree t (rest_of_tokens (value_state b)));
    }

-- ---- after an element that was reached

pub settled : {a m b : ValueState} {xs : List Tok} {p q : TokenState} → SettlesNext a m → TakesTokensTo m b xs p → p ≡ q → TakesTokensTo a b xs q
settled s t e = record { tree = t.tree ∙ s.tree; rest = sym s.rest ∙ t.rest; expected = t.expected ∙ e; peeked = t.peeked; failed = t.failed ∙ s.failed }

pub peeks : (a m : ValueState) (k : TokenKind) → SettlesNext a m → head_kind (rest_of_tokens m) ≡ Some k → Peeks (tokens_state_of a) (tokens_state_of (record m { peeked = true })) k
peeks a m k s e = record {
  input = ap over_tree s.tree;
  expected = s.expected;
  peeked = e;
  left = let l : length (rest_of_tokens m) ≡ length (rest_of_tokens a) = ap length s.rest in omega arith;
  may = subst (λ (p : TokenState). KindMayCome p k) s.expected (head_may m.levels m.next k e);
  again = λ j f. peeked_head a.peeked (head_kind (rest_of_tokens a)) j k (ap head_kind (sym s.rest) ∙ e) f;
}

pub peek_value : (a m : ValueState) (t : Tree) (k : TokenKind) → SettlesNext a m → m.next ≡ Some t → k ≡ first_kind t → Peeks (tokens_state_of a) (tokens_state_of (record m { peeked = true })) k
peek_value a m t k s n e = peeks a m k s (ap (λ (o : Option Tree). head_kind (next_tokens o ++ open_tokens m.levels)) n ∙ head_tree t (open_tokens m.levels) ∙ ap Some (sym e))

pub peek_front : (a m : ValueState) (k : TokenKind) → SettlesNext a m → state_in_levels a.levels a.next ≢ state_in [] → m.next ≡ None → FrontIs m.levels k → Peeks (tokens_state_of a) (tokens_state_of (record m { peeked = true })) k
peek_front a m k s w n f =
    peeks a m k s (ap (λ (o : Option Tree). head_kind (next_tokens o ++ open_tokens m.levels)) n
    ∙ front_head m.levels k (s.reached n) f (λ i. w (sym s.expected ∙ ap (state_in_levels m.levels) n ∙ i)))

-- ---- the next value

next_rest : (a : ValueState) (t : Tree) → a.next ≡ Some t → rest_of_tokens a ≡ tokens t ++ open_tokens a.levels
next_rest a t n = ap (λ (o : Option Tree). next_tokens o ++ open_tokens a.levels) n

value_passed : (a : ValueState) (t : Tree) → a.next ≡ Some t → TakesTokensTo a (record a { next = None; peeked = false }) (tokens t) (state_after_value (state_in_levels a.levels a.next))
value_passed a t n = record { tree = refl; rest = next_rest a t n; expected = expected_value a.levels a.next; peeked = refl; failed = refl }

-- a scalar is one token
pub scalar_one : (t : Tree) → type_of t ≢ json.Array → type_of t ≢ json.Object → (x : Tok) × (tokens t ≡ x ∷ []) × ((p : TokenState) → state_after_value p ≡ after_token p x)
scalar_one null n m = (null_token, refl, λ p. refl)
scalar_one (boolean b) n m = (boolean_token b, refl, λ p. refl)
scalar_one (num l) n m = (num_token l, refl, λ p. refl)
scalar_one (text s) n m = (text_token s, refl, λ p. refl)
scalar_one (list ts) n m = absurd (n refl)
scalar_one (pairs ps) n m = absurd (m refl)

pub scalar_taken : (a : ValueState) (t : Tree) (x : Tok) → a.next ≡ Some t → tokens t ≡ x ∷ [] → ((p : TokenState) → state_after_value p ≡ after_token p x) → TakesTokensTo a (record a { next = None; peeked = false }) (x ∷ []) (after_token (state_in_levels a.levels a.next) x)
scalar_taken a t x n e f = record { tree = refl; rest = next_rest a t n ∙ ap (λ (xs : List Tok). xs ++ open_tokens a.levels) e; expected = expected_value a.levels a.next ∙ f (state_in_levels a.levels a.next); peeked = refl; failed = refl }

array_is : (t : Tree) → type_of t ≡ json.Array → (ts : Trees) × (t ≡ list ts)
array_is null e = absurd (cc)
array_is (boolean b) e = absurd (cc)
array_is (num l) e = absurd (cc)
array_is (text s) e = absurd (cc)
array_is (list ts) e = (ts, refl)
array_is (pairs ps) e = absurd (cc)

object_is : (t : Tree) → type_of t ≡ json.Object → (ps : Pairs) × (t ≡ pairs ps)
object_is null e = absurd (cc)
object_is (boolean b) e = absurd (cc)
object_is (num l) e = absurd (cc)
object_is (text s) e = absurd (cc)
object_is (list ts) e = absurd (cc)
object_is (pairs ps) e = (ps, refl)

array_begun : (a : ValueState) (ts : Trees) → a.next ≡ Some (list ts) → TakesTokensTo a (record a { next = None; levels = elements_of (trees_list ts) ∷ a.levels; peeked = false }) (begin array ∷ []) (after_token (state_in_levels a.levels a.next) (begin array))
array_begun a ts n = record {
  tree = refl;
  rest = next_rest a (list ts) n ∙ ap (λ (us : Trees). begin array ∷ ((trees_tokens us ++ end array ∷ []) ++ open_tokens a.levels)) (sym (list_back ts));
  expected = ap (λ (c : List Kind). state_in (array ∷ c)) (kinds_at a.levels a.next);
  peeked = refl;
  failed = refl;
}

object_begun : (a : ValueState) (ps : Pairs) → a.next ≡ Some (pairs ps) → TakesTokensTo a (record a { next = None; levels = members_of (pairs_list ps) ∷ a.levels; peeked = false }) (begin object ∷ []) (after_token (state_in_levels a.levels a.next) (begin object))
object_begun a ps n = record {
  tree = refl;
  rest = next_rest a (pairs ps) n ∙ ap (λ (qs : Pairs). begin object ∷ ((pairs_tokens qs ++ end object ∷ []) ++ open_tokens a.levels)) (sym (pairs_back ps));
  expected = ap (λ (c : List Kind). state_in (object ∷ c)) (kinds_at a.levels a.next);
  peeked = refl;
  failed = refl;
}

-- as the code says it: into a level, whose list is that of the value
pub array_entered : (a b : ValueState) (t : Tree) (inner : Level) → a.next ≡ Some t → type_of t ≡ json.Array
    → ((ts : Trees) (c : List Left) → t ≡ list ts → left_after_opening inner c ≡ elements_of (trees_list ts) ∷ c)
    → b ≡ record a { next = None; levels = left_after_opening inner a.levels; peeked = false } → TakesTokensTo a b (begin array ∷ []) (after_token (state_in_levels a.levels a.next) (begin array))
array_entered a b t inner n k l e =
    let r = array_is t k in
    subst (λ (s : ValueState). TakesTokensTo a s (begin array ∷ []) (after_token (state_in_levels a.levels a.next) (begin array)))
    (ap (λ (ls : List Left). record a { next = None; levels = ls; peeked = false }) (sym (l r.0 a.levels r.1)) ∙ sym e)
    (array_begun a r.0 (n ∙ ap Some r.1))

pub object_entered : (a b : ValueState) (t : Tree) (inner : Level) → a.next ≡ Some t → type_of t ≡ json.Object
    → ((ps : Pairs) (c : List Left) → t ≡ pairs ps → left_after_opening inner c ≡ members_of (pairs_list ps) ∷ c)
    → b ≡ record a { next = None; levels = left_after_opening inner a.levels; peeked = false } → TakesTokensTo a b (begin object ∷ []) (after_token (state_in_levels a.levels a.next) (begin object))
object_entered a b t inner n k l e =
    let r = object_is t k in
    subst (λ (s : ValueState). TakesTokensTo a s (begin object ∷ []) (after_token (state_in_levels a.levels a.next) (begin object)))
    (ap (λ (ls : List Left). record a { next = None; levels = ls; peeked = false }) (sym (l r.0 a.levels r.1)) ∙ sym e)
    (object_begun a r.0 (n ∙ ap Some r.1))

-- ---- keys and ends

key_parts : (ls ks : List Left) (p : List ℕ × Tree) → PullsMember ls (Some p) ks → (open_tokens ls ≡ key_token p.0 ∷ (tokens p.1 ++ open_tokens ks)) × (state_in_levels ks (Some p.1) ≡ after_token (state_in_levels ls None) (key_token p.0))
key_parts [] ks p h = let e = h.0 in absurd (cc)
key_parts (elements_of ts ∷ ls) ks p h = let e = h.0 in absurd (cc)
key_parts (members_of [] ∷ ls) ks p h = let e = h.0 in absurd (cc)
key_parts (members_of (q ∷ qs) ∷ ls) ks p (e, f) =
    let g : p ≡ q = some_is e in
    subst (λ (r : List ℕ × Tree). (open_tokens (members_of (q ∷ qs) ∷ ls) ≡ key_token r.0 ∷ (tokens r.1 ++ open_tokens ks)) × (state_in_levels ks (Some r.1) ≡ after_token (state_in (object ∷ map kind_left ls)) (key_token q.0))) (sym g)
    (subst (λ (is : List Left). (open_tokens (members_of (q ∷ qs) ∷ ls) ≡ key_token q.0 ∷ (tokens q.1 ++ open_tokens is)) × (state_in_levels is (Some q.1) ≡ after_token (state_in (object ∷ map kind_left ls)) (key_token q.0))) (sym f) (member_first q qs ls, refl))

pub key_taken : (a : ValueState) (ks : List Left) (p : List ℕ × Tree) → a.next ≡ None → PullsMember a.levels (Some p) ks
    → TakesTokensTo a (record a { next = Some p.1; levels = ks; peeked = false }) (key_token p.0 ∷ []) (after_token (state_in_levels a.levels a.next) (key_token p.0))
key_taken a ks p n h =
    let r = key_parts a.levels ks p h in
    record {
      tree = refl;
      rest = ap (λ (o : Option Tree). next_tokens o ++ open_tokens a.levels) n ∙ r.0;
      expected = r.1 ∙ ap (λ (o : Option Tree). after_token (state_in_levels a.levels o) (key_token p.0)) (sym n);
      peeked = refl;
      failed = refl;
    }

end_parts : (ls ks : List Left) (k : TokenKind) → NoElement ls → FrontIs ls k → PullsMember ls None ks → state_in_levels ls None ≢ state_in []
    → (j : Kind) × (l : Left) × (c : List Left) × (ls ≡ l ∷ c) × (ks ≡ l ∷ c) × (open_tokens ls ≡ end j ∷ open_tokens c) × (k ≡ kind_of (end j)) × (state_in_levels c None ≡ after_token (state_in_levels ls None) (end j))
end_parts [] ks k n f h o = absurd (o refl)
end_parts (elements_of [] ∷ ls) ks k n f h o = (array, elements_of [], ls, refl, h.1, refl, f, expected_after ls)
end_parts (elements_of (t ∷ ts) ∷ ls) ks k n f h o = absurd (cc)
end_parts (members_of [] ∷ ls) ks k n f h o = (object, members_of [], ls, refl, h.1, refl, f, expected_after ls)
end_parts (members_of (p ∷ ps) ∷ ls) ks k n f h o = let e = h.0 in absurd (cc)

-- the state a, in which the innermost container has no more, is left as the code does, from what `member` made of it
pub end_taken : (a b : ValueState) (ks : List Left) (k : TokenKind) → a.next ≡ None → NoElement a.levels → FrontIs a.levels k → PullsMember a.levels None ks → state_in_levels a.levels a.next ≢ state_in []
    → ((l : Left) (ls : List Left) → ks ≡ l ∷ ls → b ≡ record a { next = None; levels = ls; peeked = false })
    → (j : Kind) × (k ≡ kind_of (end j)) × TakesTokensTo a b (end j ∷ []) (after_token (state_in_levels a.levels a.next) (end j))
end_taken a b ks k n r f h o x =
    let (j, l, c, e, g, i, m, s) = end_parts a.levels ks k r f h (λ q. o (ap (state_in_levels a.levels) n ∙ q)) in
    let y : b ≡ record a { next = None; levels = c; peeked = false } = x l c g in (
      j,
      m,
      record {
        tree = ap (λ (z : ValueState). z.tree) y;
        rest = ap (λ (q : Option Tree). next_tokens q ++ open_tokens a.levels) n ∙ i ∙ ap (λ (z : ValueState). end j ∷ rest_of_tokens z) (sym y);
        expected = ap (λ (z : ValueState). state_in_levels z.levels z.next) y ∙ s ∙ ap (λ (q : Option Tree). after_token (state_in_levels a.levels q) (end j)) (sym n);
        peeked = ap (λ (z : ValueState). z.peeked) y;
        failed = ap (λ (z : ValueState). z.failed) y;
      },
    )

pub array_end : (j : Kind) (k : TokenKind) → k ≡ kind_of (end j) → k ≢ kind.EndObject → j ≡ array
array_end array k e n = refl
array_end object k e n = absurd (n e)

pub object_end : (j : Kind) (k : TokenKind) → k ≡ kind_of (end j) → k ≡ kind.EndObject → j ≡ object
object_end array k e f = absurd (cc)
object_end object k e f = refl

pub no_object_end : (k : TokenKind) (r : Bool) → r ≡ sameb the_type k kind.EndObject → r ≡ false → k ≢ kind.EndObject
no_object_end k r e t = search rules

-- ---- what a container has left

open_is : (ls : List Left) (o : Option Tree) → IsOpen (state_in_levels ls o) → (l : Left) × (c : List Left) × (ls ≡ l ∷ c)
open_is [] None h = absurd h
open_is [] (Some t) h = absurd h
open_is (l ∷ c) o h = (l, c, refl)

rest_is : (l : Left) (ls : List Left) (o : Option Tree) → RestOfContainer (state_in_levels (l ∷ ls) o) (next_tokens o ++ left_tokens l)
rest_is (elements_of ts) ls None = (list_trees ts, refl)
rest_is (elements_of ts) ls (Some t) = (tree_and t (list_trees ts), sym (append_assoc (tokens t) (trees_tokens (list_trees ts)) (end array ∷ [])))
rest_is (members_of ps) ls None = (list_pairs ps, refl)
rest_is (members_of ps) ls (Some t) = (t, list_pairs ps, sym (append_assoc (tokens t) (pairs_tokens (list_pairs ps)) (end object ∷ [])))

-- it has a first token
more_after : (t : Tree) (xs ys : List Tok) → ys ≡ tokens t ++ xs → (x : Tok) × (zs : List Tok) × (ys ≡ x ∷ zs)
more_after t xs ys e = let f = first_of t in (f.0, f.1 ++ xs, e ∙ ap (λ (zs : List Tok). zs ++ xs) f.2)

rest_first : (l : Left) (o : Option Tree) → (x : Tok) × (xs : List Tok) × (next_tokens o ++ left_tokens l ≡ x ∷ xs)
rest_first l (Some t) = more_after t (left_tokens l) _ refl
rest_first (elements_of []) None = (end array, [], refl)
rest_first (elements_of (t ∷ ts)) None = more_after t _ _ (append_assoc (tokens t) _ _)
rest_first (members_of []) None = (end object, [], refl)
rest_first (members_of (p ∷ ps)) None = (key_token p.0, _, refl)

first_is : (xs zs : List Tok) (x : Tok) (k : TokenKind) → xs ≡ x ∷ zs → kind_of x ≡ k → FirstIs xs k
first_is xs zs x k e f = subst (λ (ys : List Tok). FirstIs ys k) (sym e) f

leaving : (a b : ValueTokens) (l : Left) (ls : List Left) → (value_state a).levels ≡ l ∷ ls → value_state b ≡ record (value_state a) { next = None; levels = ls; peeked = false }
    → TakesTokensTo (value_state a) (value_state b) (next_tokens (value_state a).next ++ left_tokens l) (around (value_tokens_state a).expected)
leaving a b l ls e y =
    let s = value_state a in
    subst (λ (z : ValueState). TakesTokensTo s z (next_tokens s.next ++ left_tokens l) (around (state_in_levels s.levels s.next))) (sym y)
    (record {
      tree = refl;
      rest = ap (λ (c : List Left). next_tokens s.next ++ open_tokens c) e ∙ sym (append_assoc (next_tokens s.next) (left_tokens l) (open_tokens ls));
      expected = expected_around l ls s.next ∙ ap (λ (c : List Left). around (state_in_levels c s.next)) (sym e);
      peeked = refl;
      failed = refl;
    })

pub leaves : (a b : ValueTokens) → IsOpen (value_tokens_state a).expected
    → ((l : Left) (ls : List Left) → (value_state a).levels ≡ l ∷ ls → value_state b ≡ record (value_state a) { next = None; levels = ls; peeked = false })
    → Leaves value_taken value_tokens_state a b
leaves a b h x =
    let s = value_state a in
    let p = open_is s.levels s.next h in
    let q = leaving a b p.0 p.1 p.2 (x p.0 p.1 p.2) in
    let f = rest_first p.0 s.next in
    let e : rest_of_tokens s ≡ f.0 ∷ (f.1 ++ rest_of_tokens (value_state b)) = q.rest ∙ ap (λ (xs : List Tok). xs ++ rest_of_tokens (value_state b)) f.2 in
    record {
      rest = next_tokens s.next ++ left_tokens p.0;
      is_rest = subst (λ (c : List Left). RestOfContainer (state_in_levels c s.next) (next_tokens s.next ++ left_tokens p.0)) (sym p.2) (rest_is p.0 p.1 s.next);
      as_peeked = λ k t. first_is _ f.1 f.0 k f.2 (peeked_head s.peeked (head_kind (rest_of_tokens s)) k (kind_of f.0) (ap head_kind e) t);
      takes = record { on = taken_on s (value_state b) (next_tokens s.next ++ left_tokens p.0) q.tree q.rest };
      moves = moves f.0 f.1 (subst (λ (xs : List Tok). TakesTokensTo s (value_state b) xs (around (state_in_levels s.levels s.next))) f.2 q);
    }

-- ---- where a value is wanted, it is next

wanted : (ls : List Left) (o : Option Tree) (b : Bool) → WantsValueAt (state_in_levels ls o) (if b then head_kind (next_tokens o ++ open_tokens ls) else None) → (o ≡ None → NoElement ls) → (t : Tree) × (o ≡ Some t)
wanted ls (Some t) b h r = (t, refl)
wanted [] None b h r = absurd h
wanted (elements_of [] ∷ ls) None true h r = absurd (cc)
wanted (elements_of [] ∷ ls) None false h r = absurd h
wanted (elements_of (t ∷ ts) ∷ ls) None b h r = let e = r refl in absurd (cc)
wanted (members_of ps ∷ ls) None b h r = absurd h

wants_next : (a m : ValueState) → SettlesNext a m → WantsValue (tokens_state_of a) → (t : Tree) × (m.next ≡ Some t)
wants_next a m s h =
    wanted m.levels m.next a.peeked
    (subst (λ (p : TokenState). WantsValueAt p (if a.peeked then head_kind (rest_of_tokens m) else None)) (sym s.expected)
    (subst (λ (xs : List Tok). WantsValueAt (state_in_levels a.levels a.next) (if a.peeked then head_kind xs else None)) (sym s.rest) h))
    s.reached

-- the next value is taken, whole
pub passes : (a b : ValueTokens) (m : ValueState) (t : Tree) → SettlesNext (value_state a) m → m.next ≡ Some t → value_state b ≡ record m { next = None; peeked = false } → TakesTree value_taken value_tokens_state a b t
passes a b m t s n e =
    tree_taken a b t
    (settled s (subst (λ (z : ValueState). TakesTokensTo m z (tokens t) (state_after_value (state_in_levels m.levels m.next))) (sym e) (value_passed m t n))
    (ap (λ (p : TokenState). state_after_value p) s.expected))

pub skips : (a b : ValueTokens) (m : ValueState) → SettlesNext (value_state a) m → WantsValue (value_tokens_state a) → value_state b ≡ record m { next = None; peeked = false } → (t : Tree) × TakesTree value_taken value_tokens_state a b t
skips a b m s h e = let w = wants_next (value_state a) m s h in (w.0, passes a b m w.0 s w.1 e)

-- where a value is wanted, one is next
pub not_none : (a m : ValueState) → SettlesNext a m → WantsValue (tokens_state_of a) → m.next ≡ None → ⊥
not_none a m s h n = let w = wants_next a m s h in let e : Some w.0 ≡ None = sym w.1 ∙ n in cc
