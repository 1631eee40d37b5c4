-- Trees as data, and what is given of them.
use Rattle.std.proofs.Common.{◌≡◌, ℕ, zero, suc, ◌+◌, ◌≤◌, ◌<◌, ℤ, length, take, drop, slice_get, add-one, arith, List, [], ◌∷◌, ◌++◌, true, Option, Some, None, Ok, Err, Result, refl, sym, ap, ap₂, subst, ◌∙◌}
use Rattle.json_grammar.specs.declared.Kind.TheVariants.{Array as array, Object as object}
use Rattle.json_grammar.specs.Grammar.{number}
use Rattle.json_grammar.specs.Proper.{IsProper, AreProper, ArePairsProper}
use Rattle.json_grammar.specs.Tree.{Tree, null, boolean, num, text, list, pairs, Trees, no_trees, tree_and, Pairs, no_pairs, pair_and, begin, end, key_token}
use Rattle.json_io.specs.declared.error.Error.{Error}
use Rattle.json_number.specs.Integers.{integer_in}
use Rattle.json_number.proofs.Integers.{prints_its_literal}
use Rattle.json_print.specs.Data.{parts, data_parts, rows_parts, before_gap, keys_have_texts}
use Rattle.json_print.specs.Given.{TokenOrInteger, given}
use Rattle.json_print.specs.Taking.{after_all}
use Rattle.json_doc_print.specs.Emitting.{Emits, number_given, tree_given, trees_given, pairs_given}
use Rattle.json_write.specs.TreeDatum.{number_datum, tree_datum, tree_list_data, tree_member_rows}
use Rattle.json_write.specs.Writing.{WritesDatumTokens, AreTokensProper}

-- as parts, of which none is missing
somes : List TokenOrInteger → List (Option TokenOrInteger)
somes [] = []
somes (g ∷ gs) = Some g ∷ somes gs

somes_append : (a b : List TokenOrInteger) → somes (a ++ b) ≡ somes a ++ somes b
unfolding somes
somes_append [] b = refl
somes_append (g ∷ a) b = ap (λ ps. Some g ∷ ps) (somes_append a b)

before_somes : (gs : List TokenOrInteger) → before_gap (somes gs) ≡ gs
unfolding somes
before_somes [] = refl
before_somes (g ∷ gs) = ap (λ z. g ∷ z) (before_somes gs)

whole_somes : (gs : List TokenOrInteger) → keys_have_texts (somes gs) ≡ true
unfolding somes
whole_somes [] = refl
whole_somes (g ∷ gs) = whole_somes gs

number_parts : (o : Option ℤ) (l : List ℕ) → parts (number_datum o l) ≡ Some (number_given o l) ∷ []
number_parts None l = refl
number_parts (Some n) l = refl

mutual
  unfolding somes

  -- the parts of a tree are what is given of it
  tree_parts : (t : Tree) → parts (tree_datum t) ≡ somes (tree_given t)
  tree_parts null = refl
  tree_parts (boolean b) = refl
  tree_parts (num l) = number_parts (integer_in l) l
  tree_parts (text s) = refl
  tree_parts (list ts) = ap (λ ps. Some (given (begin array)) ∷ (ps ++ Some (given (end array)) ∷ [])) (trees_parts ts) ∙ ap (λ ps. Some (given (begin array)) ∷ ps) (sym (somes_append (trees_given ts) (given (end array) ∷ [])))
  tree_parts (pairs ps) = ap (λ qs. Some (given (begin object)) ∷ (qs ++ Some (given (end object)) ∷ [])) (pairs_parts ps) ∙ ap (λ qs. Some (given (begin object)) ∷ qs) (sym (somes_append (pairs_given ps) (given (end object) ∷ [])))

  trees_parts : (ts : Trees) → data_parts (tree_list_data ts) ≡ somes (trees_given ts)
  trees_parts no_trees = refl
  trees_parts (tree_and t ts) = ap₂ (λ a b. a ++ b) (tree_parts t) (trees_parts ts) ∙ sym (somes_append (tree_given t) (trees_given ts))

  pairs_parts : (ps : Pairs) → rows_parts (tree_member_rows ps) ≡ somes (pairs_given ps)
  pairs_parts no_pairs = refl
  pairs_parts (pair_and k t ps) = ap (λ qs. Some (given (key_token k)) ∷ qs) (ap₂ (λ a b. a ++ b) (tree_parts t) (pairs_parts ps) ∙ sym (somes_append (tree_given t) (pairs_given ps)))

proper_append : (a b : List TokenOrInteger) → AreTokensProper a → AreTokensProper b → AreTokensProper (a ++ b)
proper_append [] b h k = k
proper_append (g ∷ a) b h k = (h.0, proper_append a b h.1 k)

number_proper : (o : Option ℤ) (l : List ℕ) → integer_in l ≡ o → number l → AreTokensProper (number_given o l ∷ [])
number_proper None l e h = (h, tt)
number_proper (Some n) l e h = (subst number (sym (prints_its_literal l n h e)) h, tt)

mutual
  -- what is given of a proper tree is proper
  given_proper : (t : Tree) → IsProper t → AreTokensProper (tree_given t)
  given_proper null h = (tt, tt)
  given_proper (boolean b) h = (tt, tt)
  given_proper (num l) h = number_proper (integer_in l) l refl h
  given_proper (text s) h = (h, tt)
  given_proper (list ts) h = (tt, proper_append (trees_given ts) (given (end array) ∷ []) (trees_given_proper ts h) (tt, tt))
  given_proper (pairs ps) h = (tt, proper_append (pairs_given ps) (given (end object) ∷ []) (pairs_given_proper ps h) (tt, tt))

  trees_given_proper : (ts : Trees) → AreProper ts → AreTokensProper (trees_given ts)
  trees_given_proper no_trees h = tt
  trees_given_proper (tree_and t ts) h = proper_append (tree_given t) (trees_given ts) (given_proper t h.0) (trees_given_proper ts h.1)

  pairs_given_proper : (ps : Pairs) → ArePairsProper ps → AreTokensProper (pairs_given ps)
  pairs_given_proper no_pairs h = tt
  pairs_given_proper (pair_and k t ps) h = (h.0, proper_append (tree_given t) (pairs_given ps) (given_proper t h.1) (pairs_given_proper ps h.2))

emitted : {S : Type 0} {after : S → TokenOrInteger → S} {stopped : S → TokenOrInteger → S → Error → Type 0} {old new : S} {err err' : Option Error} {gs : List TokenOrInteger} {r : Result (Unit {0}) Error}
    → AreTokensProper gs → Emits after stopped old new err err' gs r → WritesDatumTokens after stopped old new err err' (somes gs) r
emitted {after = after} {old = old} {gs = gs} {r = Ok u} p h =
    rw h.fresh (record {
      given = λ _. h.all ∙ ap (after_all after old) (sym (before_somes gs));
      answer = λ _. rw (whole_somes gs) refl;
      proper = λ _. subst AreTokensProper (sym (before_somes gs)) p;
      again = tt;
      stops = λ _. tt;
      kept = h.again;
    })
emitted {gs = gs} {r = Err e} p h =
    rw h.failed (record {
      given = λ n. absurd (cc);
      answer = λ n. absurd (cc);
      proper = λ n. absurd (cc);
      again = refl;
      stops = λ n. let s = h.stops n in record { front = s.front; at = s.at; back = s.back; whole = before_somes gs ∙ s.whole; left = s.left };
      kept = h.again;
    })

-- a tree is written
pub tree_written : {S : Type 0} {after : S → TokenOrInteger → S} {stopped : S → TokenOrInteger → S → Error → Type 0} {old new : S} {err err' : Option Error} {r : Result (Unit {0}) Error} (t : Tree)
    → IsProper t → Emits after stopped old new err err' (tree_given t) r → WritesDatumTokens after stopped old new err err' (parts (tree_datum t)) r
tree_written {after = after} {stopped = stopped} {old = old} {new = new} {err = err} {err' = err'} {r = r} t p h = subst (λ ps. WritesDatumTokens after stopped old new err err' ps r) (sym (tree_parts t)) (emitted (given_proper t p) h)

-- ---- by index

pub split_there : {T : Type 0} (xs : List T) (i : ℕ) (x : T) → Some x ≡ slice_get xs i → xs ≡ take i xs ++ x ∷ drop (suc i) xs
split_there [] i x e = absurd (cc)
split_there (y ∷ ys) zero x e = let s : x ≡ y = cc in ap (λ z. z ∷ ys) (sym s)
split_there (y ∷ ys) (suc i) x e = ap (λ zs. y ∷ zs) (split_there ys i x e)

take_next : {T : Type 0} (xs : List T) (i : ℕ) (x : T) → Some x ≡ slice_get xs i → take i xs ++ x ∷ [] ≡ take (suc i) xs
take_next [] i x e = absurd (cc)
take_next (y ∷ ys) zero x e = let s : x ≡ y = cc in ap (λ z. z ∷ []) s
take_next (y ∷ ys) (suc i) x e = ap (λ zs. y ∷ zs) (take_next ys i x e)

pub take_there : {T : Type 0} (xs : List T) (i : ℕ) (x : T) → Some x ≡ slice_get xs i → take i xs ++ x ∷ [] ≡ take (i + 1) xs
take_there xs i x e = take_next xs i x e ∙ ap (λ n. take n xs) (sym (add-one i))

drop_next : {T : Type 0} (xs : List T) (i : ℕ) (x : T) → Some x ≡ slice_get xs i → drop i xs ≡ x ∷ drop (suc i) xs
drop_next [] i x e = absurd (cc)
drop_next (y ∷ ys) zero x e = let s : x ≡ y = cc in ap (λ z. z ∷ ys) (sym s)
drop_next (y ∷ ys) (suc i) x e = drop_next ys i x e

pub drop_there : {T : Type 0} (xs : List T) (i : ℕ) (x : T) → Some x ≡ slice_get xs i → drop i xs ≡ x ∷ drop (i + 1) xs
drop_there xs i x e = drop_next xs i x e ∙ ap (λ n. x ∷ drop n xs) (sym (add-one i))

pub drop_all : {T : Type 0} (xs : List T) (i : ℕ) → length xs ≤ i → drop i xs ≡ []
drop_all [] zero l = refl
drop_all [] (suc i) l = refl
drop_all (y ∷ ys) zero l = absurd (omega arith)
drop_all (y ∷ ys) (suc i) l = drop_all ys i (omega arith)

pub none_there : {T : Type 0} (xs : List T) (i : ℕ) → None ≡ slice_get xs i → i < length xs → ⊥
none_there [] i e l = omega arith
none_there (y ∷ ys) zero e l = cc
none_there (y ∷ ys) (suc i) e l = none_there ys i e (omega arith)
