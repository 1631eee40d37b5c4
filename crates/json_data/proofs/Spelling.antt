-- What is read of a value, element by element.
use Rattle.std.proofs.Common.{◌≡◌, ◌≢◌, ◌∙◌, inl, inr, ℕ, List, [], ◌∷◌, ◌++◌, length, drop, Bool, true, false, cond, Option, Some, None, option_map, option_and_then, slice_get, bytes_eq, codes, refl, sym, subst, ap, ap₂, arith, append_assoc, append-nil}
use Rattle.std.proofs.lemmas.Bool.{false_from_ne_true}
use Rattle.std.proofs.lemmas.Slice.Eq.{bytes_eq-Decides}
use Rattle.json_grammar.specs.Tree.{Tree, null, boolean, num, text, list, pairs, Trees, no_trees, tree_and, trees_list}
use Rattle.json_io.specs.declared.error.Error.{Error}
use Rattle.json_doc.specs.Readings.{string_of}
use Rattle.json_value.specs.EditTrees.{both, each_in, step_in, path_in, edit_named, edit_in}
use Rattle.json_value.specs.Seen.{list_of}
use Rattle.json_data.specs.Spelled.{Unspelled}

none_some : {A : Type 0} {x : A} → None ≡ Some x → ⊥
none_some e = cc

-- what is not read of a part is not read of the whole
pub unread : {A B : Type 0} (o : Option A) (p : Option B) (e : Error) → (o ≡ None → p ≡ None) → Unspelled o e → Unspelled p e
unread o p e h (inl m) = inl m
unread o p e h (inr (b, n)) = inr (b, h n)

-- ---- one element after another

-- what the trees before the rest give is got, and the rest has to give something too
pub record Taken {A : Type 0} (f : Tree → Option A) (xs rest : List Tree) (got : List A) : Type 0 where
  pub whole : each_in f xs ≡ option_map (λ r. got ++ r) (each_in f rest)

itself : {A : Type 0} (o : Option (List A)) → o ≡ option_map (λ r. [] ++ r) o
itself None = refl
itself (Some r) = refl

pub taken_none : {A : Type 0} (f : Tree → Option A) (xs rest : List Tree) (got : List A) → rest ≡ xs → got ≡ [] → Taken f xs rest got
taken_none f xs rest got e n = record { whole = itself (each_in f xs) ∙ ap₂ (λ ys g. option_map (λ r. g ++ r) (each_in f ys)) (sym e) (sym n) }

pub taken_all : {A : Type 0} (f : Tree → Option A) (xs rest : List Tree) (got : List A) → Taken f xs rest got → rest ≡ [] → each_in f xs ≡ Some got
taken_all f xs rest got h e = h.whole ∙ ap (λ ys. option_map (λ r. got ++ r) (each_in f ys)) e ∙ ap Some (append-nil got)

after : {A : Type 0} (got : List A) (x : A) (o : Option (List A)) → option_map (λ r. got ++ r) (both (λ x xs. x ∷ xs) (Some x) o) ≡ option_map (λ r. (got ++ x ∷ []) ++ r) o
after got x None = refl
after got x (Some r) = ap Some (sym (append_assoc got (x ∷ []) r))

pub taken_next : {A : Type 0} (f : Tree → Option A) (xs more rest : List Tree) (got got' : List A) (t : Tree) (x : A) → Taken f xs more got → more ≡ t ∷ rest → f t ≡ Some x → got' ≡ got ++ x ∷ [] → Taken f xs rest got'
taken_next f xs more rest got got' t x h e k g =
    subst (Taken f xs rest) (sym g)
    (record {
      whole = h.whole ∙ ap (λ ys. option_map (λ r. got ++ r) (each_in f ys)) e ∙ ap (λ o. option_map (λ r. got ++ r) (both (λ x xs. x ∷ xs) o (each_in f rest))) k ∙ after got x (each_in f rest);
    })

both_none : {A B C : Type 0} (f : A → B → C) (o : Option B) → both f None o ≡ None
both_none f None = refl
both_none f (Some b) = refl

pub taken_stops : {A : Type 0} (f : Tree → Option A) (xs more rest : List Tree) (got : List A) (t : Tree) → Taken f xs more got → more ≡ t ∷ rest → f t ≡ None → each_in f xs ≡ None
taken_stops f xs more rest got t h e k =
    h.whole ∙ ap (λ ys. option_map (λ r. got ++ r) (each_in f ys)) e ∙ ap (λ o. option_map (λ r. got ++ r) (both (λ x xs. x ∷ xs) o (each_in f rest))) k
    ∙ ap (option_map (λ r. got ++ r)) (both_none (λ x xs. x ∷ xs) (each_in f rest))

-- ---- arrays

pub path_of_array : (t : Tree) (xs : List Tree) → Some xs ≡ list_of t → path_in t ≡ each_in step_in xs
path_of_array (list ts) xs e = let i : xs ≡ trees_list ts = cc in ap (each_in step_in) (sym i)
path_of_array null xs e = absurd (none_some (sym e))
path_of_array (boolean b) xs e = absurd (none_some (sym e))
path_of_array (num l) xs e = absurd (none_some (sym e))
path_of_array (text s) xs e = absurd (none_some (sym e))
path_of_array (pairs ps) xs e = absurd (none_some (sym e))

-- ---- the elements after the first

pub two_of : (xs : List Tree) (a b : Tree) → length xs ≡ 3 → Some a ≡ slice_get xs 1 → Some b ≡ slice_get xs 2 → drop 1 xs ≡ a ∷ b ∷ []
two_of [] a b n e f = absurd (omega arith)
two_of (x ∷ []) a b n e f = absurd (omega arith)
two_of (x ∷ y ∷ []) a b n e f = absurd (omega arith)
two_of (x ∷ y ∷ z ∷ []) a b n e f = cc
two_of (x ∷ y ∷ z ∷ w ∷ xs) a b n e f = absurd (omega arith)

pub three_of : (xs : List Tree) (a b d : Tree) → length xs ≡ 4 → Some a ≡ slice_get xs 1 → Some b ≡ slice_get xs 2 → Some d ≡ slice_get xs 3 → drop 1 xs ≡ a ∷ b ∷ d ∷ []
three_of [] a b d n e f g = absurd (omega arith)
three_of (x ∷ []) a b d n e f g = absurd (omega arith)
three_of (x ∷ y ∷ []) a b d n e f g = absurd (omega arith)
three_of (x ∷ y ∷ z ∷ []) a b d n e f g = absurd (omega arith)
three_of (x ∷ y ∷ z ∷ w ∷ []) a b d n e f g = cc
three_of (x ∷ y ∷ z ∷ w ∷ v ∷ xs) a b d n e f g = absurd (omega arith)

-- ---- the name of an edit

pub edit_by_name : (t : Tree) (xs : List Tree) (name form : List ℕ) → Some xs ≡ list_of t → Some name ≡ option_and_then string_of (slice_get xs 0) → name ≡ form → edit_in t ≡ edit_named form (drop 1 xs)
edit_by_name (list ts) xs name form e h f = by ts (let i : xs ≡ trees_list ts = cc in i)
  where
    by : (ts : Trees) → xs ≡ trees_list ts → edit_in (list ts) ≡ edit_named form (drop 1 xs)
    by no_trees i = absurd (none_some (sym (h ∙ ap (λ ys. option_and_then string_of (slice_get ys 0)) i)))
    by (tree_and t us) i = first t (h ∙ ap (λ ys. option_and_then string_of (slice_get ys 0)) i)
      where
        first : (t : Tree) → Some name ≡ string_of t → edit_in (list (tree_and t us)) ≡ edit_named form (drop 1 xs)
        first (text n) g = let j : n ≡ form = cc in ap (λ n. edit_named n (trees_list us)) j ∙ ap (λ ys. edit_named form (drop 1 ys)) (sym i)
        first null g = absurd (none_some (sym g))
        first (boolean b) g = absurd (none_some (sym g))
        first (num l) g = absurd (none_some (sym g))
        first (list ks) g = absurd (none_some (sym g))
        first (pairs ps) g = absurd (none_some (sym g))
edit_by_name null xs name form e h f = absurd (none_some (sym e))
edit_by_name (boolean b) xs name form e h f = absurd (none_some (sym e))
edit_by_name (num l) xs name form e h f = absurd (none_some (sym e))
edit_by_name (text s) xs name form e h f = absurd (none_some (sym e))
edit_by_name (pairs ps) xs name form e h f = absurd (none_some (sym e))

-- ---- another name

first_false : {A : Type 0} (b : Bool) (x y z : A) → b ≡ false → y ≡ z → cond b x y ≡ z
first_false false x y z e f = f
first_false true x y z e f = cc

other : (a b : List ℕ) → a ≢ b → bytes_eq a b ≡ false
other a b n = false_from_ne_true (bytes_eq a b) (λ e. n ((bytes_eq-Decides a b).0 e))

-- no edit has another name
pub edit_unknown : (name : List ℕ) (xs : List Tree) → name ≢ codes "set" → name ≢ codes "insert" → name ≢ codes "push" → name ≢ codes "remove" → edit_named name xs ≡ None
edit_unknown name [] s i p r = refl
edit_unknown name (q ∷ []) s i p r = refl
edit_unknown name (q ∷ u ∷ []) s i p r = first_false _ _ _ _ (other name (codes "set") s) (first_false _ _ _ _ (other name (codes "push") p) (first_false _ _ _ _ (other name (codes "remove") r) refl))
edit_unknown name (q ∷ k ∷ u ∷ []) s i p r = first_false _ _ _ _ (other name (codes "insert") i) refl
edit_unknown name (q ∷ k ∷ u ∷ t ∷ ts) s i p r = refl
