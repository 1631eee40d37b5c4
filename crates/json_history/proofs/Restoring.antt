-- What an undo makes of lists, of values and of trees.
use Rattle.std.proofs.Common.{◌≡◌, ℕ, zero, suc, ◌-◌, ◌≤◌, List, [], ◌∷◌, length, map, take, Some, Ok, Err, IsOk, refl, sym, ap, ◌∙◌, subst, arith}
use Rattle.std.specs.Prelude.{insert}
use Rattle.std.proofs.lemmas.List.{take-map, length-map}
use Rattle.json_grammar.specs.Tree.{Tree, list, pairs, tree_and, pair_and, list_trees, list_pairs}
use Rattle.json_model.specs.Edit.{Step, set_at, edited_once, at_path, Changed, EditRefusal, not_found, type_unmatched, within, on_list, on_pairs, and_then}
use Rattle.json_io.specs.Errors.{no_memory}
use Rattle.json_io.specs.declared.error.Error.{Error}
use Rattle.json_io.specs.declared.error.ErrorCode.{ErrorCode}
use Rattle.json_io.specs.declared.error.ErrorCode.TheVariants.{NoMemory, NotFound, TypeUnmatched}
use Rattle.json_io.specs.declared.error.Place.{Place}
use Rattle.json_io.specs.declared.error.Place.TheVariants.{None as nowhere}
use Rattle.json_value.specs.Edits.{RefusesChange}
use Rattle.json_value.specs.Steps.{tree_at}
use Rattle.json_value.specs.Denotes.{tree_of, list_in, pairs_in, pair_of}
use Rattle.json_value.specs.declared.container.Container.{Container}
use Rattle.json_value.specs.declared.pair.Keyed.{Keyed}
use Rattle.json_value.specs.declared.value.Value.{Value, Array, Object}
use Rattle.json_value.proofs.ValueLevels.{array_tree, object_tree}
use Rattle.json_history.specs.Change.{undone, without_last, without_last_element, without_last_member, insert_element_at, insert_member_at, insert_members, RemovedMembers}
use Rattle.json_history.specs.ChangeTrees.{removed_member, tree_change_of, change_path}
use Rattle.json_history.specs.declared.change.Change.{Change}
use Rattle.json_history.specs.declared.change.Change.TheVariants.{Put, DropLast, PutBack, PutPairs}
use Rattle.json_history.proofs.LookupViews.{lookup_some}
use Rattle.json_history.proofs.LookupChanges.{replaced, replaced_same, at_path_lookup}
use Rattle.json_history.proofs.ChangedResults.{ok_injective}
use Rattle.json_history.specs.Target.{all_but_last, undone_in}

pub map_insert : {A B : Type 0} (f : A → B) (xs : List A) (i : ℕ) (x : A) → map f (insert xs i x) ≡ insert (map f xs) i (f x)
map_insert f [] zero x = refl
map_insert f [] (suc i) x = refl
map_insert f (y ∷ ys) zero x = refl
map_insert f (y ∷ ys) (suc i) x = ap (λ zs. f y ∷ zs) (map_insert f ys i x)

pub map_all_but_last : {A B : Type 0} (f : A → B) (xs : List A) (n : ℕ) → n ≡ length xs → map f (take (n - 1) xs) ≡ all_but_last (map f xs)
map_all_but_last f xs n e = sym (ap (λ m. take (m - 1) (map f xs)) (length-map xs f ∙ sym e) ∙ take-map f (n - 1) xs)

-- ---- results that are Ok

err_not_is_ok : {A : Type 0} (r : Changed A) (e : EditRefusal) → r ≡ Err e → IsOk r → ⊥
err_not_is_ok (Ok x) e h i = cc
err_not_is_ok (Err d) e h i = cc

pub within_is_ok : {A B : Type 0} (f : A → B) (r : Changed A) → IsOk (within f r) → IsOk r
within_is_ok f (Ok x) h = refl
within_is_ok f (Err e) h = absurd (cc)

-- ---- all but the last

suc_minus_one : (n : ℕ) → suc (suc n) - 1 ≡ suc (suc n - 1)
suc_minus_one n = omega arith

cons_all_but_last : {A : Type 0} (x y : A) (xs : List A) → x ∷ all_but_last (y ∷ xs) ≡ all_but_last (x ∷ y ∷ xs)
cons_all_but_last x y xs = sym (ap (λ m. take m (x ∷ y ∷ xs)) (suc_minus_one (length xs)))

without_last_element_listed : (t : Tree) (ts : List Tree) → without_last_element (list_trees (t ∷ ts)) ≡ Ok (list_trees (all_but_last (t ∷ ts)))
without_last_element_listed t [] = refl
without_last_element_listed t (u ∷ us) = ap (within (λ r. tree_and t r)) (without_last_element_listed u us) ∙ ap (λ rs. Ok (list_trees rs)) (cons_all_but_last t u us)

without_last_member_listed : (p : List ℕ × Tree) (ps : List (List ℕ × Tree)) → without_last_member (list_pairs (p ∷ ps)) ≡ Ok (list_pairs (all_but_last (p ∷ ps)))
without_last_member_listed p [] = refl
without_last_member_listed p (q ∷ qs) = ap (within (λ r. pair_and p.0 p.1 r)) (without_last_member_listed q qs) ∙ ap (λ rs. Ok (list_pairs rs)) (cons_all_but_last p q qs)

without_last_list : (ts : List Tree) → IsOk (without_last (list (list_trees ts))) → without_last (list (list_trees ts)) ≡ Ok (list (list_trees (all_but_last ts)))
without_last_list [] h = absurd (cc)
without_last_list (t ∷ ts) h = ap (within list) (without_last_element_listed t ts)

without_last_pairs : (ps : List (List ℕ × Tree)) → IsOk (without_last (pairs (list_pairs ps))) → without_last (pairs (list_pairs ps)) ≡ Ok (pairs (list_pairs (all_but_last ps)))
without_last_pairs [] h = absurd (cc)
without_last_pairs (p ∷ ps) h = ap (within pairs) (without_last_member_listed p ps)

-- ---- an array

module _ (v : Value) (a b : Container Value) (is : v ≡ Array a) where
  old_array_tree : tree_of v ≡ list (list_trees (list_in a))
  old_array_tree = ap tree_of is ∙ array_tree a

  array_result : (ts : List Tree) → list_in b ≡ ts → ◌≡◌ {A = Changed Tree} (Ok (list (list_trees ts))) (Ok (tree_of (Array b)))
  array_result ts e = sym (ap (λ us. Ok (list (list_trees us))) e) ∙ ap (λ (t : Tree). Ok t) (sym (array_tree b))

  pub array_shortened : IsOk (without_last (tree_of v)) → list_in b ≡ all_but_last (list_in a) → without_last (tree_of v) ≡ Ok (tree_of (Array b))
  array_shortened h e =
      ap without_last old_array_tree
      ∙ without_last_list (list_in a) (subst (λ (t : Tree). IsOk (without_last t)) old_array_tree h)
      ∙ array_result (all_but_last (list_in a)) e

-- ---- an object

module _ (v : Value) (a b : Container (Keyed Value)) (is : v ≡ Object a) where
  old_object_tree : tree_of v ≡ pairs (list_pairs (pairs_in a))
  old_object_tree = ap tree_of is ∙ object_tree a

  object_result : (ps : List (List ℕ × Tree)) → pairs_in b ≡ ps → ◌≡◌ {A = Changed Tree} (Ok (pairs (list_pairs ps))) (Ok (tree_of (Object b)))
  object_result ps e = sym (ap (λ qs. Ok (pairs (list_pairs qs))) e) ∙ ap (λ (t : Tree). Ok t) (sym (object_tree b))

  pub object_kept : pairs_in b ≡ pairs_in a → tree_of (Object b) ≡ tree_of v
  object_kept e = object_tree b ∙ ap (λ qs. pairs (list_pairs qs)) e ∙ sym old_object_tree

  pub object_shortened : IsOk (without_last (tree_of v)) → pairs_in b ≡ all_but_last (pairs_in a) → without_last (tree_of v) ≡ Ok (tree_of (Object b))
  object_shortened h e =
      ap without_last old_object_tree
      ∙ without_last_pairs (pairs_in a) (subst (λ (t : Tree). IsOk (without_last t)) old_object_tree h)
      ∙ object_result (all_but_last (pairs_in a)) e

  pub object_members_in_range : (es : RemovedMembers) → IsOk (on_pairs (insert_members es) (tree_of v)) → IsOk (insert_members es (list_pairs (pairs_in a)))
  object_members_in_range es h = within_is_ok pairs (insert_members es (list_pairs (pairs_in a))) (subst (λ (t : Tree). IsOk (on_pairs (insert_members es) t)) old_object_tree h)

  pub object_members_inserted : (es : RemovedMembers) → insert_members es (list_pairs (pairs_in a)) ≡ Ok (list_pairs (pairs_in b)) → on_pairs (insert_members es) (tree_of v) ≡ Ok (tree_of (Object b))
  object_members_inserted es e = ap (on_pairs (insert_members es)) old_object_tree ∙ ap (within pairs) e ∙ ap (λ (t : Tree). Ok t) (sym (object_tree b))

-- ---- one element

insert_element_in_range : (i : ℕ) (u : Tree) (ts : List Tree) → IsOk (insert_element_at i u (list_trees ts)) → i ≤ length ts
insert_element_in_range zero u ts h = omega arith
insert_element_in_range (suc i) u [] h = absurd (cc)
insert_element_in_range (suc i) u (t ∷ ts) h = let l : i ≤ length ts = insert_element_in_range i u ts (within_is_ok (λ us. tree_and t us) (insert_element_at i u (list_trees ts)) h) in omega arith

insert_element_listed : (i : ℕ) (u : Tree) (ts : List Tree) → i ≤ length ts → insert_element_at i u (list_trees ts) ≡ Ok (list_trees (insert ts i u))
insert_element_listed zero u [] l = refl
insert_element_listed zero u (t ∷ ts) l = refl
insert_element_listed (suc i) u [] l = absurd (omega arith)
insert_element_listed (suc i) u (t ∷ ts) l = ap (within (λ us. tree_and t us)) (insert_element_listed i u ts (omega arith))

module _ (v : Value) (a b : Container Value) (is : v ≡ Array a) (i : ℕ) (u : Tree) where
  pub element_in_range : IsOk (on_list (insert_element_at i u) (tree_of v)) → i ≤ length (list_in a)
  element_in_range h = insert_element_in_range i u (list_in a) (within_is_ok list (insert_element_at i u (list_trees (list_in a))) (subst (λ (t : Tree). IsOk (on_list (insert_element_at i u) t)) (old_array_tree v a b is) h))

  pub element_inserted : IsOk (on_list (insert_element_at i u) (tree_of v)) → list_in b ≡ insert (list_in a) i u → on_list (insert_element_at i u) (tree_of v) ≡ Ok (tree_of (Array b))
  element_inserted h e =
      ap (on_list (insert_element_at i u)) (old_array_tree v a b is)
      ∙ ap (within list) (insert_element_listed i u (list_in a) (element_in_range h))
      ∙ array_result v a b is (insert (list_in a) i u) e

-- ---- members

insert_member_in_range : (i : ℕ) (k : List ℕ) (u : Tree) (ps : List (List ℕ × Tree)) → IsOk (insert_member_at i k u (list_pairs ps)) → i ≤ length ps
insert_member_in_range zero k u ps h = omega arith
insert_member_in_range (suc i) k u [] h = absurd (cc)
insert_member_in_range (suc i) k u (p ∷ ps) h = let l : i ≤ length ps = insert_member_in_range i k u ps (within_is_ok (λ qs. pair_and p.0 p.1 qs) (insert_member_at i k u (list_pairs ps)) h) in omega arith

insert_member_listed : (i : ℕ) (k : List ℕ) (u : Tree) (ps : List (List ℕ × Tree)) → i ≤ length ps → insert_member_at i k u (list_pairs ps) ≡ Ok (list_pairs (insert ps i (k, u)))
insert_member_listed zero k u [] l = refl
insert_member_listed zero k u (p ∷ ps) l = refl
insert_member_listed (suc i) k u [] l = absurd (omega arith)
insert_member_listed (suc i) k u (p ∷ ps) l = ap (within (λ qs. pair_and p.0 p.1 qs)) (insert_member_listed i k u ps (omega arith))

and_then_is_ok : {A B : Type 0} (r : Changed A) (f : A → Changed B) → IsOk (and_then r f) → IsOk r
and_then_is_ok (Ok x) f h = refl
and_then_is_ok (Err e) f h = absurd (cc)

-- the index of the first member to insert is in range
pub first_member_in_range : (e : ℕ × Keyed Value) (es : List (ℕ × Keyed Value)) (ps : List (Keyed Value)) → IsOk (insert_members (map removed_member (e ∷ es)) (list_pairs (map pair_of ps))) → e.0 ≤ length ps
first_member_in_range e es ps h =
    let l : e.0 ≤ length (map pair_of ps) = insert_member_in_range e.0 (pair_of e.1).0 (pair_of e.1).1 (map pair_of ps) (and_then_is_ok (insert_member_at e.0 (pair_of e.1).0 (pair_of e.1).1 (list_pairs (map pair_of ps))) (insert_members (map removed_member es)) h) in
    omega (arith, length-map ps pair_of)

-- the members inserted after it
pub first_member_inserted : (e : ℕ × Keyed Value) (es : List (ℕ × Keyed Value)) (ps qs : List (Keyed Value)) → e.0 ≤ length ps → qs ≡ insert ps e.0 e.1
    → insert_members (map removed_member (e ∷ es)) (list_pairs (map pair_of ps)) ≡ insert_members (map removed_member es) (list_pairs (map pair_of qs))
first_member_inserted e es ps qs l is =
    ap (λ r. and_then r (insert_members (map removed_member es)))
    (insert_member_listed e.0 (pair_of e.1).0 (pair_of e.1).1 (map pair_of ps) (omega (arith, length-map ps pair_of))
    ∙ ap (λ zs. Ok (list_pairs zs)) (sym (ap (map pair_of) is ∙ map_insert pair_of ps e.0 e.1)))

-- ---- a change at its path

at_path_some : (p : List Step) (f : Tree → Changed Tree) (t x : Tree) → tree_at p t ≡ Some x → at_path p f t ≡ within (λ n. replaced p n t) (f x)
at_path_some p f t x here = at_path_lookup p f t ∙ ap (λ (r : Changed Tree). and_then r (λ c. within (λ n. replaced p n t) (f c))) (lookup_some p t x here)

pub undone_by_target : (c : Change) (t : Tree) → undone t (tree_change_of c) ≡ at_path (change_path c) (undone_in c) t
undone_by_target (Put p old) t = refl
undone_by_target (DropLast p) t = refl
undone_by_target (PutBack p i old) t = refl
undone_by_target (PutPairs p es) t = refl

module _ (c : Change) (p : List Step) (is : p ≡ change_path c) where
  by_target : (t : Tree) → undone t (tree_change_of c) ≡ at_path p (undone_in c) t
  by_target t = undone_by_target c t ∙ ap (λ q. at_path q (undone_in c) t) (sym is)

  -- a change that applies does so at the value at its path
  pub undone_in_is_ok : (t x : Tree) → tree_at p t ≡ Some x → IsOk (undone t (tree_change_of c)) → IsOk (undone_in c x)
  undone_in_is_ok t x here h = within_is_ok (λ n. replaced p n t) (undone_in c x) (subst IsOk (by_target t ∙ at_path_some p (undone_in c) t x here) h)

  -- the path leads somewhere, so the call fails only for want of memory
  pub target_exists : (t : Tree) (e : Error) → IsOk (undone t (tree_change_of c)) → RefusesChange (at_path p (undone_in c) t) e.code e.place → e ≡ no_memory
  target_exists t e h r = by e.code e.place r
    where
      by : (code : ErrorCode) (place : Place) → RefusesChange (at_path p (undone_in c) t) code place → record { code = code; place = place } ≡ no_memory
      by NoMemory nowhere r = refl
      by NotFound nowhere r = absurd (err_not_is_ok (undone t (tree_change_of c)) not_found (by_target t ∙ r) h)
      by TypeUnmatched nowhere r = absurd (err_not_is_ok (undone t (tree_change_of c)) type_unmatched (by_target t ∙ r) h)
      by code place r = absurd r

  module _ (x y old new : Tree) (here : tree_at p old ≡ Some x) (puts : edited_once (set_at p y) old ≡ Ok new) where
    whole : ◌≡◌ {A = Changed Tree} (Ok (replaced p y old)) (Ok new)
    whole = sym (at_path_some p (λ _. Ok y) old x here) ∙ puts

    pub undone_by_place : undone_in c x ≡ Ok y → undone old (tree_change_of c) ≡ Ok new
    undone_by_place e = by_target old ∙ at_path_some p (undone_in c) old x here ∙ ap (within (λ n. replaced p n old)) e ∙ whole

    pub unchanged_by_place : y ≡ x → new ≡ old
    unchanged_by_place e = sym (ok_injective (replaced p y old) new whole) ∙ ap (λ n. replaced p n old) e ∙ replaced_same p x old (lookup_some p old x here)
