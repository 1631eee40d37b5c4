-- What edits leave of values.
use Rattle.std.proofs.Common.{◌≡◌, ℕ, suc, cond, Option, Result, OnErr, ◌<◌, ◌≤◌, List, [], ◌∷◌, ◌++◌, length, get_or, set, map, filter, not, bytes_eq, Bool, Ok, Err, Some, IfSome, Vec, Global, refl, sym, ap, ◌∙◌, subst}
use Rattle.std.specs.Prelude.{◌+◌, slice_get, remove, take, drop, option_map, true, false}
use Rattle.std.proofs.lemmas.List.{map-set, length-map, map-append, map_push, map_more, take-map, drop-map, take_all}
use Rattle.std.proofs.lemmas.Option.{slice_get-map, slice_get_read}
use Rattle.json_grammar.specs.Tree.{Tree, list, pairs, Trees, Pairs, list_trees, list_pairs}
use Rattle.json_io.specs.declared.error.Error.{Error}
use Rattle.json_io.specs.declared.error.ErrorCode.{ErrorCode}
use Rattle.json_io.specs.declared.error.ErrorCode.TheVariants.{NoMemory, NotFound, TypeUnmatched}
use Rattle.json_io.specs.declared.error.Place.{Place}
use Rattle.json_io.specs.declared.error.Place.TheVariants.{None as nowhere}
use Rattle.json_model.specs.Edit.{has_key, inserted, pushed, removed, without_key, without_index, Changed, EditRefusal, within, on_list, on_pairs, at_path, at_key, at_index, edited_once, Step, not_found, type_unmatched}
use Rattle.json_value.specs.Denotes.{tree_of, list_in, pairs_in, pair_of, text_bytes}
use Rattle.json_value.specs.Edits.{step_of, steps_of, edit_at, change_of, RefusesChange}
use Rattle.json_value.specs.FirstMember.{IsFirstOf}
use Rattle.json_value.specs.Rows.{owned, keyed_so}
use Rattle.json_value.specs.declared.text.Text.{Text}
use Rattle.json_value.specs.declared.value.Value.{Value, Array, Object}
use Rattle.json_value.specs.declared.container.Container.{Container}
use Rattle.json_value.specs.declared.pair.Keyed.{Keyed}
use Rattle.json_value.specs.declared.path.PointerNode.{PointerNode}
use Rattle.json_value.specs.declared.path.PointerNode.TheVariants.{Key, Index}
use Rattle.json_value.specs.declared.path.Edit.{Edit}
use Rattle.json_value.specs.declared.path.Edit.TheVariants.{Set, Insert, Push, Remove}
use Rattle.json_value.proofs.TreeEdits.{at_index-here, at_index-missed, pushed-list, without_index-here, without_index-missed, at_key-here, inserted-here, inserted-beside, without_key-list, has_key-push, has_key-here}
use Rattle.json_value.proofs.ValueLevels.{array_tree, object_tree}

-- a refusal is passed on
pub refuses_so : {A B : Type 0} (r : Changed A) (s : Changed B) → ((e : EditRefusal) → r ≡ Err e → s ≡ Err e) → (code : ErrorCode) (place : Place) → RefusesChange r code place → RefusesChange s code place
refuses_so r s so NoMemory nowhere h = tt
refuses_so r s so NotFound nowhere h = so not_found h
refuses_so r s so TypeUnmatched nowhere h = so type_unmatched h
refuses_so r s so code place h = absurd h

pub refused_as : {A : Type 0} (r : Changed A) (e d : Error) → e ≡ d → RefusesChange r d.code d.place → RefusesChange r e.code e.place
refused_as r e d is h = subst (λ (x : Error). RefusesChange r x.code x.place) (sym is) h

-- what holds anyway holds where a call failed
pub anyway : {T E P : Type 0} (r : Result T E) → P → OnErr r P
anyway (Ok x) h = tt
anyway (Err e) h = h

-- what the removal of a key leaves of members
abbrev pub removal : List ℕ → Pairs → Changed Pairs
removal k ps = cond (has_key k ps) (Ok (without_key k ps)) (Err not_found)

pub remove_key : (s : PointerNode) (k : Text) (m : List ℕ) (t : Tree) → s ≡ Key k → m ≡ text_bytes k → removed (step_of s) t ≡ on_pairs (removal m) t
remove_key s k m t d g = ap (λ (r : PointerNode). removed (step_of r) t) d ∙ ap (λ (n : List ℕ). on_pairs (removal n) t) (sym g)

pub remove_index : (s : PointerNode) (i : ℕ) (t : Tree) → s ≡ Index i → removed (step_of s) t ≡ on_list (without_index i) t
remove_index s i t d = ap (λ (r : PointerNode). removed (step_of r) t) d

-- ---- an array whose list was lent

module _ (self : Value) (a : Container Value) (v : Vec Value Global) (is : self ≡ Array a) (same : map tree_of v.items ≡ list_in a) where
  pub array_before : tree_of self ≡ list (list_trees (map tree_of v.items))
  array_before = ap tree_of is ∙ array_tree a ∙ ap (λ ts. list (list_trees ts)) (sym same)

  pub array_kept : (w : Vec Value Global) → map tree_of w.items ≡ map tree_of v.items → tree_of (Array (owned w)) ≡ tree_of self
  array_kept w e = array_tree (owned w) ∙ ap (λ ts. list (list_trees ts)) e ∙ sym array_before

  pub array_changed : (f : Trees → Changed Trees) (w : Vec Value Global) → f (list_trees (map tree_of v.items)) ≡ Ok (list_trees (map tree_of w.items)) → on_list f (tree_of self) ≡ Ok (tree_of (Array (owned w)))
  array_changed f w e = ap (on_list f) array_before ∙ ap (within list) e ∙ sym (ap Ok (array_tree (owned w)))

  pub array_missed : (f : Trees → Changed Trees) (r : EditRefusal) → f (list_trees (map tree_of v.items)) ≡ Err r → on_list f (tree_of self) ≡ Err r
  array_missed f r e = ap (on_list f) array_before ∙ ap (within list) e

-- ---- an object whose members were lent

module _ (self : Value) (o : Container (Keyed Value)) (v : Vec (Keyed Value) Global) (is : self ≡ Object o) (same : map pair_of v.items ≡ pairs_in o) where
  pub object_before : tree_of self ≡ pairs (list_pairs (map pair_of v.items))
  object_before = ap tree_of is ∙ object_tree o ∙ ap (λ ps. pairs (list_pairs ps)) (sym same)

  pub object_kept : (w : Vec (Keyed Value) Global) → map pair_of w.items ≡ map pair_of v.items → tree_of (Object (owned w)) ≡ tree_of self
  object_kept w e = object_tree (owned w) ∙ ap (λ ps. pairs (list_pairs ps)) e ∙ sym object_before

  pub object_changed : (f : Pairs → Changed Pairs) (w : Vec (Keyed Value) Global) → f (list_pairs (map pair_of v.items)) ≡ Ok (list_pairs (map pair_of w.items)) → on_pairs f (tree_of self) ≡ Ok (tree_of (Object (owned w)))
  object_changed f w e = ap (on_pairs f) object_before ∙ ap (within pairs) e ∙ sym (ap Ok (object_tree (owned w)))

  pub object_missed : (f : Pairs → Changed Pairs) (r : EditRefusal) → f (list_pairs (map pair_of v.items)) ≡ Err r → on_pairs f (tree_of self) ≡ Err r
  object_missed f r e = ap (on_pairs f) object_before ∙ ap (within pairs) e

-- ---- members

-- the member at i, seen as its key and its tree
pub pair_got : (ps : List (Keyed Value)) (i : ℕ) (p : Keyed Value) → i < length ps → p ≡ get_or ps i p → slice_get (map pair_of ps) i ≡ Some (pair_of p)
pair_got ps i p h is = slice_get-map pair_of ps i ∙ ap (option_map pair_of) (slice_get_read ps (length ps) i p refl h is)

-- the first member of a key is at this index
pub first_at : (k : List ℕ) (ps : List (Keyed Value)) (i : ℕ) (p : Keyed Value) → i < length ps → p ≡ get_or ps i p → text_bytes p.key ≡ k
    → has_key k (list_pairs (map pair_of (take i ps))) ≡ false → IsFirstOf k (map pair_of ps) i
first_at k ps i p h is same front = record {
  within = rw length-map h;
  here = subst (λ (o : Option (List ℕ × Tree)). IfSome o (λ q. q.0 ≡ k)) (sym (pair_got ps i p h is)) same;
  before = ap (λ (qs : List (List ℕ × Tree)). has_key k (list_pairs qs)) (take-map pair_of i ps) ∙ front;
}

pub not_yet : (k : List ℕ) (ps : List (Keyed Value)) (i : ℕ) (p : Keyed Value) → i < length ps → p ≡ get_or ps i p → bytes_eq (text_bytes p.key) k ≡ false
    → has_key k (list_pairs (map pair_of (take i ps))) ≡ false → has_key k (list_pairs (map pair_of (take (i + 1) ps))) ≡ false
not_yet k ps i p h is other front =
    let more : map pair_of (take (i + 1) ps) ≡ map pair_of (take i ps) ++ pair_of p ∷ [] = map_more pair_of ps i p h ∙ ap (λ (q : Keyed Value). map pair_of (take i ps) ++ pair_of q ∷ []) (sym is) in
    ap (λ (qs : List (List ℕ × Tree)). has_key k (list_pairs qs)) more ∙ has_key-push k (map pair_of (take i ps)) (pair_of p) front other

pub in_none : (k : List ℕ) (ps : List (Keyed Value)) (i : ℕ) → length ps ≤ i → has_key k (list_pairs (map pair_of (take i ps))) ≡ false → has_key k (list_pairs (map pair_of ps)) ≡ false
in_none k ps i h front = ap (λ (qs : List (Keyed Value)). has_key k (list_pairs (map pair_of qs))) (sym (take_all i ps h)) ∙ front

pub first_moved : (k l : List ℕ) (ps qs : List (Keyed Value)) (i : ℕ) → k ≡ l → ps ≡ qs → IsFirstOf k (map pair_of ps) i → IsFirstOf l (map pair_of qs) i
first_moved k l ps qs i d e h = subst (λ (vs : List (Keyed Value)). IsFirstOf l (map pair_of vs) i) e (subst (λ (m : List ℕ). IsFirstOf m (map pair_of ps) i) d h)

pub none_moved : (k l : List ℕ) (ps qs : List (Keyed Value)) → k ≡ l → ps ≡ qs → has_key k (list_pairs (map pair_of ps)) ≡ false → has_key l (list_pairs (map pair_of qs)) ≡ false
none_moved k l ps qs d e h = subst (λ (vs : List (Keyed Value)). has_key l (list_pairs (map pair_of vs)) ≡ false) e (subst (λ (m : List ℕ). has_key m (list_pairs (map pair_of ps)) ≡ false) d h)

pub key_found : (k : List ℕ) (ps : List (Keyed Value)) (i : ℕ) → IsFirstOf k (map pair_of ps) i → has_key k (list_pairs (map pair_of ps)) ≡ true
key_found k ps i h = has_key-here k (map pair_of ps) i h.within h.here

module _ (k : List ℕ) (ps : List (Keyed Value)) (i : ℕ) (p : Keyed Value) (is : p ≡ get_or ps i p) (first : IsFirstOf k (map pair_of ps) i) where
  low : i < length ps
  low = rw length-map at first.within

  got : slice_get (map pair_of ps) i ≡ Some (pair_of p)
  got = pair_got ps i p low is

  its_key : text_bytes p.key ≡ k
  its_key = subst (λ (o : Option (List ℕ × Tree)). IfSome o (λ q. q.0 ≡ k)) got first.here

  pub insert_over : (u : Value) → inserted k (tree_of u) (list_pairs (map pair_of ps)) ≡ list_pairs (map pair_of (set ps i (keyed_so p.key u)))
  insert_over u =
      inserted-here k (map pair_of ps) i (text_bytes p.key) (tree_of p.value) (tree_of u) first.before got its_key ∙ sym (ap list_pairs (map-set pair_of ps i (keyed_so p.key u)))

  pub pair_changed : (f : Tree → Changed Tree) (u : Value) → f (tree_of p.value) ≡ Ok (tree_of u) → at_key k f (list_pairs (map pair_of ps)) ≡ Ok (list_pairs (map pair_of (set ps i (keyed_so p.key u))))
  pair_changed f u e =
      at_key-here k (map pair_of ps) i (text_bytes p.key) (tree_of p.value) (tree_of u) f first.before got its_key e ∙ sym (ap (λ (qs : List (List ℕ × Tree)). Ok (list_pairs qs)) (map-set pair_of ps i (keyed_so p.key u)))

pub insert_beside : (k : List ℕ) (ps : List (Keyed Value)) (n : Text) (u : Value) → text_bytes n ≡ k → has_key k (list_pairs (map pair_of ps)) ≡ false
    → inserted k (tree_of u) (list_pairs (map pair_of ps)) ≡ list_pairs (map pair_of (ps ++ keyed_so n u ∷ []))
insert_beside k ps n u same none =
    inserted-beside k (map pair_of ps) (tree_of u) none
    ∙ ap (λ (m : List ℕ). list_pairs (map pair_of ps ++ (m, tree_of u) ∷ [])) (sym same)
    ∙ sym (ap list_pairs (map_push pair_of ps (keyed_so n u)))

filter_pairs : (k : List ℕ) (ps : List (Keyed Value)) → filter (λ (q : List ℕ × Tree). not (bytes_eq q.0 k)) (map pair_of ps) ≡ map pair_of (filter (λ (p : Keyed Value). not (bytes_eq (text_bytes p.key) k)) ps)
filter_pairs k [] = refl
filter_pairs k (p ∷ ps) = by (bytes_eq (text_bytes p.key) k) (filter_pairs k ps)
  where
    rest : List (Keyed Value)
    rest = filter (λ (q : Keyed Value). not (bytes_eq (text_bytes q.key) k)) ps

    by : (b : Bool) → filter (λ (q : List ℕ × Tree). not (bytes_eq q.0 k)) (map pair_of ps) ≡ map pair_of rest
        → cond (not b) (pair_of p ∷ filter (λ (q : List ℕ × Tree). not (bytes_eq q.0 k)) (map pair_of ps)) (filter (λ (q : List ℕ × Tree). not (bytes_eq q.0 k)) (map pair_of ps)) ≡ map pair_of (cond (not b) (p ∷ rest) rest)
    by true e = e
    by false e = ap (λ (qs : List (List ℕ × Tree)). pair_of p ∷ qs) e

pub all_taken_out : (k : List ℕ) (ps qs : List (Keyed Value)) → qs ≡ filter (λ (p : Keyed Value). not (bytes_eq (text_bytes p.key) k)) ps → without_key k (list_pairs (map pair_of ps)) ≡ list_pairs (map pair_of qs)
all_taken_out k ps qs e = without_key-list k (map pair_of ps) ∙ ap list_pairs (filter_pairs k ps ∙ ap (map pair_of) (sym e))

-- ---- elements

module _ (vs : List Value) (i : ℕ) (v : Value) (low : i < length vs) (is : v ≡ get_or vs i v) where
  pub element_got : slice_get (map tree_of vs) i ≡ Some (tree_of v)
  element_got = slice_get-map tree_of vs i ∙ ap (option_map tree_of) (slice_get_read vs (length vs) i v refl low is)

  pub element_changed : (f : Tree → Changed Tree) (u : Value) → f (tree_of v) ≡ Ok (tree_of u) → at_index i f (list_trees (map tree_of vs)) ≡ Ok (list_trees (map tree_of (set vs i u)))
  element_changed f u e = at_index-here (map tree_of vs) i (tree_of v) (tree_of u) f element_got e ∙ sym (ap (λ (ts : List Tree). Ok (list_trees ts)) (map-set tree_of vs i u))

pub element_missed : (vs : List Value) (i : ℕ) (f : Tree → Changed Tree) → length vs ≤ i → at_index i f (list_trees (map tree_of vs)) ≡ Err not_found
element_missed vs i f h = let past : length (map tree_of vs) ≤ i = rw length-map h in at_index-missed (map tree_of vs) i f past

pub element_pushed : (vs : List Value) (u : Value) (t : Tree) → tree_of u ≡ t → pushed t (list_trees (map tree_of vs)) ≡ list_trees (map tree_of (vs ++ u ∷ []))
element_pushed vs u t e = pushed-list t (map tree_of vs) ∙ ap (λ (x : Tree). list_trees (map tree_of vs ++ x ∷ [])) (sym e) ∙ sym (ap list_trees (map_push tree_of vs u))

map_removed : (vs : List Value) (i : ℕ) → remove (map tree_of vs) i ≡ map tree_of (remove vs i)
map_removed vs i = ap (λ (ts : List Tree). ts ++ drop (suc i) (map tree_of vs)) (take-map tree_of i vs) ∙ ap (λ (ts : List Tree). map tree_of (take i vs) ++ ts) (drop-map tree_of (suc i) vs) ∙ sym (map-append tree_of (take i vs) (drop (suc i) vs))

pub element_removed : (vs : List Value) (i : ℕ) → i < length vs → without_index i (list_trees (map tree_of vs)) ≡ Ok (list_trees (map tree_of (remove vs i)))
element_removed vs i h =
    let low : i < length (map tree_of vs) = rw length-map h in
    without_index-here i (map tree_of vs) low ∙ ap (λ (ts : List Tree). Ok (list_trees ts)) (map_removed vs i)

pub removal_missed : (vs : List Value) (i : ℕ) → length vs ≤ i → without_index i (list_trees (map tree_of vs)) ≡ Err not_found
removal_missed vs i h = let past : length (map tree_of vs) ≤ i = rw length-map h in without_index-missed i (map tree_of vs) past
