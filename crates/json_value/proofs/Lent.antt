-- What a write through a borrowed part makes of the tree around it, and the tree there before.
use Rattle.std.proofs.Common.{◌≡◌, ℕ, zero, suc, cond, Bool, true, false, ◌<◌, ◌≤◌, List, [], ◌∷◌, ◌++◌, Vec, Global, length, get_or, set, take, map, Ok, Err, Some, None, refl, sym, ap, ◌∙◌, subst, arith, bytes_eq, Result, MutBor, IfOk, IfErr}
use Rattle.std.specs.Prelude.{Option, IfSome, slice_get, option_map}
use Rattle.std.proofs.Math.Seq.{get_or-append_seam}
use Rattle.std.proofs.lemmas.List.{length-map, length_push, map_push, set_at}
use Rattle.std.proofs.lemmas.Option.{none-some, same_Some}
use Rattle.json_grammar.specs.Tree.{Tree, null, boolean, num, text, list, pairs, Trees, Pairs, no_pairs, pair_and, list_trees, list_pairs, pairs_list}
use Rattle.json_io.specs.Errors.{no_memory}
use Rattle.json_io.specs.declared.error.Error.{Error}
use Rattle.json_io.specs.declared.error.ErrorCode.{ErrorCode}
use Rattle.json_io.specs.declared.error.ErrorCode.TheVariants.{NoMemory, NotFound, TypeUnmatched}
use Rattle.json_io.specs.declared.error.Place.{Place}
use Rattle.json_io.specs.declared.error.Place.TheVariants.{None as nowhere}
use Rattle.json_doc.specs.Readings.{elements, type_of}
use Rattle.json_doc.specs.declared.json_type.JsonType.TheVariants as kind
use Rattle.json_model.specs.Edit.{Step, Changed, not_found, type_unmatched, within, at_path, at_key, at_index, on_list, on_pairs, inserted, pushed, has_key, key_step, index_step}
use Rattle.json_model.proofs.Members.{at_key-absent}
use Rattle.json_doc_print.specs.Readings.{members}
use Rattle.json_value.specs.Denotes.{tree_of, pair_of, text_bytes}
use Rattle.json_value.specs.Edits.{RefusesChange}
use Rattle.json_value.specs.FirstMember.{IsFirstOf}
use Rattle.json_value.specs.Lending.{null_as_object, opened_with, with_null_member, put_or_insert}
use Rattle.json_value.specs.Rows.{owned, keyed_so}
use Rattle.json_value.specs.Seen.{first_of}
use Rattle.json_value.specs.Steps.{child, tree_or_null, key_in, index_in}
use Rattle.json_value.specs.declared.value.Value.{Value, Null, Object}
use Rattle.json_value.specs.declared.pair.Keyed.{Keyed}
use Rattle.json_value.specs.declared.text.Text.{Text}
use Rattle.json_value.proofs.ValueLevels.{null_tree, object_tree}
use Rattle.json_doc_print.proofs.Trees.{list_again, pairs_again}
use Rattle.json_value.proofs.TreeEdits.{split_front, same_key, inserted-beside}
use Rattle.json_value.proofs.AppliedTrees.{element_got, element_changed, element_missed, element_pushed, pair_got, pair_changed, insert_over}

-- ---- elements of a tree that is seen as the list of the values vs

module _ (t : Tree) (vs : List Value) (i : ℕ) (is : t ≡ list (list_trees (map tree_of vs))) where
  pub element_there : (v : Value) → i < length vs → v ≡ get_or vs i v → child (index_step i) t ≡ Some (tree_of v)
  element_there v low read = ap (λ (u : Tree). slice_get (elements u) i) is ∙ ap (λ (ts : List Tree). slice_get ts i) (list_again (map tree_of vs)) ∙ element_got vs i v low read

  pub element_put : (v w : Value) (n : Tree) → i < length vs → v ≡ get_or vs i v → n ≡ list (list_trees (map tree_of (set vs i w))) → at_path (index_step i ∷ []) (λ _. Ok (tree_of w)) t ≡ Ok n
  element_put v w n low read e = ap (on_list (at_index i (λ _. Ok (tree_of w)))) is ∙ ap (within list) (element_changed vs i v low read (λ _. Ok (tree_of w)) w refl) ∙ sym (ap Ok e)

  pub element_past : (f : Tree → Changed Tree) → length vs ≤ i → at_path (index_step i ∷ []) f t ≡ Err not_found
  element_past f h = ap (on_list (at_index i f)) is ∙ ap (within list) (element_missed vs i f h)

-- ---- the first member of a key

pub first_found : (k : List ℕ) (ps : List (List ℕ × Tree)) (i : ℕ) (p : List ℕ × Tree) → has_key k (list_pairs (take i ps)) ≡ false → slice_get ps i ≡ Some p → p.0 ≡ k → first_of k ps ≡ Some p
first_found k [] i p front is same = absurd (none-some p is)
first_found k (q ∷ ps) zero p front is same =
    let here : q ≡ p = same_Some q p is in
    ap (λ (b : Bool). cond b (Some q) (first_of k ps)) (same_key q.0 k (ap (λ (r : List ℕ × Tree). r.0) here ∙ same)) ∙ is
first_found k (q ∷ ps) (suc i) p front is same =
    let parts = split_front k q.0 (list_pairs (take i ps)) front in
    ap (λ (b : Bool). cond b (Some q) (first_of k ps)) parts.0 ∙ first_found k ps i p parts.1 is same

first_none : (k : List ℕ) (ps : Pairs) → has_key k ps ≡ false → first_of k (pairs_list ps) ≡ None
first_none k no_pairs none = refl
first_none k (pair_and n t ps) none =
    let parts = split_front k n ps none in
    ap (λ (b : Bool). cond b (Some (n, t)) (first_of k (pairs_list ps))) parts.0 ∙ first_none k ps parts.1

-- members of a tree that is seen as the object of the members ps
module _ (t : Tree) (k : List ℕ) (ps : List (Keyed Value)) (is : t ≡ pairs (list_pairs (map pair_of ps))) where
  pub member_there : (i : ℕ) (p : Keyed Value) → p ≡ get_or ps i p → IsFirstOf k (map pair_of ps) i → child (key_step k) t ≡ Some (tree_of p.value)
  member_there i p read first =
      let low : i < length ps = rw length-map at first.within in
      let got = pair_got ps i p low read in
      let same : text_bytes p.key ≡ k = subst (λ (o : Option (List ℕ × Tree)). IfSome o (λ q. q.0 ≡ k)) got first.here in
      ap (λ (u : Tree). option_map (λ (q : List ℕ × Tree). q.1) (first_of k (members u))) is
      ∙ ap (λ (qs : List (List ℕ × Tree)). option_map (λ (q : List ℕ × Tree). q.1) (first_of k qs)) (pairs_again (map pair_of ps))
      ∙ ap (option_map (λ (q : List ℕ × Tree). q.1)) (first_found k (map pair_of ps) i (pair_of p) first.before got same)

  pub member_put : (i : ℕ) (p : Keyed Value) → p ≡ get_or ps i p → IsFirstOf k (map pair_of ps) i → (w : Value) (n : Tree) → n ≡ pairs (list_pairs (map pair_of (set ps i (keyed_so p.key w)))) → at_path (key_step k ∷ []) (λ _. Ok (tree_of w)) t ≡ Ok n
  member_put i p read first w n e = ap (on_pairs (at_key k (λ _. Ok (tree_of w)))) is ∙ ap (within pairs) (pair_changed k ps i p read first (λ _. Ok (tree_of w)) w refl) ∙ sym (ap Ok e)

  pub member_missed : (f : Tree → Changed Tree) → has_key k (list_pairs (map pair_of ps)) ≡ false → at_path (key_step k ∷ []) f t ≡ Err not_found
  member_missed f none = ap (on_pairs (at_key k f)) is ∙ ap (within pairs) (at_key-absent k f (list_pairs (map pair_of ps)) none)

-- ---- a member that is put in

self_key : (k : List ℕ) → bytes_eq k k ≡ true
self_key k = same_key k k refl

pub inserted-twice : (k : List ℕ) (u v : Tree) (ps : Pairs) → inserted k u (inserted k v ps) ≡ inserted k u ps
inserted-twice k u v no_pairs = ap (λ (b : Bool). cond b (pair_and k u no_pairs) (pair_and k v (inserted k u no_pairs))) (self_key k)
inserted-twice k u v (pair_and n t ps) = by (bytes_eq n k) refl (inserted-twice k u v ps)
  where
    by : (b : Bool) → bytes_eq n k ≡ b → inserted k u (inserted k v ps) ≡ inserted k u ps
        → inserted k u (cond b (pair_and n v ps) (pair_and n t (inserted k v ps))) ≡ cond b (pair_and n u ps) (pair_and n t (inserted k u ps))
    by true is e = ap (λ (c : Bool). cond c (pair_and n u ps) (pair_and n v (inserted k u ps))) is
    by false is e = ap (λ (c : Bool). cond c (pair_and n u (inserted k v ps)) (pair_and n t (inserted k u (inserted k v ps)))) is ∙ ap (pair_and n t) e

pub inserted-with : (k : List ℕ) (u : Tree) (ps : Pairs) → inserted k u (with_null_member k ps) ≡ inserted k u ps
inserted-with k u ps = by (has_key k ps)
  where
    by : (b : Bool) → inserted k u (cond b ps (inserted k null ps)) ≡ inserted k u ps
    by true = refl
    by false = inserted-twice k u null ps

pub found-inserted : (k : List ℕ) (u : Tree) (ps : Pairs) → child (key_step k) (pairs (inserted k u ps)) ≡ Some u
found-inserted k u no_pairs = ap (λ (b : Bool). option_map (λ (q : List ℕ × Tree). q.1) (cond b (Some (k, u)) None)) (self_key k)
found-inserted k u (pair_and n t ps) = by (bytes_eq n k) refl (found-inserted k u ps)
  where
    by : (b : Bool) → bytes_eq n k ≡ b → child (key_step k) (pairs (inserted k u ps)) ≡ Some u
        → child (key_step k) (pairs (cond b (pair_and n u ps) (pair_and n t (inserted k u ps)))) ≡ Some u
    by true is e = ap (λ (c : Bool). option_map (λ (q : List ℕ × Tree). q.1) (cond c (Some (n, u)) (first_of k (pairs_list ps)))) is
    by false is e = ap (λ (c : Bool). option_map (λ (q : List ℕ × Tree). q.1) (cond c (Some (n, t)) (first_of k (pairs_list (inserted k u ps))))) is ∙ e

pub found-with : (k : List ℕ) (ps : Pairs) (u : Tree) → child (key_step k) (pairs (with_null_member k ps)) ≡ Some u → u ≡ tree_or_null (child (key_step k) (pairs ps))
found-with k ps u h = by (has_key k ps) refl h
  where
    by : (b : Bool) → has_key k ps ≡ b → child (key_step k) (pairs (cond b ps (inserted k null ps))) ≡ Some u → u ≡ tree_or_null (child (key_step k) (pairs ps))
    by true is e = sym (ap tree_or_null e)
    by false is e =
        sym (same_Some null u (sym (found-inserted k null ps) ∙ e)) ∙ sym (ap (λ o. tree_or_null (option_map (λ (q : List ℕ × Tree). q.1) o)) (first_none k ps is))

-- ---- null as an object

pub opened_put : (k : List ℕ) (u t : Tree) → on_pairs (λ ps. Ok (inserted k u ps)) (opened_with k t) ≡ on_pairs (λ ps. Ok (inserted k u ps)) (null_as_object t)
opened_put k u null = ap (λ (b : Bool). Ok (pairs (cond b (pair_and k u no_pairs) (pair_and k null (inserted k u no_pairs))))) (self_key k)
opened_put k u (boolean b) = refl
opened_put k u (num l) = refl
opened_put k u (text s) = refl
opened_put k u (list ts) = refl
opened_put k u (pairs ps) = refl

pub opened_found : (k : List ℕ) (t : Tree) → tree_or_null (child (key_step k) (opened_with k t)) ≡ tree_or_null (child (key_step k) t)
opened_found k null = ap (λ (b : Bool). tree_or_null (option_map (λ (q : List ℕ × Tree). q.1) (cond b (Some (k, null)) None))) (self_key k)
opened_found k (boolean b) = refl
opened_found k (num l) = refl
opened_found k (text s) = refl
opened_found k (list ts) = refl
opened_found k (pairs ps) = refl

-- a tree that stays no object is no null
pub unopened : (k : List ℕ) (t : Tree) → ((f : Pairs → Changed Pairs) → on_pairs f (opened_with k t) ≡ Err type_unmatched) → (opened_with k t ≡ t) × ((f : Pairs → Changed Pairs) → on_pairs f (null_as_object t) ≡ Err type_unmatched)
unopened k null h = absurd (ok_err (h (λ ps. Ok ps)))
  where
    ok_err : Ok (pairs (pair_and k null no_pairs)) ≡ Err type_unmatched → ⊥
    ok_err e = cc
unopened k (boolean b) h = (refl, h)
unopened k (num l) h = (refl, h)
unopened k (text s) h = (refl, h)
unopened k (list ts) h = (refl, h)
unopened k (pairs ps) h = (refl, h)

-- ---- steps and refusals

pub is_key : (s : Step) (k : List ℕ) → Some k ≡ key_in s → key_step k ≡ s
is_key (key_step m) k e = ap key_step (same_Some k m e)
is_key (index_step i) k e = absurd (cc)

pub is_index : (s : Step) (i : ℕ) → Some i ≡ index_in s → index_step i ≡ s
is_index (key_step k) i e = absurd (cc)
is_index (index_step j) i e = ap index_step (same_Some i j e)

-- what is not refused by the tree is refused for want of memory
memory_only : {A : Type 0} (x : A) (code : ErrorCode) (place : Place) → RefusesChange (Ok x) code place → record { code = code; place = place } ≡ no_memory
memory_only x NoMemory nowhere h = refl
memory_only x NotFound nowhere h = absurd (cc)
memory_only x TypeUnmatched nowhere h = absurd (cc)
memory_only x code place h = absurd h

pub list_memory : (t : Tree) (e : Error) → type_of t ≡ kind.Array → ((f : Trees → Changed Trees) → RefusesChange (on_list f t) e.code e.place) → e ≡ no_memory
list_memory (list ts) e is h = memory_only (list ts) e.code e.place (h (λ us. Ok us))
list_memory _ e is h = absurd (cc)

pub pairs_memory : (t : Tree) (e : Error) → type_of t ≡ kind.Object → ((f : Pairs → Changed Pairs) → RefusesChange (on_pairs f t) e.code e.place) → e ≡ no_memory
pairs_memory (pairs ps) e is h = memory_only (pairs ps) e.code e.place (h (λ qs. Ok qs))
pairs_memory _ e is h = absurd (cc)

-- an object that is made of null
pub made_null : (m : List ℕ) (key : Text) (old : Value) (xs : List (Keyed Value)) (w : Vec (Keyed Value) Global)
    → old ≡ Null → xs ≡ [] → w.items ≡ xs ++ keyed_so key Null ∷ [] → text_bytes key ≡ m → tree_of (Object (owned w)) ≡ opened_with m (tree_of old)
made_null m key old xs w is none e f =
    object_tree (owned w) ∙ ap (λ (ps : List (Keyed Value)). pairs (list_pairs (map pair_of ps))) (e ∙ ap (λ (ys : List (Keyed Value)). ys ++ keyed_so key Null ∷ []) none)
    ∙ ap (λ (t : Tree). pairs (pair_and (text_bytes key) t no_pairs)) null_tree ∙ ap (λ (n : List ℕ). pairs (pair_and n null no_pairs)) f
    ∙ sym (ap (opened_with m) (ap tree_of is ∙ null_tree))

-- ---- a member that is appended

last_got : (xs : List (List ℕ × Tree)) (p : List ℕ × Tree) → slice_get (xs ++ p ∷ []) (length xs) ≡ Some p
last_got [] p = refl
last_got (x ∷ xs) p = last_got xs p

front_taken : (xs ys : List (List ℕ × Tree)) → take (length xs) (xs ++ ys) ≡ xs
front_taken [] ys = refl
front_taken (x ∷ xs) ys = ap (λ (zs : List (List ℕ × Tree)). x ∷ zs) (front_taken xs ys)

first_pushed : (k : List ℕ) (xs : List (List ℕ × Tree)) (p : List ℕ × Tree) → has_key k (list_pairs xs) ≡ false → p.0 ≡ k → IsFirstOf k (xs ++ p ∷ []) (length xs)
first_pushed k xs p none same = record {
  within = omega (arith, length_push xs p);
  here = subst (λ (o : Option (List ℕ × Tree)). IfSome o (λ q. q.0 ≡ k)) (sym (last_got xs p)) same;
  before = ap (λ (ys : List (List ℕ × Tree)). has_key k (list_pairs ys)) (front_taken xs (p ∷ [])) ∙ none;
}

module _ (k : List ℕ) (ps qs : List (Keyed Value)) (key : Text) (is : qs ≡ ps ++ keyed_so key Null ∷ []) (same : text_bytes key ≡ k) (none : has_key k (list_pairs (map pair_of ps)) ≡ false) where
  grown : map pair_of qs ≡ map pair_of ps ++ (text_bytes key, null) ∷ []
  grown = ap (map pair_of) is ∙ map_push pair_of ps (keyed_so key Null) ∙ ap (λ (t : Tree). map pair_of ps ++ (text_bytes key, t) ∷ []) null_tree

  pub seated_first : (i : ℕ) → i ≡ length ps → IsFirstOf k (map pair_of qs) i
  seated_first i e =
      let there : IsFirstOf k (map pair_of qs) (length (map pair_of ps)) = subst (λ (xs : List (List ℕ × Tree)). IsFirstOf k xs (length (map pair_of ps))) (sym grown) (first_pushed k (map pair_of ps) (text_bytes key, null) none same) in
      subst (λ (j : ℕ). IsFirstOf k (map pair_of qs) j) (length-map ps pair_of ∙ sym e) there

  pub seated_pairs : list_pairs (map pair_of qs) ≡ with_null_member k (list_pairs (map pair_of ps))
  seated_pairs =
      ap list_pairs grown ∙ ap (λ (m : List ℕ). list_pairs (map pair_of ps ++ (m, null) ∷ [])) same ∙ sym (inserted-beside k (map pair_of ps) null none)
      ∙ sym (ap (λ (b : Bool). cond b (list_pairs (map pair_of ps)) (inserted k null (list_pairs (map pair_of ps)))) none)

-- a key that is there is not appended
pub seated_there : (k : List ℕ) (ps : Pairs) → has_key k ps ≡ true → ps ≡ with_null_member k ps
seated_there k ps h = sym (ap (λ (b : Bool). cond b ps (inserted k null ps)) h)

-- a write to the first member of the key, once it is there
module _ (t : Tree) (k : List ℕ) (ps qs : List (Keyed Value)) (is : t ≡ pairs (list_pairs (map pair_of ps))) (made : list_pairs (map pair_of qs) ≡ with_null_member k (list_pairs (map pair_of ps)))
    (i : ℕ) (p : Keyed Value) (read : p ≡ get_or qs i p) (first : IsFirstOf k (map pair_of qs) i) where
  pub seated_put : (w : Value) (n : Tree) → n ≡ pairs (list_pairs (map pair_of (set qs i (keyed_so p.key w)))) → on_pairs (λ ms. Ok (inserted k (tree_of w) ms)) t ≡ Ok n
  seated_put w n e =
      ap (on_pairs (λ ms. Ok (inserted k (tree_of w) ms))) is
      ∙ ap (λ (ms : Pairs). Ok (pairs ms)) (sym (inserted-with k (tree_of w) (list_pairs (map pair_of ps))) ∙ ap (inserted k (tree_of w)) (sym made) ∙ insert_over k qs i p read first w)
      ∙ sym (ap Ok e)

  pub seated_value : tree_of p.value ≡ tree_or_null (child (key_step k) t)
  seated_value =
      found-with k (list_pairs (map pair_of ps)) (tree_of p.value) (ap (λ (ms : Pairs). child (key_step k) (pairs ms)) (sym made) ∙ member_there (pairs (list_pairs (map pair_of qs))) k qs refl i p read first)
      ∙ sym (ap (λ (u : Tree). tree_or_null (child (key_step k) u)) is)

-- ---- an element that is found is the place of its index

pub found_element : (i : ℕ) (t : Tree) (r : Result (MutBor Value) Error) → IfOk r (λ v. child (index_step i) t ≡ Some (tree_of v.now)) → IfOk r (λ v. tree_of v.now ≡ tree_or_null (child (index_step i) t))
found_element i t (Ok x) h = sym (ap tree_or_null h)
found_element i t (Err e) h = tt

pub refused_element : (i : ℕ) (t : Tree) (r : Result (MutBor Value) Error) → IfErr r (λ e. (f : Tree → Changed Tree) → RefusesChange (at_path (index_step i ∷ []) f t) e.code e.place)
    → IfErr r (λ e. (u : Tree) → RefusesChange (put_or_insert (index_step i) u t) e.code e.place)
refused_element i t (Ok x) h = tt
refused_element i t (Err e) h = λ u. h (λ _. Ok u)

-- ---- an element that is appended

-- the last of a list that was pushed, read and written
module _ {T : Type 0} (vs us : List T) (v : T) (i : ℕ) (made : us ≡ vs ++ v ∷ []) (end : i ≡ length vs) where
  pub last_set : (w : T) → set us i w ≡ vs ++ w ∷ []
  last_set w = ap (λ (xs : List T). set xs i w) made ∙ set_at vs v [] w i (sym end)

  pub last_read : (x : T) → x ≡ get_or us i x → x ≡ v
  last_read x read = read ∙ ap (λ (xs : List T). get_or xs i x) made ∙ ap (λ (j : ℕ). get_or (vs ++ v ∷ []) j x) end ∙ get_or-append_seam vs v [] x

pub pushed_put : (t : Tree) (vs us : List Value) (v : Value) (i : ℕ) → t ≡ list (list_trees (map tree_of vs)) → us ≡ vs ++ v ∷ [] → i ≡ length vs
    → (w : Value) (n : Tree) → n ≡ list (list_trees (map tree_of (set us i w))) → on_list (λ ts. Ok (pushed (tree_of w) ts)) t ≡ Ok n
pushed_put t vs us v i is made end w n e =
    ap (on_list (λ ts. Ok (pushed (tree_of w) ts))) is
    ∙ ap (λ (ts : Trees). Ok (list ts)) (element_pushed vs w (tree_of w) refl ∙ ap (λ (xs : List Value). list_trees (map tree_of xs)) (sym (last_set vs us v i made end w)))
    ∙ sym (ap Ok e)

-- ---- an object that lacks the key was no null

pub has_itself : (k : List ℕ) (ps : Pairs) → pairs (pair_and k null no_pairs) ≡ pairs ps → has_key k ps ≡ false → ⊥
has_itself k ps e none =
    let is : pair_and k null no_pairs ≡ ps = cc in
    let has : has_key k ps ≡ true = ap (has_key k) (sym is) ∙ ap (λ (b : Bool). cond b true false) (self_key k) in
    cc

pub opened_kept : (k : List ℕ) (t : Tree) (ps : Pairs) → opened_with k t ≡ pairs ps → has_key k ps ≡ false → opened_with k t ≡ t
opened_kept k null ps e none = absurd (has_itself k ps e none)
opened_kept k (boolean b) ps e none = refl
opened_kept k (num l) ps e none = refl
opened_kept k (text s) ps e none = refl
opened_kept k (list ts) ps e none = refl
opened_kept k (pairs qs) ps e none = refl
