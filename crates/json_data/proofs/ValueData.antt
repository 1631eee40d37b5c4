-- What was read says which tree, and which edits.
use Rattle.std.proofs.Common.{◌≡◌, ◌∙◌, ℕ, List, [], ◌∷◌, map, bytes_eq, codes, true, false, Option, Some, None, refl, sym, ap, ap₂}
use Rattle.std.specs.Prelude.{option_map}
use Rattle.std.proofs.lemmas.Slice.Eq.{bytes_eq-Decides}
use Rattle.json_grammar.specs.Tree.{Tree, null, boolean, num, text, list, pairs, Trees, no_trees, tree_and, Pairs, no_pairs, pair_and, trees_list, pairs_list, list_pairs}
use Rattle.json_model.specs.Datum.{Datum, text_datum, list_datum, Data, datum_and, list_data, tree_of_datum, trees_of, pairs_of as rows_pairs, element_before, member_before}
use Rattle.json_model.specs.Edit.{Step, key_step, index_step, Edit, set_at, insert_at, push_at, remove_at}
use Rattle.json_io.specs.declared.error.ErrorCode.{ErrorCode}
use Rattle.json_doc.proofs.Trees.{pairs_back}
use Rattle.json_value.specs.Seen.{object_pairs}
use Rattle.json_value.specs.EditTrees.{both, each_in, edit_in}
use Rattle.json_data.specs.Reading.{gives, refuses, Series, gives_all, stops, prepend_reading, each, as_list, read_list}
use Rattle.json_data.specs.ReadingValues.{value_datum, trees_data, pairs_rows, step_datum, steps_data, path_datum, edit_datum, spelled, read_object_value, read_edit}

some_is : {A : Type 0} {x y : A} → Some x ≡ Some y → x ≡ y
some_is e = cc

mutual
  -- a tree is that of its datum
  pub tree_back : (t : Tree) → tree_of_datum (value_datum t) ≡ Some t
  tree_back null = refl
  tree_back (boolean b) = refl
  tree_back (num l) = refl
  tree_back (text s) = refl
  tree_back (list ts) = ap (option_map list) (trees_back ts)
  tree_back (pairs ps) = ap (option_map pairs) (rows_back ps)

  trees_back : (ts : Trees) → trees_of (trees_data ts) ≡ Some ts
  trees_back no_trees = refl
  trees_back (tree_and t ts) = ap₂ element_before (tree_back t) (trees_back ts)

  rows_back : (ps : Pairs) → rows_pairs (pairs_rows ps) ≡ Some ps
  rows_back no_pairs = refl
  rows_back (pair_and k t ps) = ap₂ (member_before (Some k)) (tree_back t) (rows_back ps)

pub same_value : (t u : Tree) → value_datum t ≡ value_datum u → t ≡ u
same_value t u e = some_is (sym (tree_back t) ∙ ap tree_of_datum e ∙ tree_back u)

pub object_read : (t : Tree) (ms : List (List ℕ × Tree)) → Some ms ≡ object_pairs t → read_object_value t ≡ gives (value_datum (pairs (list_pairs ms)))
object_read (pairs ps) ms e = let i : ms ≡ pairs_list ps = cc in ap (λ qs. gives (value_datum (pairs qs))) (sym (pairs_back ps) ∙ ap list_pairs (sym i))
object_read null ms e = absurd (cc)
object_read (boolean b) ms e = absurd (cc)
object_read (num l) ms e = absurd (cc)
object_read (text s) ms e = absurd (cc)
object_read (list ts) ms e = absurd (cc)

-- ---- edits

same_step : (a b : Step) → step_datum a ≡ step_datum b → a ≡ b
same_step (key_step s) (key_step r) e = cc
same_step (key_step s) (index_step i) e = absurd (cc)
same_step (index_step i) (key_step s) e = absurd (cc)
same_step (index_step i) (index_step j) e = cc

same_steps : (p q : List Step) → steps_data p ≡ steps_data q → p ≡ q
same_steps [] [] e = refl
same_steps [] (b ∷ q) e = absurd (cc)
same_steps (a ∷ p) [] e = absurd (cc)
same_steps (a ∷ p) (b ∷ q) e =
    let f : step_datum a ≡ step_datum b = cc in
    let g : steps_data p ≡ steps_data q = cc in
    ap₂ (λ s r. s ∷ r) (same_step a b f) (same_steps p q g)

pub same_path : (p q : List Step) → path_datum p ≡ path_datum q → p ≡ q
same_path p q e = same_steps p q (let f : steps_data p ≡ steps_data q = cc in f)

-- two names differ
other : {A : Type 0} (a b : List ℕ) → bytes_eq a b ≡ false → text_datum a ≡ text_datum b → A
other a b f e = let g : a ≡ b = cc in let h : bytes_eq a b ≡ true = (bytes_eq-Decides a b).1 g in absurd (cc)

first_of : (d e : Datum) (x y : Data) → list_datum (datum_and d x) ≡ list_datum (datum_and e y) → d ≡ e
first_of d e x y h = cc

rest_of : (d e : Datum) (x y : Data) → list_datum (datum_and d x) ≡ list_datum (datum_and e y) → x ≡ y
rest_of d e x y h = cc

pub same_edit : (e f : Edit) → edit_datum e ≡ edit_datum f → e ≡ f
same_edit (set_at p u) (set_at q v) e =
    let h = rest_of _ _ _ _ e in
    let i : path_datum p ≡ path_datum q = cc in
    let j : value_datum u ≡ value_datum v = cc in
    ap₂ set_at (same_path p q i) (same_value u v j)
same_edit (set_at p u) (insert_at q k v) e = other (codes "set") (codes "insert") refl (first_of _ _ _ _ e)
same_edit (set_at p u) (push_at q v) e = other (codes "set") (codes "push") refl (first_of _ _ _ _ e)
same_edit (set_at p u) (remove_at q s) e = other (codes "set") (codes "remove") refl (first_of _ _ _ _ e)
same_edit (insert_at p k u) (set_at q v) e = other (codes "insert") (codes "set") refl (first_of _ _ _ _ e)
same_edit (insert_at p k u) (insert_at q l v) e =
    let h = rest_of _ _ _ _ e in
    let i : path_datum p ≡ path_datum q = cc in
    let m : k ≡ l = cc in
    let j : value_datum u ≡ value_datum v = cc in
    ap (λ r. insert_at r k u) (same_path p q i) ∙ ap₂ (insert_at q) m (same_value u v j)
same_edit (insert_at p k u) (push_at q v) e = other (codes "insert") (codes "push") refl (first_of _ _ _ _ e)
same_edit (insert_at p k u) (remove_at q s) e = other (codes "insert") (codes "remove") refl (first_of _ _ _ _ e)
same_edit (push_at p u) (set_at q v) e = other (codes "push") (codes "set") refl (first_of _ _ _ _ e)
same_edit (push_at p u) (insert_at q k v) e = other (codes "push") (codes "insert") refl (first_of _ _ _ _ e)
same_edit (push_at p u) (push_at q v) e =
    let h = rest_of _ _ _ _ e in
    let i : path_datum p ≡ path_datum q = cc in
    let j : value_datum u ≡ value_datum v = cc in
    ap₂ push_at (same_path p q i) (same_value u v j)
same_edit (push_at p u) (remove_at q s) e = other (codes "push") (codes "remove") refl (first_of _ _ _ _ e)
same_edit (remove_at p s) (set_at q v) e = other (codes "remove") (codes "set") refl (first_of _ _ _ _ e)
same_edit (remove_at p s) (insert_at q k v) e = other (codes "remove") (codes "insert") refl (first_of _ _ _ _ e)
same_edit (remove_at p s) (push_at q v) e = other (codes "remove") (codes "push") refl (first_of _ _ _ _ e)
same_edit (remove_at p s) (remove_at q r) e =
    let h = rest_of _ _ _ _ e in
    let i : path_datum p ≡ path_datum q = cc in
    let j : step_datum s ≡ step_datum r = cc in
    ap₂ remove_at (same_path p q i) (same_step s r j)

-- ---- a list of edits

gives_no : {c : ErrorCode} {ds : List Datum} → stops c ≡ gives_all ds → ⊥
gives_no e = cc

all_is : {ds es : List Datum} → gives_all ds ≡ gives_all es → ds ≡ es
all_is e = cc

each_edit : (ts : Trees) (es : List Edit) → each read_edit ts ≡ gives_all (map edit_datum es) → each_in edit_in (trees_list ts) ≡ Some es
each_edit no_trees [] e = refl
each_edit no_trees (f ∷ es) e = let i : [] ≡ edit_datum f ∷ map edit_datum es = all_is e in absurd (cc)
each_edit (tree_and t ts) es e = by (edit_in t) (each read_edit ts) es (λ fs. each_edit ts fs) e
  where
    by : (o : Option Edit) (s : Series) (es : List Edit) → ((fs : List Edit) → s ≡ gives_all (map edit_datum fs) → each_in edit_in (trees_list ts) ≡ Some fs)
        → prepend_reading (spelled edit_datum o) s ≡ gives_all (map edit_datum es) → both (λ x xs. x ∷ xs) o (each_in edit_in (trees_list ts)) ≡ Some es
    by None s es h e = absurd (gives_no e)
    by (Some f) (stops c) es h e = absurd (gives_no e)
    by (Some f) (gives_all ds) [] h e = let i : edit_datum f ∷ ds ≡ [] = all_is e in absurd (cc)
    by (Some f) (gives_all ds) (g ∷ es) h e =
        let i : edit_datum f ∷ ds ≡ edit_datum g ∷ map edit_datum es = all_is e in
        let j : edit_datum f ≡ edit_datum g = cc in
        let k : ds ≡ map edit_datum es = cc in
        ap (both (λ x xs. x ∷ xs) (Some f)) (h es (ap gives_all k)) ∙ ap (λ x. Some (x ∷ es)) (same_edit f g j)

none_edit : (ts : Trees) (c : ErrorCode) → each read_edit ts ≡ stops c → each_in edit_in (trees_list ts) ≡ None
none_edit no_trees c e = absurd (gives_no (sym e))
none_edit (tree_and t ts) c e = by (edit_in t) (each read_edit ts) (none_edit ts) e
  where
    by : (o : Option Edit) (s : Series) → ((c : ErrorCode) → s ≡ stops c → each_in edit_in (trees_list ts) ≡ None)
        → prepend_reading (spelled edit_datum o) s ≡ stops c → both (λ x xs. x ∷ xs) o (each_in edit_in (trees_list ts)) ≡ None
    by None s h e = both_none (each_in edit_in (trees_list ts))
      where
        both_none : (o : Option (List Edit)) → both (λ (x : Edit) (xs : List Edit). x ∷ xs) None o ≡ None
        both_none None = refl
        both_none (Some es) = refl
    by (Some f) (stops d) h e = ap (both (λ x xs. x ∷ xs) (Some f)) (h d refl)
    by (Some f) (gives_all ds) h e = absurd (gives_no (sym e))

same_data : (ds es : List Datum) → list_data ds ≡ list_data es → ds ≡ es
same_data [] [] e = refl
same_data [] (b ∷ es) e = absurd (cc)
same_data (a ∷ ds) [] e = absurd (cc)
same_data (a ∷ ds) (b ∷ es) e =
    let f : a ≡ b = cc in
    let g : list_data ds ≡ list_data es = cc in
    ap₂ (λ x xs. x ∷ xs) f (same_data ds es g)

-- the edits that were read are those that the tree spells
pub list_edits : (ts : Trees) (es : List Edit) → read_list read_edit (list ts) ≡ gives (list_datum (list_data (map edit_datum es))) → each_in edit_in (trees_list ts) ≡ Some es
list_edits ts es e = by (each read_edit ts) (each_edit ts es) e
  where
    by : (s : Series) → (s ≡ gives_all (map edit_datum es) → each_in edit_in (trees_list ts) ≡ Some es)
        → as_list s ≡ gives (list_datum (list_data (map edit_datum es))) → each_in edit_in (trees_list ts) ≡ Some es
    by (stops c) h e = absurd (cc)
    by (gives_all ds) h e = let i : list_data ds ≡ list_data (map edit_datum es) = cc in h (ap gives_all (same_data ds (map edit_datum es) i))

pub list_none : (ts : Trees) (c : ErrorCode) → read_list read_edit (list ts) ≡ refuses c → each_in edit_in (trees_list ts) ≡ None
list_none ts c e = by (each read_edit ts) (none_edit ts) e
  where
    by : (s : Series) → ((d : ErrorCode) → s ≡ stops d → each_in edit_in (trees_list ts) ≡ None) → as_list s ≡ refuses c → each_in edit_in (trees_list ts) ≡ None
    by (stops d) h e = h d refl
    by (gives_all ds) h e = absurd (cc)
