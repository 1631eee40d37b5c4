-- What is read of a cell is read of the tree there.
use Rattle.std.proofs.Common.{◌≡◌, ◌≢◌, Bool, true, ℕ, ℤ, pos, zero, suc, ◌+◌, ◌-◌, ◌<◌, ◌≤◌, List, [], ◌∷◌, length, map, get_or, Some, None, refl, sym, ap, subst, ◌∙◌, arith}
use Rattle.std.specs.Prelude.{slice_get, slice_range}
use Rattle.std.specs.Fmt.{signed_decimal}
use Rattle.json_grammar.specs.Grammar.{number}
use Rattle.json_grammar.specs.Tree.{Tree, null, boolean, num, text, list, pairs, Trees, Pairs, pairs_list, trees_list, list_trees, list_pairs}
use Rattle.json_grammar.proofs.Numeric.{number_had}
use Rattle.json_number.specs.Integers.{integer_in}
use Rattle.json_doc.specs.ByValue.{value_of_cell}
use Rattle.json_doc.specs.CellReadings.{cell_type, cell_bool, cell_len}
use Rattle.json_doc.specs.Docs.{doc_cells, doc_text, doc_tree}
use Rattle.json_doc.specs.Left.{doc_pair}
use Rattle.json_doc.specs.Places.{place_after, places_from, place_from, AllBelow, child_in, child_of}
use Rattle.json_doc.specs.Readings.{type_of, bool_of, integer_in_tree, literal_unless, literal_of, string_of, elements, object_keys, values, children}
use Rattle.json_doc.specs.Shape.{is_str, AllKeys, CellInPlace}
use Rattle.json_doc.specs.Trees.{text_of_tree, tree_of_cell}
use Rattle.json_doc.specs.declared.cell.Cell.{Cell}
use Rattle.json_doc.specs.declared.cell.Cell.TheVariants as cell
use Rattle.json_doc.specs.declared.doc.Doc.{Doc}
use Rattle.json_doc.proofs.Shaping.{Valued}
use Rattle.json_doc.proofs.Trees.{from, tree_where, looked_all, looked_pairs}

-- ---- lists

list_again : (ts : List Tree) → trees_list (list_trees ts) ≡ ts
list_again [] = refl
list_again (t ∷ ts) = ap (λ (x : List Tree). t ∷ x) (list_again ts)

pairs_again : (ps : List (List ℕ × Tree)) → pairs_list (list_pairs ps) ≡ ps
pairs_again [] = refl
pairs_again (p ∷ ps) = ap (λ (x : List (List ℕ × Tree)). p ∷ x) (pairs_again ps)

keys_seen : (d : Doc) (ks : List ℕ) → map (λ p. p.0) (map (doc_pair d) ks) ≡ map (λ k. text_of_tree (doc_tree d (k - 1))) ks
keys_seen d [] = refl
keys_seen d (k ∷ ks) = ap (λ (x : List (List ℕ)). text_of_tree (doc_tree d (k - 1)) ∷ x) (keys_seen d ks)

values_seen : (d : Doc) (ks : List ℕ) → map (λ p. p.1) (map (doc_pair d) ks) ≡ map (doc_tree d) ks
values_seen d [] = refl
values_seen d (k ∷ ks) = ap (λ (x : List Tree). doc_tree d k ∷ x) (values_seen d ks)

pub length-of_places : {X : Type 0} (f : ℕ → X) (cells : List Cell) (keys at n : ℕ) → length (map f (places_from cells keys at n)) ≡ n
length-of_places f cells keys at zero = refl
length-of_places f cells keys at (suc n) = ap suc (length-of_places f cells keys (place_after cells at + keys) n)

pub get-of_places : {X : Type 0} (f : ℕ → X) (cells : List Cell) (keys at n i : ℕ) → i < n → slice_get (map f (places_from cells keys at n)) i ≡ Some (f (place_from cells keys at i))
get-of_places f cells keys at zero i h = absurd (omega arith)
get-of_places f cells keys at (suc n) zero h = refl
get-of_places f cells keys at (suc n) (suc i) h = get-of_places f cells keys (place_after cells at + keys) n i (omega arith)

pub past-of_places : {X : Type 0} (f : ℕ → X) (cells : List Cell) (keys at n i : ℕ) → n ≤ i → slice_get (map f (places_from cells keys at n)) i ≡ None
past-of_places f cells keys at zero i h = refl
past-of_places f cells keys at (suc n) zero h = absurd (omega arith)
past-of_places f cells keys at (suc n) (suc i) h = past-of_places f cells keys (place_after cells at + keys) n i (omega arith)

pub get-places : (cells : List Cell) (keys at n i : ℕ) → i < n → slice_get (places_from cells keys at n) i ≡ Some (place_from cells keys at i)
get-places cells keys at zero i h = absurd (omega arith)
get-places cells keys at (suc n) zero h = refl
get-places cells keys at (suc n) (suc i) h = get-places cells keys (place_after cells at + keys) n i (omega arith)

-- one step more
pub place_next : (cells : List Cell) (keys at n m : ℕ) → m ≡ n + 1 → place_from cells keys at m ≡ place_after cells (place_from cells keys at n) + keys
place_next cells keys at zero zero e = absurd (omega arith)
place_next cells keys at zero (suc m) e = let none : m ≡ 0 = omega arith in ap (place_from cells keys (place_after cells at + keys)) none
place_next cells keys at (suc n) zero e = absurd (omega arith)
place_next cells keys at (suc n) (suc m) e = place_next cells keys (place_after cells at + keys) n m (omega arith)

-- ---- the tree at a place

module _ (cells : List Cell) (bytes : List ℕ) (at : ℕ) (ts : List Tree) where
  type_in : (c : Cell) → type_of (tree_of_cell cells bytes at ts c) ≡ cell_type c
  type_in cell.Null = refl
  type_in _ = refl

  bool_in : (c : Cell) → bool_of (tree_of_cell cells bytes at ts c) ≡ cell_bool c
  bool_in cell.Null = refl
  bool_in _ = refl

  no_literal_in : (c : Cell) → Valued c → ((start len : ℕ) → c ≢ cell.Raw start len) → literal_of (tree_of_cell cells bytes at ts c) ≡ None
  no_literal_in (cell.Unsigned n) v h = ap (λ o. literal_unless o (signed_decimal (pos n))) (v (pos n) refl)
  no_literal_in (cell.Negative n) v h = ap (λ o. literal_unless o (signed_decimal n)) (v n refl)
  no_literal_in (cell.Raw start len) v h = absurd (h start len refl)
  no_literal_in _ v h = refl

  no_integer_in : (c : Cell) → CellInPlace cells bytes at c → ((n : ℕ) → c ≢ cell.Unsigned n) → ((n : ℤ) → c ≢ cell.Negative n) → integer_in_tree (tree_of_cell cells bytes at ts c) ≡ None
  no_integer_in (cell.Unsigned n) p h k = absurd (h n refl)
  no_integer_in (cell.Negative n) p h k = absurd (k n refl)
  no_integer_in (cell.Raw start len) p h k = p.raw refl
  no_integer_in _ p h k = refl

  value_in : (c : Cell) (n : ℤ) → value_of_cell c ≡ Some n → tree_of_cell cells bytes at ts c ≡ num (signed_decimal n)
  value_in (cell.Unsigned m) n e = let same : pos m ≡ n = cc in ap (λ z. num (signed_decimal z)) same
  value_in (cell.Negative m) n e = let same : m ≡ n = cc in ap (λ z. num (signed_decimal z)) same
  value_in _ n e = absurd (cc)

  no_string_in : (c : Cell) → ((start len : ℕ) → c ≢ cell.Str start len) → string_of (tree_of_cell cells bytes at ts c) ≡ None
  no_string_in (cell.Str start len) h = absurd (h start len refl)
  no_string_in _ h = refl

  text_in : (c : Cell) → is_str c ≡ true → tree_of_cell cells bytes at ts c ≡ text (text_of_tree (tree_of_cell cells bytes at ts c))
  text_in (cell.Str start len) h = refl
  text_in _ h = absurd (cc)

  no_elements_in : (c : Cell) → ((link len : ℕ) → c ≢ cell.Array link len) → elements (tree_of_cell cells bytes at ts c) ≡ []
  no_elements_in (cell.Array link len) h = absurd (h link len refl)
  no_elements_in _ h = refl

  no_pairs_in : (c : Cell) → ((link len : ℕ) → c ≢ cell.Object link len) → (object_keys (tree_of_cell cells bytes at ts c) ≡ []) × (values (tree_of_cell cells bytes at ts c) ≡ [])
  no_pairs_in (cell.Object link len) h = absurd (h link len refl)
  no_pairs_in _ h = (refl, refl)

  no_children_in : (c : Cell) → ((link len : ℕ) → c ≢ cell.Array link len) → ((link len : ℕ) → c ≢ cell.Object link len) → children (tree_of_cell cells bytes at ts c) ≡ []
  no_children_in (cell.Array link len) h k = absurd (h link len refl)
  no_children_in (cell.Object link len) h k = absurd (k link len refl)
  no_children_in _ h k = refl

module _ (d : Doc) (at : ℕ) (c : Cell) (inside : at < length (doc_cells d)) (is : c ≡ get_or (doc_cells d) at cell.Null) where
  ahead : List Tree
  ahead = from (doc_cells d) (doc_text d) (at + 1)

  here : doc_tree d at ≡ tree_of_cell (doc_cells d) (doc_text d) at ahead c
  unfolding ahead
  here = tree_where (doc_cells d) (doc_text d) at inside ∙ ap (tree_of_cell (doc_cells d) (doc_text d) at (from (doc_cells d) (doc_text d) (at + 1))) (sym is)

  there : (x : Cell) → c ≡ x → doc_tree d at ≡ tree_of_cell (doc_cells d) (doc_text d) at ahead x
  there x e = here ∙ ap (tree_of_cell (doc_cells d) (doc_text d) at ahead) e

  in_place_here : CellInPlace (doc_cells d) (doc_text d) at c
  in_place_here = subst (λ (x : Cell). CellInPlace (doc_cells d) (doc_text d) at x) (sym is) (d.in_place at inside)

  in_place_there : (x : Cell) → c ≡ x → CellInPlace (doc_cells d) (doc_text d) at x
  in_place_there x e = subst (λ (y : Cell). CellInPlace (doc_cells d) (doc_text d) at y) e in_place_here

  pub type_at : type_of (doc_tree d at) ≡ cell_type c
  type_at = ap type_of here ∙ type_in (doc_cells d) (doc_text d) at ahead c

  pub bool_at : bool_of (doc_tree d at) ≡ cell_bool c
  bool_at = ap bool_of here ∙ bool_in (doc_cells d) (doc_text d) at ahead c

  pub raw_at : (start len : ℕ) → c ≡ cell.Raw start len → integer_in (slice_range (doc_text d) start (start + len)) ≡ None
  raw_at start len e = (in_place_there _ e).raw refl

  pub literal_at : (start len : ℕ) → c ≡ cell.Raw start len → literal_of (doc_tree d at) ≡ Some (slice_range (doc_text d) start (start + len))
  literal_at start len e = ap literal_of (there _ e) ∙ ap (λ o. literal_unless o (slice_range (doc_text d) start (start + len))) (raw_at start len e)

  pub number_at : (start len : ℕ) → c ≡ cell.Raw start len → number (slice_range (doc_text d) start (start + len))
  number_at start len e = number_had (slice_range (doc_text d) start (start + len)) ((in_place_there _ e).numeric refl)

  pub no_literal_at : ((start len : ℕ) → c ≢ cell.Raw start len) → literal_of (doc_tree d at) ≡ None
  no_literal_at h = ap literal_of here ∙ no_literal_in (doc_cells d) (doc_text d) at ahead c in_place_here.valued h

  -- the tree of an integer by value
  pub integer_tree_at : (n : ℤ) → value_of_cell c ≡ Some n → doc_tree d at ≡ num (signed_decimal n)
  integer_tree_at n e = here ∙ value_in (doc_cells d) (doc_text d) at ahead c n e

  pub integer_at : (n : ℤ) → value_of_cell c ≡ Some n → integer_in_tree (doc_tree d at) ≡ Some n
  integer_at n e = ap integer_in_tree (integer_tree_at n e) ∙ in_place_here.valued n e

  pub no_integer_at : ((n : ℕ) → c ≢ cell.Unsigned n) → ((n : ℤ) → c ≢ cell.Negative n) → integer_in_tree (doc_tree d at) ≡ None
  no_integer_at h k = ap integer_in_tree here ∙ no_integer_in (doc_cells d) (doc_text d) at ahead c in_place_here h k

  pub string_at : (start len : ℕ) → c ≡ cell.Str start len → string_of (doc_tree d at) ≡ Some (slice_range (doc_text d) start (start + len))
  string_at start len e = ap string_of (there _ e)

  pub no_string_at : ((start len : ℕ) → c ≢ cell.Str start len) → string_of (doc_tree d at) ≡ None
  no_string_at h = ap string_of here ∙ no_string_in (doc_cells d) (doc_text d) at ahead c h

  -- a cell of a string is one
  pub string_there : is_str c ≡ true → doc_tree d at ≡ text (text_of_tree (doc_tree d at))
  string_there h = here ∙ text_in (doc_cells d) (doc_text d) at ahead c h ∙ ap (λ (t : Tree). text (text_of_tree t)) (sym here)

  -- the tree by the kind of the cell

  pub null_at : c ≡ cell.Null → doc_tree d at ≡ null
  null_at e = there _ e

  pub boolean_at : (b : Bool) → c ≡ cell.Bool b → doc_tree d at ≡ boolean b
  boolean_at b e = there _ e

  pub num_at : (start len : ℕ) → c ≡ cell.Raw start len → doc_tree d at ≡ num (slice_range (doc_text d) start (start + len))
  num_at start len e = there _ e

  pub text_tree_at : (start len : ℕ) → c ≡ cell.Str start len → doc_tree d at ≡ text (slice_range (doc_text d) start (start + len))
  text_tree_at start len e = there _ e

  pub text_of_at : (start len : ℕ) → c ≡ cell.Str start len → text_of_tree (doc_tree d at) ≡ slice_range (doc_text d) start (start + len)
  text_of_at start len e = ap text_of_tree (text_tree_at start len e)

  pub elements_at : (link len : ℕ) → c ≡ cell.Array link len → elements (doc_tree d at) ≡ map (doc_tree d) (places_from (doc_cells d) 0 (at + 1) len)
  unfolding ahead
  elements_at link len e = ap elements (there _ e) ∙ list_again _ ∙ looked_all (doc_cells d) (doc_text d) d.in_place at 0 (at + 1) len (omega arith)

  pub array_at : (link len : ℕ) → c ≡ cell.Array link len → (ts : Trees) × (doc_tree d at ≡ list ts) × (map (doc_tree d) (places_from (doc_cells d) 0 (at + 1) len) ≡ trees_list ts)
  array_at link len e = let t = there _ e in (_, t, sym (elements_at link len e) ∙ ap elements t)

  pub object_at : (link len : ℕ) → c ≡ cell.Object link len → (ps : Pairs) × (doc_tree d at ≡ pairs ps) × (map (doc_pair d) (places_from (doc_cells d) 1 (at + 2) len) ≡ pairs_list ps)
  unfolding ahead
  object_at link len e = (_, there _ e, sym (pairs_again _ ∙ looked_pairs (doc_cells d) (doc_text d) d.in_place at 1 (at + 2) len (omega arith)))

  pub no_elements_at : ((link len : ℕ) → c ≢ cell.Array link len) → elements (doc_tree d at) ≡ []
  no_elements_at h = ap elements here ∙ no_elements_in (doc_cells d) (doc_text d) at ahead c h

  pub keys_at : (link len : ℕ) → c ≡ cell.Object link len → object_keys (doc_tree d at) ≡ map (λ k. text_of_tree (doc_tree d (k - 1))) (places_from (doc_cells d) 1 (at + 2) len)
  keys_at link len e = let p = object_at link len e in ap object_keys p.1 ∙ ap (map (λ q. q.0)) (sym p.2) ∙ keys_seen d _

  pub values_at : (link len : ℕ) → c ≡ cell.Object link len → values (doc_tree d at) ≡ map (doc_tree d) (places_from (doc_cells d) 1 (at + 2) len)
  values_at link len e = let p = object_at link len e in ap values p.1 ∙ ap (map (λ q. q.1)) (sym p.2) ∙ values_seen d _

  pub no_keys_at : ((link len : ℕ) → c ≢ cell.Object link len) → object_keys (doc_tree d at) ≡ []
  no_keys_at h = ap object_keys here ∙ (no_pairs_in (doc_cells d) (doc_text d) at ahead c h).0

  pub no_values_at : ((link len : ℕ) → c ≢ cell.Object link len) → values (doc_tree d at) ≡ []
  no_values_at h = ap values here ∙ (no_pairs_in (doc_cells d) (doc_text d) at ahead c h).1

  pub no_children_at : ((link len : ℕ) → c ≢ cell.Array link len) → ((link len : ℕ) → c ≢ cell.Object link len) → children (doc_tree d at) ≡ []
  no_children_at h k = ap children here ∙ no_children_in (doc_cells d) (doc_text d) at ahead c h k

  pub array_children_at : (link len : ℕ) → c ≡ cell.Array link len → children (doc_tree d at) ≡ map (doc_tree d) (places_from (doc_cells d) 0 (at + 1) len)
  array_children_at link len e = ap children (there _ e) ∙ sym (ap elements (there _ e)) ∙ elements_at link len e

  pub object_children_at : (link len : ℕ) → c ≡ cell.Object link len → children (doc_tree d at) ≡ map (doc_tree d) (places_from (doc_cells d) 1 (at + 2) len)
  object_children_at link len e = ap children (there _ e) ∙ sym (ap values (there _ e)) ∙ values_at link len e

  -- each child has its cell, and each key

  pub elements_below : (link len n : ℕ) → c ≡ cell.Array link len → n ≤ len → AllBelow (doc_cells d) 0 (at + 1) n
  elements_below link len n e h i l = (in_place_there _ e).inside i (omega arith)

  pub values_below : (link len n : ℕ) → c ≡ cell.Object link len → n ≤ len → AllBelow (doc_cells d) 1 (at + 2) n
  values_below link len n e h i l = (in_place_there _ e).inside i (omega arith)

  pub all_keyed : (link len : ℕ) → c ≡ cell.Object link len → AllKeys (doc_cells d) (at + 2) len
  all_keyed link len e i l = (in_place_there _ e).keyed i l

  -- the places of children

  pub array_child : (link len i : ℕ) → c ≡ cell.Array link len → place_from (doc_cells d) 0 (at + 1) i ≡ child_of (doc_cells d) at i
  array_child link len i e = ap (λ (x : Cell). child_in (doc_cells d) at x i) (sym e ∙ is)

  pub object_child : (link len i : ℕ) → c ≡ cell.Object link len → place_from (doc_cells d) 1 (at + 2) i ≡ child_of (doc_cells d) at i
  object_child link len i e = ap (λ (x : Cell). child_in (doc_cells d) at x i) (sym e ∙ is)

  pub array_place_at : (link len i : ℕ) → c ≡ cell.Array link len → i < length (children (doc_tree d at)) → slice_get (places_from (doc_cells d) 0 (at + 1) len) i ≡ Some (child_of (doc_cells d) at i)
  array_place_at link len i e h =
      let count : length (children (doc_tree d at)) ≡ len = ap length (array_children_at link len e) ∙ length-of_places (doc_tree d) (doc_cells d) 0 (at + 1) len in
      get-places (doc_cells d) 0 (at + 1) len i (omega arith) ∙ ap Some (array_child link len i e)

  pub object_place_at : (link len i : ℕ) → c ≡ cell.Object link len → i < length (children (doc_tree d at)) → slice_get (places_from (doc_cells d) 1 (at + 2) len) i ≡ Some (child_of (doc_cells d) at i)
  object_place_at link len i e h =
      let count : length (children (doc_tree d at)) ≡ len = ap length (object_children_at link len e) ∙ length-of_places (doc_tree d) (doc_cells d) 1 (at + 2) len in
      get-places (doc_cells d) 1 (at + 2) len i (omega arith) ∙ ap Some (object_child link len i e)

  -- how many there are
  counted_by : (x : Cell) → c ≡ x → length (children (doc_tree d at)) ≡ cell_len x
  counted_by (cell.Array link n) e = ap length (array_children_at link n e) ∙ length-of_places (doc_tree d) (doc_cells d) 0 (at + 1) n
  counted_by (cell.Object link n) e = ap length (object_children_at link n e) ∙ length-of_places (doc_tree d) (doc_cells d) 1 (at + 2) n
  counted_by _ e = ap length (no_children_at (λ link len f. absurd (cc)) (λ link len f. absurd (cc)))

  pub count_at : length (children (doc_tree d at)) ≡ cell_len c
  count_at = counted_by c refl

-- a key that is a string, by its place
pub key_string : (d : Doc) (k : ℕ) → k < length (doc_cells d) → is_str (get_or (doc_cells d) k cell.Null) ≡ true → doc_tree d k ≡ text (text_of_tree (doc_tree d k))
key_string d k h e = string_there d k (get_or (doc_cells d) k cell.Null) h refl e

-- ---- an iterator's steps

pub still_below : (cells : List Cell) (keys next left : ℕ) → 0 < left → AllBelow cells keys next left → AllBelow cells keys (place_after cells next + keys) (left - 1)
still_below cells keys next left some h i l = h (suc i) (omega arith)

pub still_keys : (cells : List Cell) (next left : ℕ) → 0 < left → AllKeys cells next left → AllKeys cells (place_after cells next + 1) (left - 1)
still_keys cells next left some h i l = h (suc i) (omega arith)

-- the first is given, by its place
pub first_place : {X : Type 0} (f : ℕ → X) (cells : List Cell) (keys next left : ℕ) (x : X) → 0 < left → x ≡ f next → map f (places_from cells keys next left) ≡ x ∷ map f (places_from cells keys (place_after cells next + keys) (left - 1))
first_place {X = X} f cells keys next zero x h e = absurd (omega arith)
first_place {X = X} f cells keys next (suc n) x h e =
    let one : suc n - 1 ≡ n = omega arith in
    ap (λ (y : X). y ∷ map f (places_from cells keys (place_after cells next + keys) n)) (sym e) ∙ ap (λ (k : ℕ). x ∷ map f (places_from cells keys (place_after cells next + keys) k)) (sym one)

pub first_of_places : (cells : List Cell) (keys next left at : ℕ) → 0 < left → at ≡ next → places_from cells keys next left ≡ at ∷ places_from cells keys (place_after cells next + keys) (left - 1)
first_of_places cells keys next zero at h e = absurd (omega arith)
first_of_places cells keys next (suc n) at h e =
    let one : suc n - 1 ≡ n = omega arith in
    ap (λ (y : ℕ). y ∷ places_from cells keys (place_after cells next + keys) n) (sym e) ∙ ap (λ (k : ℕ). at ∷ places_from cells keys (place_after cells next + keys) k) (sym one)
