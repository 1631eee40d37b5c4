-- Members in the order of their keys, by an index and by insertion.
use Rattle.std.proofs.Common.{◌≡◌, ℕ, zero, suc, ◌+◌, ◌<◌, ◌≤◌, List, [], ◌∷◌, Bool, true, false, cond, Some, length, map, drop, get_or, refl, sym, ap, subst, ◌∙◌, arith, inl, inr}
use Rattle.std.specs.Prelude.{slice_get}
use Rattle.std.proofs.lemmas.List.{get_or-map, get_or_past, get_or_default, length-map}
use Rattle.json_grammar.specs.Tree.{Tree, null, tree_and, pair_and, list_trees, list_pairs}
use Rattle.json_grammar.specs.Sizes.{nodes, pairs_nodes}
use Rattle.json_model.specs.Sort.{bytes_less, pair_in, sorted, trees_sorted, pairs_sorted, NeverFall}
use Rattle.json_doc.specs.Docs.{doc_cells, doc_text, doc_tree}
use Rattle.json_doc.specs.Left.{doc_pair}
use Rattle.json_doc.specs.Places.{place_after, places_from, AllBelow}
use Rattle.json_doc.specs.Trees.{text_of_tree, trees_from}
use Rattle.json_doc.specs.declared.cell.Cell.{Cell}
use Rattle.json_doc.specs.declared.doc.Doc.{Doc}
use Rattle.json_doc.proofs.Trees.{step_ahead}
use Rattle.json_print.specs.Orders.{NumberedKey, IsMember, Rise, numbered_in, inserted_pairs}
use Rattle.json_print.proofs.Orders.{in_from, all_in}
use Rattle.json_doc_print.specs.KeyOrder.{key_and_number, IsKeyOrder, key_before}

-- ---- the members in that order

-- the member of a number
abbrev pub paired : (ℕ → List ℕ) → (ℕ → Tree) → ℕ → List ℕ × Tree
paired key tree n = (key n, tree n)

abbrev member : (ℕ → Tree) → NumberedKey → List ℕ × Tree
member tree x = (x.0, tree x.1)

pair_inserted : (tree : ℕ → Tree) (x : NumberedKey) (ys : List NumberedKey) → list_pairs (map (member tree) (numbered_in x ys)) ≡ pair_in x.0 (tree x.1) (list_pairs (map (member tree) ys))
pair_inserted tree x [] = refl
pair_inserted tree x (y ∷ ys) = go (bytes_less y.0 x.0) (pair_inserted tree x ys)
  where
    go : (b : Bool) → list_pairs (map (member tree) (numbered_in x ys)) ≡ pair_in x.0 (tree x.1) (list_pairs (map (member tree) ys))
        → list_pairs (map (member tree) (cond b (y ∷ numbered_in x ys) (x ∷ y ∷ ys)))
        ≡ cond b (pair_and y.0 (tree y.1) (pair_in x.0 (tree x.1) (list_pairs (map (member tree) ys)))) (pair_and x.0 (tree x.1) (pair_and y.0 (tree y.1) (list_pairs (map (member tree) ys))))
    go true ih = ap (pair_and y.0 (tree y.1)) ih
    go false ih = refl

all_inserted : (tree : ℕ → Tree) (xs : List NumberedKey) → list_pairs (map (member (λ n. sorted (tree n))) (inserted_pairs xs)) ≡ pairs_sorted (list_pairs (map (member tree) xs))
all_inserted tree [] = refl
all_inserted tree (x ∷ xs) = pair_inserted (λ n. sorted (tree n)) x (inserted_pairs xs) ∙ ap (pair_in x.0 (sorted (tree x.1))) (all_inserted tree xs)

map_keyed : (key : ℕ → List ℕ) (tree : ℕ → Tree) (ns : List ℕ) → map (member tree) (map (key_and_number key) ns) ≡ map (paired key tree) ns
map_keyed key tree [] = refl
map_keyed key tree (n ∷ ns) = ap (λ xs. paired key tree n ∷ xs) (map_keyed key tree ns)

-- the value of each number, sorted
abbrev pub sorted_at : (ℕ → Tree) → ℕ → Tree
sorted_at tree n = sorted (tree n)

pub in_order : (key : ℕ → List ℕ) (tree : ℕ → Tree) (ns order : List ℕ) → IsKeyOrder key ns order → list_pairs (map (paired key (sorted_at tree)) order) ≡ pairs_sorted (list_pairs (map (paired key tree) ns))
in_order key tree ns order e =
    ap list_pairs (sym (map_keyed key (sorted_at tree) order) ∙ ap (map (member (sorted_at tree))) e) ∙ all_inserted tree (map (key_and_number key) ns) ∙ ap (λ xs. pairs_sorted (list_pairs xs)) (map_keyed key tree ns)

in_keyed : (key : ℕ → List ℕ) (ns : List ℕ) (z : NumberedKey) → IsMember z (map (key_and_number key) ns) → IsMember z.1 ns
in_keyed key [] z h = absurd h
in_keyed key (n ∷ ns) z (inl e) = inl (ap (λ (x : NumberedKey). x.1) e)
in_keyed key (n ∷ ns) z (inr h) = inr (in_keyed key ns z h)

-- each number of the order is one of the numbers
pub number_in : (key : ℕ → List ℕ) (ns order : List ℕ) → IsKeyOrder key ns order → (i n : ℕ) → i < length order → n ≡ get_or order i n → IsMember n ns
number_in key ns order e i n l g =
    let at : get_or (map (key_and_number key) order) i (key_and_number key n) ≡ key_and_number key n = get_or-map (key_and_number key) order i n (key_and_number key n) l ∙ ap (key_and_number key) (sym g) in
    let there = in_from (map (key_and_number key) order) (key_and_number key n) i (omega (arith, l, length-map order (key_and_number key))) at in
    in_keyed key ns (key_and_number key n) (all_in (key_and_number key n) (map (key_and_number key) ns) (subst (IsMember (key_and_number key n)) e there))

-- no value has more nodes than all
pub value_in : (key : ℕ → List ℕ) (tree : ℕ → Tree) (ns : List ℕ) (n : ℕ) → IsMember n ns → nodes (tree n) ≤ pairs_nodes (list_pairs (map (paired key tree) ns))
value_in key tree [] n h = absurd h
value_in key tree (m ∷ ns) n (inl e) = omega (arith, ap (λ k. nodes (tree k)) e)
value_in key tree (m ∷ ns) n (inr h) = omega (arith, value_in key tree ns n h)

-- ---- keys that never fall

abbrev pub sorted_pair : List ℕ × Tree → List ℕ × Tree
sorted_pair p = (p.0, sorted p.1)

pub in_place : (ps : List (List ℕ × Tree)) → NeverFall (list_pairs ps) → list_pairs (map sorted_pair ps) ≡ pairs_sorted (list_pairs ps)
in_place [] h = refl
in_place (p ∷ []) h = refl
in_place (p ∷ q ∷ ps) h =
    let rest = list_pairs (map sorted_pair ps) in
    ap (λ b. cond b (pair_and q.0 (sorted q.1) (pair_in p.0 (sorted p.1) rest)) (pair_and p.0 (sorted p.1) (pair_and q.0 (sorted q.1) rest))) (sym h.0)
    ∙ ap (pair_in p.0 (sorted p.1)) (in_place (q ∷ ps) h.1)

-- ... nor the first below one before them
abbrev pub NoneFalls : List ℕ → List (List ℕ × Tree) → Type 0
NoneFalls k [] = Unit {0}
NoneFalls k (p ∷ ps) = (bytes_less p.0 k ≡ false) × NoneFalls p.0 ps

never_fall : (k : List ℕ) (ps : List (List ℕ × Tree)) → NoneFalls k ps → NeverFall (list_pairs ps)
never_fall k [] h = tt
never_fall k (p ∷ []) h = tt
never_fall k (p ∷ q ∷ ps) h = (h.1.0, never_fall p.0 (q ∷ ps) h.1)

pub none_fell : (ps : List (List ℕ × Tree)) → NoneFalls [] ps → NeverFall (list_pairs ps)
none_fell ps h = never_fall [] ps h

-- a list from a place on
pub left_at : {X : Type 0} (xs : List X) (i : ℕ) (x : X) → slice_get xs i ≡ Some x → drop i xs ≡ x ∷ drop (i + 1) xs
left_at {X} xs i x e = go xs i e ∙ ap (λ j. x ∷ drop j xs) (let next : suc i ≡ i + 1 = omega arith in next)
  where
    go : (ys : List X) (j : ℕ) → slice_get ys j ≡ Some x → drop j ys ≡ x ∷ drop (suc j) ys
    go [] j h = absurd (cc)
    go (y ∷ ys) zero h = let same : y ≡ x = cc in ap (λ z. z ∷ ys) same
    go (y ∷ ys) (suc j) h = go ys j h

-- ---- the elements of an array

pub elements_sorted : (ts : List Tree) → list_trees (map sorted ts) ≡ trees_sorted (list_trees ts)
elements_sorted [] = refl
elements_sorted (t ∷ ts) = ap (tree_and (sorted t)) (elements_sorted ts)

-- ---- the places of a document

trees_length : (cells : List Cell) (bytes : List ℕ) (at : ℕ) (cs : List Cell) → length (trees_from cells bytes at cs) ≡ length cs
unfolding trees_from
trees_length cells bytes at [] = refl
trees_length cells bytes at (c ∷ cs) = ap suc (trees_length cells bytes (at + 1) cs)

-- past the last cell there is no key
pub no_key : (d : Doc) (at : ℕ) → length (doc_cells d) ≤ at → text_of_tree (doc_tree d at) ≡ []
no_key d at l = ap text_of_tree (get_or_past (trees_from (doc_cells d) (doc_text d) 0 (doc_cells d)) at null (omega (arith, l, trees_length (doc_cells d) (doc_text d) 0 (doc_cells d))))

up_to : (cells : List Cell) (key : ℕ → List ℕ) (keys at n m : ℕ) → m ≤ at → ((k : ℕ) → k < place_after cells k) → (z : NumberedKey) → IsMember z (map (key_and_number key) (places_from cells keys at n)) → m ≤ z.1
up_to cells key keys at zero m l up z h = absurd h
up_to cells key keys at (suc n) m l up z (inl e) = omega (arith, l, ap (λ (x : NumberedKey). x.1) e)
up_to cells key keys at (suc n) m l up z (inr h) = up_to cells key keys (place_after cells at + keys) n m (omega (arith, l, up at)) up z h

places_rise : (cells : List Cell) (key : ℕ → List ℕ) (keys at n : ℕ) → ((k : ℕ) → k < place_after cells k) → Rise (map (key_and_number key) (places_from cells keys at n))
places_rise cells key keys at zero up = tt
places_rise cells key keys at (suc n) up =
    let next = place_after cells at + keys in
    (λ z h. let more : suc at ≤ z.1 = up_to cells key keys next n (suc at) (omega (arith, up at)) up z h in omega (arith, more), places_rise cells key keys next n up)

pub rise_in_doc : (d : Doc) (key : ℕ → List ℕ) (keys at n : ℕ) → Rise (map (key_and_number key) (places_from (doc_cells d) keys at n))
rise_in_doc d key keys at n = places_rise (doc_cells d) key keys at n (λ k. step_ahead (doc_cells d) (doc_text d) k d.in_place)

pub place_below : (cells : List Cell) (keys at n p : ℕ) → AllBelow cells keys at n → IsMember p (places_from cells keys at n) → p < length cells
place_below cells keys at zero p b h = absurd h
place_below cells keys at (suc n) p b (inl e) = omega (arith, e, b 0 (omega arith))
place_below cells keys at (suc n) p b (inr h) = place_below cells keys (place_after cells at + keys) n p (λ i l. b (suc i) (omega (arith, l))) h

-- an index of a document's members
module _ (d e : Doc) (places ns : List ℕ) (same : e ≡ d) (is : IsKeyOrder (key_before d) places ns) where
  pub places_sorted : list_pairs (map (paired (key_before d) (sorted_at (doc_tree d))) ns) ≡ pairs_sorted (list_pairs (map (doc_pair e) places))
  places_sorted = in_order (key_before d) (doc_tree d) places ns is ∙ ap (λ x. pairs_sorted (list_pairs (map (doc_pair x) places))) (sym same)

  pub place_in : (i : ℕ) → i < length ns → IsMember (get_or ns i 0) places
  place_in i l = number_in (key_before d) places ns is i (get_or ns i 0) l (get_or_default ns i 0 (get_or ns i 0) l)

  pub place_value : (i : ℕ) → i < length ns → nodes (doc_tree d (get_or ns i 0)) ≤ pairs_nodes (list_pairs (map (doc_pair e) places))
  place_value i l = subst (λ x. nodes (doc_tree d (get_or ns i 0)) ≤ pairs_nodes (list_pairs (map (doc_pair x) places))) (sym same) (value_in (key_before d) (doc_tree d) places (get_or ns i 0) (place_in i l))
