-- The tree of a datum: where there is none, and that what is in it keeps its order.
use Rattle.std.proofs.Common.{◌≡◌, ℕ, List, [], ◌∷◌, map, ◌⊎◌, inl, inr, Option, Some, None, option_map, refl, sym, ap, ap₂, ◌∙◌}
use Rattle.json_grammar.specs.Tree.{Tree, list, pairs, Trees, tree_and, list_trees, Pairs, pair_and, list_pairs}
use Rattle.json_model.specs.Datum.{Datum, null_datum, boolean_datum, integer_datum, text_datum, literal_datum, list_datum, rows_datum, Data, no_data, datum_and, list_data, Rows, no_rows, row_and, list_rows, key_of, element_before, member_before, tree_of_datum, trees_of, pairs_of, HasBareKey, DataHaveBareKey, RowsHaveBareKey}

-- ---- where there is none

list_missing : (o : Option Trees) → option_map list o ≡ None → o ≡ None
list_missing None e = refl
list_missing (Some ts) e = absurd (cc)

pairs_missing : (o : Option Pairs) → option_map pairs o ≡ None → o ≡ None
pairs_missing None e = refl
pairs_missing (Some ps) e = absurd (cc)

element_missing : (a : Option Tree) (b : Option Trees)
    → element_before a b ≡ None
    → (a ≡ None) ⊎ (b ≡ None)
element_missing None b e = inl refl
element_missing (Some t) None e = inr refl
element_missing (Some t) (Some ts) e = absurd (cc)

missing_element : (a : Option Tree) (b : Option Trees)
    → (a ≡ None) ⊎ (b ≡ None)
    → element_before a b ≡ None
missing_element None b h = refl
missing_element (Some t) None h = refl
missing_element (Some t) (Some ts) (inl e) = absurd (cc)
missing_element (Some t) (Some ts) (inr e) = absurd (cc)

member_missing : (k : Option (List ℕ)) (a : Option Tree) (b : Option Pairs)
    → member_before k a b ≡ None
    → (k ≡ None) ⊎ ((a ≡ None) ⊎ (b ≡ None))
member_missing None a b e = inl refl
member_missing (Some k) None b e = inr (inl refl)
member_missing (Some k) (Some t) None e = inr (inr refl)
member_missing (Some k) (Some t) (Some ps) e = absurd (cc)

missing_member : (k : Option (List ℕ)) (a : Option Tree) (b : Option Pairs)
    → (k ≡ None) ⊎ ((a ≡ None) ⊎ (b ≡ None))
    → member_before k a b ≡ None
missing_member None a b h = refl
missing_member (Some k) None b h = refl
missing_member (Some k) (Some t) None h = refl
missing_member (Some k) (Some t) (Some ps) (inl e) = absurd (cc)
missing_member (Some k) (Some t) (Some ps) (inr (inl e)) = absurd (cc)
missing_member (Some k) (Some t) (Some ps) (inr (inr e)) = absurd (cc)

mutual
  pub no_tree : (d : Datum) → tree_of_datum d ≡ None → HasBareKey d
  no_tree null_datum e = cc
  no_tree (boolean_datum b) e = cc
  no_tree (integer_datum n) e = cc
  no_tree (text_datum s) e = cc
  no_tree (literal_datum l) e = cc
  no_tree (list_datum ds) e = none_of_data ds (list_missing (trees_of ds) e)
  no_tree (rows_datum rs) e = none_of_rows rs (pairs_missing (pairs_of rs) e)

  none_of_data : (ds : Data) → trees_of ds ≡ None → DataHaveBareKey ds
  none_of_data no_data e = cc
  none_of_data (datum_and d ds) e = elim (element_missing (tree_of_datum d) (trees_of ds) e) [
    | inl g ↦ inl (no_tree d g)
    | inr g ↦ inr (none_of_data ds g)
  ]

  none_of_rows : (rs : Rows) → pairs_of rs ≡ None → RowsHaveBareKey rs
  none_of_rows no_rows e = cc
  none_of_rows (row_and k d rs) e = elim (member_missing (key_of k) (tree_of_datum d) (pairs_of rs) e) [
    | inl g ↦ inl g
    | inr g ↦ inr (elim g [ inl i ↦ inl (no_tree d i) | inr i ↦ inr (none_of_rows rs i) ])
  ]

mutual
  pub bare_key : (d : Datum) → HasBareKey d → tree_of_datum d ≡ None
  bare_key null_datum h = absurd h
  bare_key (boolean_datum b) h = absurd h
  bare_key (integer_datum n) h = absurd h
  bare_key (text_datum s) h = absurd h
  bare_key (literal_datum l) h = absurd h
  bare_key (list_datum ds) h = ap (λ (o : Option Trees). option_map list o) (bare_data ds h)
  bare_key (rows_datum rs) h = ap (λ (o : Option Pairs). option_map pairs o) (bare_rows rs h)

  bare_data : (ds : Data) → DataHaveBareKey ds → trees_of ds ≡ None
  bare_data no_data h = absurd h
  bare_data (datum_and d ds) (inl h) = missing_element (tree_of_datum d) (trees_of ds) (inl (bare_key d h))
  bare_data (datum_and d ds) (inr h) = missing_element (tree_of_datum d) (trees_of ds) (inr (bare_data ds h))

  bare_rows : (rs : Rows) → RowsHaveBareKey rs → pairs_of rs ≡ None
  bare_rows no_rows h = absurd h
  bare_rows (row_and k d rs) (inl h) = missing_member (key_of k) (tree_of_datum d) (pairs_of rs) (inl h)
  bare_rows (row_and k d rs) (inr (inl h)) = missing_member (key_of k) (tree_of_datum d) (pairs_of rs) (inr (inl (bare_key d h)))
  bare_rows (row_and k d rs) (inr (inr h)) = missing_member (key_of k) (tree_of_datum d) (pairs_of rs) (inr (inr (bare_rows rs h)))

-- ---- in their order

inside : {A : Type 0} {a b : A} → Some a ≡ Some b → a ≡ b
inside e = cc

-- the trees of some elements
record Elements (ds : List Datum) (us : Trees) : Type 0 where
  ts : List Tree
  are : us ≡ list_trees ts
  each : map tree_of_datum ds ≡ map (λ (t : Tree). Some t) ts

elements : (ds : List Datum) (us : Trees) → trees_of (list_data ds) ≡ Some us → Elements ds us
elements [] us e = record { ts = []; are = sym (inside e); each = refl }
elements (d ∷ ds) us e = by (tree_of_datum d) (trees_of (list_data ds)) refl refl e (λ vs h. elements ds vs h)
  where
    by : (a : Option Tree) (b : Option Trees)
        → tree_of_datum d ≡ a
        → trees_of (list_data ds) ≡ b
        → element_before a b ≡ Some us
        → ((vs : Trees) → trees_of (list_data ds) ≡ Some vs → Elements ds vs)
        → Elements (d ∷ ds) us
    by None b f g h rest = absurd (cc)
    by (Some t) None f g h rest = absurd (cc)
    by (Some t) (Some vs) f g h rest =
        let r = rest vs g in
        record {
          ts = t ∷ r.ts;
          are = sym (inside h) ∙ ap (λ ws. tree_and t ws) r.are;
          each = ap₂ (λ x xs. x ∷ xs) f r.each;
        }

list_inside : (o : Option Trees) (t : Tree)
    → option_map list o ≡ Some t
    → (us : Trees) × (o ≡ Some us) × (t ≡ list us)
list_inside None t e = absurd (cc)
list_inside (Some us) t e = (us, refl, sym (inside e))

pub elements_in_order : (ds : List Datum) (t : Tree)
    → tree_of_datum (list_datum (list_data ds)) ≡ Some t
    → (ts : List Tree) × (t ≡ list (list_trees ts)) × (map tree_of_datum ds ≡ map (λ (u : Tree). Some u) ts)
elements_in_order ds t e =
    let o = list_inside (trees_of (list_data ds)) t e in
    let r = elements ds o.0 o.1 in
    (r.ts, o.2 ∙ ap (λ us. list us) r.are, r.each)

-- the members of some rows
record Members (rows : List (Datum × Datum)) (us : Pairs) : Type 0 where
  ms : List (List ℕ × Tree)
  are : us ≡ list_pairs ms
  keys : map (λ (r : Datum × Datum). key_of r.0) rows ≡ map (λ (m : List ℕ × Tree). Some m.0) ms
  values : map (λ (r : Datum × Datum). tree_of_datum r.1) rows ≡ map (λ (m : List ℕ × Tree). Some m.1) ms

members : (rows : List (Datum × Datum)) (us : Pairs)
    → pairs_of (list_rows rows) ≡ Some us
    → Members rows us
members [] us e = record { ms = []; are = sym (inside e); keys = refl; values = refl }
members (r ∷ rows) us e = by (key_of r.0) (tree_of_datum r.1) (pairs_of (list_rows rows)) refl refl refl e (λ vs h. members rows vs h)
  where
    by : (k : Option (List ℕ)) (a : Option Tree) (b : Option Pairs)
        → key_of r.0 ≡ k
        → tree_of_datum r.1 ≡ a
        → pairs_of (list_rows rows) ≡ b
        → member_before k a b ≡ Some us
        → ((vs : Pairs) → pairs_of (list_rows rows) ≡ Some vs → Members rows vs)
        → Members (r ∷ rows) us
    by None a b d f g h rest = absurd (cc)
    by (Some k) None b d f g h rest = absurd (cc)
    by (Some k) (Some t) None d f g h rest = absurd (cc)
    by (Some k) (Some t) (Some vs) d f g h rest =
        let m = rest vs g in
        record {
          ms = (k, t) ∷ m.ms;
          are = sym (inside h) ∙ ap (λ ws. pair_and k t ws) m.are;
          keys = ap₂ (λ x xs. x ∷ xs) d m.keys;
          values = ap₂ (λ x xs. x ∷ xs) f m.values;
        }

pairs_inside : (o : Option Pairs) (t : Tree)
    → option_map pairs o ≡ Some t
    → (us : Pairs) × (o ≡ Some us) × (t ≡ pairs us)
pairs_inside None t e = absurd (cc)
pairs_inside (Some us) t e = (us, refl, sym (inside e))

pub rows_in_order : (rows : List (Datum × Datum)) (t : Tree)
    → tree_of_datum (rows_datum (list_rows rows)) ≡ Some t
    → (ms : List (List ℕ × Tree))
    × (t ≡ pairs (list_pairs ms))
    × (map (λ (r : Datum × Datum). key_of r.0) rows ≡ map (λ (m : List ℕ × Tree). Some m.0) ms)
    × (map (λ (r : Datum × Datum). tree_of_datum r.1) rows ≡ map (λ (m : List ℕ × Tree). Some m.1) ms)
rows_in_order rows t e =
    let o = pairs_inside (pairs_of (list_rows rows)) t e in
    let m = members rows o.0 o.1 in
    (m.ms, o.2 ∙ ap (λ us. pairs us) m.are, m.keys, m.values)
