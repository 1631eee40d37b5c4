-- What a value of a program's own type means, written or read, and the tree of it.
use Rattle.std.specs.Prelude.{◌≡◌, ◌⊎◌, ℕ, ℤ, List, [], ◌∷◌, Bool, Option, Some, None, option_map}
use Rattle.std.specs.Fmt.{signed_decimal}
use Rattle.json_grammar.specs.Grammar.{boolean_bytes}
use Rattle.json_grammar.specs.Tree.{Tree, null, boolean, num, text, list, pairs, Trees, no_trees, tree_and, Pairs, no_pairs, pair_and}

mutual
  -- nothing, a boolean, an integer, a text, a literal that is a number, a list, or rows
  pub data Datum : Type 0 where
    null_datum : Datum
    boolean_datum : Bool → Datum
    integer_datum : ℤ → Datum
    text_datum : List ℕ → Datum
    literal_datum : List ℕ → Datum
    list_datum : Data → Datum
    rows_datum : Rows → Datum

  -- the elements of a list, in their order
  pub data Data : Type 0 where
    no_data : Data
    datum_and : Datum → Data → Data

  -- rows of a key and a value, in their order
  pub data Rows : Type 0 where
    no_rows : Rows
    row_and : Datum → Datum → Rows → Rows

-- a list as elements
abbrev pub list_data : List Datum → Data
list_data [] = no_data
list_data (d ∷ ds) = datum_and d (list_data ds)

-- a list of keys and values as rows
abbrev pub list_rows : List (Datum × Datum) → Rows
list_rows [] = no_rows
list_rows (r ∷ rs) = row_and r.0 r.1 (list_rows rs)

-- the row of a key and a value
abbrev pub row_of : {K V : Type 0} → (K → Datum) → (V → Datum) → K × V → Datum × Datum
row_of f g e = (f e.0, g e.1)

-- null, or what is there
abbrev pub option_datum : {T : Type 0} → (T → Datum) → Option T → Datum
option_datum f None = null_datum
option_datum f (Some x) = f x

-- ---- the tree

-- the text of a key: a text is its own, an integer has its decimal text, a boolean `true` or `false`,
-- and nothing else has one
abbrev pub key_of : Datum → Option (List ℕ)
key_of null_datum = None
key_of (boolean_datum b) = Some (boolean_bytes b)
key_of (integer_datum n) = Some (signed_decimal n)
key_of (text_datum s) = Some s
key_of (literal_datum l) = None
key_of (list_datum ds) = None
key_of (rows_datum rs) = None

-- an element before others, where all are there
abbrev pub element_before : Option Tree → Option Trees → Option Trees
element_before None ts = None
element_before (Some t) ts = option_map (λ us. tree_and t us) ts

-- a member of a name and a tree before others, where all are there
abbrev pub member_before : Option (List ℕ) → Option Tree → Option Pairs → Option Pairs
member_before None t ps = None
member_before (Some k) None ps = None
member_before (Some k) (Some t) ps = option_map (λ qs. pair_and k t qs) ps

abbrev mutual
  -- the tree of a datum, with the keys as their texts; none where some key has no text
  pub tree_of_datum : Datum → Option Tree
  tree_of_datum null_datum = Some null
  tree_of_datum (boolean_datum b) = Some (boolean b)
  tree_of_datum (integer_datum n) = Some (num (signed_decimal n))
  tree_of_datum (text_datum s) = Some (text s)
  tree_of_datum (literal_datum l) = Some (num l)
  tree_of_datum (list_datum ds) = option_map list (trees_of ds)
  tree_of_datum (rows_datum rs) = option_map pairs (pairs_of rs)

  pub trees_of : Data → Option Trees
  trees_of no_data = Some no_trees
  trees_of (datum_and d ds) = element_before (tree_of_datum d) (trees_of ds)

  pub pairs_of : Rows → Option Pairs
  pairs_of no_rows = Some no_pairs
  pairs_of (row_and k d rs) = member_before (key_of k) (tree_of_datum d) (pairs_of rs)

-- some key in the datum has no text
abbrev mutual
  pub HasBareKey : Datum → Type 0
  HasBareKey null_datum = ⊥
  HasBareKey (boolean_datum b) = ⊥
  HasBareKey (integer_datum n) = ⊥
  HasBareKey (text_datum s) = ⊥
  HasBareKey (literal_datum l) = ⊥
  HasBareKey (list_datum ds) = DataHaveBareKey ds
  HasBareKey (rows_datum rs) = RowsHaveBareKey rs

  pub DataHaveBareKey : Data → Type 0
  DataHaveBareKey no_data = ⊥
  DataHaveBareKey (datum_and d ds) = HasBareKey d ⊎ DataHaveBareKey ds

  pub RowsHaveBareKey : Rows → Type 0
  RowsHaveBareKey no_rows = ⊥
  RowsHaveBareKey (row_and k d rs) = (key_of k ≡ None) ⊎ (HasBareKey d ⊎ RowsHaveBareKey rs)
