-- Rows of a map, one pair after another.
use Rattle.std.proofs.Common.{◌≡◌, ◌∙◌, ℕ, List, [], ◌∷◌, map, refl, ap}
use Rattle.std.specs.declared.cmp.Ordering.{Ordering}
use Rattle.std.specs.declared.cmp.Ordering.TheVariants.{Less, Equal, Greater}
use Rattle.std.specs.Ordering.{match_ordering}
use Rattle.std.specs.BTreeMap.{insert_entry}
use Rattle.json_grammar.specs.Tree.{Tree, Pairs, no_pairs, pair_and}
use Rattle.json_model.specs.Datum.{Datum, rows_datum, Rows, no_rows, row_and, list_rows, row_of}
use Rattle.json_io.specs.declared.error.ErrorCode.{ErrorCode}
use Rattle.json_data.specs.Reading.{Reading, gives, refuses, key_cmp, insert_row, row_step, rows_from}
use Rattle.json_data.proofs.Pairs.{join_pairs}

-- the rows of a map's entries
abbrev pub rows_of : {K V : Type 0} → (K → Datum) → (V → Datum) → List (K × V) → Rows
rows_of f h es = list_rows (map (row_of f h) es)

step_join : (a b : Reading) (k l : Rows → Reading) (rs es : Rows) (x : Reading) → row_step a b k rs ≡ gives (rows_datum es)
    → ((r : Rows) → k r ≡ gives (rows_datum es) → l r ≡ x) → row_step a b l rs ≡ x
step_join (refuses c) b k l rs es x e h = absurd (cc)
step_join (gives d) (refuses c) k l rs es x e h = absurd (cc)
step_join (gives d) (gives v) k l rs es x e h = h (insert_row d v rs) e

pub rows-join : (f : List ℕ → Reading) (h : Tree → Reading) (ps qs : Pairs) (rs es : Rows) → rows_from f h rs ps ≡ gives (rows_datum es) → rows_from f h rs (join_pairs ps qs) ≡ rows_from f h es qs
rows-join f h no_pairs qs rs es e = let i : rs ≡ es = cc in ap (λ (r : Rows). rows_from f h r qs) i
rows-join f h (pair_and k t ps) qs rs es e =
    step_join (f k) (h t) (λ r. rows_from f h r ps) (λ r. rows_from f h r (join_pairs ps qs)) rs es (rows_from f h es qs) e (λ r i. rows-join f h ps qs r es i)

pub rows-more : (f : List ℕ → Reading) (h : Tree → Reading) (ps : Pairs) (k : List ℕ) (t : Tree) (d v : Datum) (es : Rows)
    → rows_from f h no_rows ps ≡ gives (rows_datum es) → f k ≡ gives d → h t ≡ gives v → rows_from f h no_rows (join_pairs ps (pair_and k t no_pairs)) ≡ gives (rows_datum (insert_row d v es))
rows-more f h ps k t d v es e i j = rows-join f h ps (pair_and k t no_pairs) no_rows es e ∙ rw (i, j)

pub rows-stop_key : (f : List ℕ → Reading) (h : Tree → Reading) (ps : Pairs) (k : List ℕ) (t : Tree) (qs : Pairs) (c : ErrorCode) (es : Rows)
    → rows_from f h no_rows ps ≡ gives (rows_datum es) → f k ≡ refuses c → rows_from f h no_rows (join_pairs ps (pair_and k t qs)) ≡ refuses c
rows-stop_key f h ps k t qs c es e i = rows-join f h ps (pair_and k t qs) no_rows es e ∙ rw i

pub rows-stop_value : (f : List ℕ → Reading) (h : Tree → Reading) (ps : Pairs) (k : List ℕ) (t : Tree) (qs : Pairs) (d : Datum) (c : ErrorCode) (es : Rows)
    → rows_from f h no_rows ps ≡ gives (rows_datum es) → f k ≡ gives d → h t ≡ refuses c → rows_from f h no_rows (join_pairs ps (pair_and k t qs)) ≡ refuses c
rows-stop_value f h ps k t qs d c es e i j = rows-join f h ps (pair_and k t qs) no_rows es e ∙ rw (i, j)

chosen : {r q : Ordering} (x y z : Rows) → r ≡ q → match_ordering r x y z ≡ match_ordering q x y z
chosen x y z i = ap (λ (o : Ordering). match_ordering o x y z) i

-- the key is one of a text
abbrev pub OfText : {K : Type 0} → (List ℕ → Reading) → (K → Datum) → K → Type 0
OfText t f k = (s : List ℕ) × (t s ≡ gives (f k))

-- and so is each key of the entries
abbrev pub OfTexts : {K V : Type 0} → (List ℕ → Reading) → (K → Datum) → List (K × V) → Type 0
OfTexts t f [] = Unit {0}
OfTexts t f (e ∷ es) = OfText t f e.0 × OfTexts t f es

-- keys of texts are ordered by what they mean
abbrev pub Orders : {K : Type 0} → (K → K → Ordering) → (List ℕ → Reading) → (K → Datum) → Type 0
Orders {K} cmp t f = (a b : K) (s r : List ℕ) → t s ≡ gives (f a) → t r ≡ gives (f b) → cmp a b ≡ key_cmp (f a) (f b)

pub put-texts : {K V : Type 0} (cmp : K → K → Ordering) (t : List ℕ → Reading) (f : K → Datum) (es : List (K × V)) (k : K) (v : V) → OfText t f k → OfTexts t f es → OfTexts t f (insert_entry cmp es k v)
put-texts cmp t f [] k v h i = (h, tt)
put-texts {K} {V} cmp t f (e ∷ es) k v h i = by (cmp k e.0) (put-texts cmp t f es k v h i.1)
  where
    by : (r : Ordering) → OfTexts t f (insert_entry cmp es k v) → OfTexts t f (match_ordering r ((k, v) ∷ e ∷ es) ((e.0, v) ∷ es) (e ∷ insert_entry cmp es k v))
    by Less j = (h, i)
    by Equal j = i
    by Greater j = (i.0, j)

-- what a map does with an entry is what the rows do
pub rows-put : {K V : Type 0} (cmp : K → K → Ordering) (t : List ℕ → Reading) (f : K → Datum) (h : V → Datum) → Orders cmp t f → (es : List (K × V)) (k : K) (v : V) → OfText t f k → OfTexts t f es
    → rows_of f h (insert_entry cmp es k v) ≡ insert_row (f k) (h v) (rows_of f h es)
rows-put cmp t f h o [] k v x y = refl
rows-put cmp t f h o (e ∷ es) k v x y = by (cmp k e.0) (o k e.0 x.0 y.0.0 x.1 y.0.1) (rows-put cmp t f h o es k v x y.1)
  where
    by : (r : Ordering) → r ≡ key_cmp (f k) (f e.0) → rows_of f h (insert_entry cmp es k v) ≡ insert_row (f k) (h v) (rows_of f h es)
        → rows_of f h (match_ordering r ((k, v) ∷ e ∷ es) ((e.0, v) ∷ es) (e ∷ insert_entry cmp es k v)) ≡ insert_row (f k) (h v) (row_and (f e.0) (h e.1) (rows_of f h es))
    by Less i j = chosen (row_and (f k) (h v) (row_and (f e.0) (h e.1) (rows_of f h es))) (row_and (f e.0) (h v) (rows_of f h es)) (row_and (f e.0) (h e.1) (insert_row (f k) (h v) (rows_of f h es))) i
    by Equal i j = chosen (row_and (f k) (h v) (row_and (f e.0) (h e.1) (rows_of f h es))) (row_and (f e.0) (h v) (rows_of f h es)) (row_and (f e.0) (h e.1) (insert_row (f k) (h v) (rows_of f h es))) i
    by Greater i j = ap (λ (rs : Rows). row_and (f e.0) (h e.1) rs) j ∙ chosen (row_and (f k) (h v) (row_and (f e.0) (h e.1) (rows_of f h es))) (row_and (f e.0) (h v) (rows_of f h es)) (row_and (f e.0) (h e.1) (insert_row (f k) (h v) (rows_of f h es))) i
