-- A type refuses a tree exactly where it says where.
use Rattle.std.proofs.Common.{refl, ℕ, suc, List, [], ◌∷◌, Option, Some, None}
use Rattle.json_grammar.specs.Tree.{Tree, null, boolean, num, text, list, pairs, Trees, no_trees, tree_and, Pairs, no_pairs, pair_and}
use Rattle.json_model.specs.Datum.{Rows, no_rows}
use Rattle.json_data.specs.Reading.{Reading, gives, refuses, Series, gives_all, stops, prepend_reading, as_list, each, row_step, rows_from, insert_row}
use Rattle.json_data.specs.Tuples.{elements_by}
use Rattle.json_explain.specs.Laws.{Agrees, Explained, AllExplained, WholeExplained, OptionExplained, ListExplained, TupleExplained, MapExplained}
use Rattle.json_explain.specs.Refused.{Refused, RefusedStep, element_step, member_step, map_reading, reading_refused, refused_by_name, refused_first, part_refused, elements_refused, elements_refused_by, members_refused}
use Rattle.json_explain.specs.declared.refusal.Wanted.{Wanted}

at_reading : (r : Reading) (w : Wanted) (t : Tree) → Agrees r (reading_refused r w t)
at_reading (gives d) w t = tt
at_reading (refuses c) w t = refl

pub whole_explained : WholeExplained
whole_explained f w t = at_reading (f t) w t

pub option_explained : OptionExplained
option_explained f r h null = tt
option_explained f r h (boolean b) = h (boolean b)
option_explained f r h (num l) = h (num l)
option_explained f r h (text s) = h (text s)
option_explained f r h (list ts) = h (list ts)
option_explained f r h (pairs ps) = h (pairs ps)

one_more : (x : Reading) (y : Option Refused) (s : Series) (o : Option Refused) (p : RefusedStep) → Agrees x y → Agrees (as_list s) o → Agrees (as_list (prepend_reading x s)) (refused_first (part_refused p y) o)
one_more (gives d) None (gives_all ds) None p h k = tt
one_more (gives d) None (gives_all ds) (Some r) p h k = absurd k
one_more (gives d) None (stops c) None p h k = absurd k
one_more (gives d) None (stops c) (Some r) p h k = k
one_more (gives d) (Some r) s o p h k = absurd h
one_more (refuses c) None s o p h k = absurd h
one_more (refuses c) (Some r) s o p h k = h

each_explained : (f : Tree → Reading) (r : Tree → Option Refused) → Explained f r → (i : ℕ) (ts : Trees) → Agrees (as_list (each f ts)) (elements_refused r i ts)
each_explained f r h i no_trees = tt
each_explained f r h i (tree_and t ts) = one_more (f t) (r t) (each f ts) (elements_refused r (suc i) ts) (element_step i) (h t) (each_explained f r h (suc i) ts)

pub list_explained : ListExplained
list_explained f r h null = refl
list_explained f r h (boolean b) = refl
list_explained f r h (num l) = refl
list_explained f r h (text s) = refl
list_explained f r h (list ts) = each_explained f r h 0 ts
list_explained f r h (pairs ps) = refl

by_explained : (w : Wanted) (fs : List (Tree → Reading)) (rs : List (Tree → Option Refused)) → AllExplained fs rs → (i : ℕ) (ts : Trees)
    → Agrees (as_list (elements_by fs ts)) (elements_refused_by w rs i ts)
by_explained w [] [] h i no_trees = tt
by_explained w [] [] h i (tree_and t ts) = refl
by_explained w (f ∷ fs) (r ∷ rs) h i no_trees = refl
by_explained w (f ∷ fs) (r ∷ rs) h i (tree_and t ts) =
    one_more (f t) (r t) (elements_by fs ts) (elements_refused_by w rs (suc i) ts) (element_step i) (h.0 t) (by_explained w fs rs h.1 (suc i) ts)
by_explained w [] (r ∷ rs) h i ts = absurd h
by_explained w (f ∷ fs) [] h i ts = absurd h

pub tuple_explained : TupleExplained
tuple_explained w fs rs h null = refl
tuple_explained w fs rs h (boolean b) = refl
tuple_explained w fs rs h (num l) = refl
tuple_explained w fs rs h (text b) = refl
tuple_explained w fs rs h (list ts) = by_explained w fs rs h 0 ts
tuple_explained w fs rs h (pairs ps) = refl

row_more : (x y : Reading) (t : Tree) (z : Option Refused) (g : Rows → Reading) (rs : Rows) (o : Option Refused) (p : RefusedStep) → Agrees y z → ((qs : Rows) → Agrees (g qs) o)
    → Agrees (row_step x y g rs) (refused_first (part_refused p (refused_first (refused_by_name x t) z)) o)
row_more (refuses c) y t z g rs o p h k = refl
row_more (gives d) (refuses c) t None g rs o p h k = absurd h
row_more (gives d) (refuses c) t (Some r) g rs o p h k = h
row_more (gives d) (gives v) t None g rs o p h k = k (insert_row d v rs)
row_more (gives d) (gives v) t (Some r) g rs o p h k = absurd h

rows_explained : (k : List ℕ → Reading) (f : Tree → Reading) (r : Tree → Option Refused) → Explained f r → (ps : Pairs) (i : ℕ) (rs : Rows) → Agrees (rows_from k f rs ps) (members_refused (map_reading k r) i [] ps)
rows_explained k f r h no_pairs i rs = tt
rows_explained k f r h (pair_and n t ps) i rs =
    row_more (k n) (f t) t (r t) (λ qs. rows_from k f qs ps) rs (members_refused (map_reading k r) (suc i) [] ps) (member_step i n) (h t) (λ qs. rows_explained k f r h ps (suc i) qs)

pub map_explained : MapExplained
map_explained k f r h null = refl
map_explained k f r h (boolean b) = refl
map_explained k f r h (num l) = refl
map_explained k f r h (text s) = refl
map_explained k f r h (list ts) = refl
map_explained k f r h (pairs ps) = rows_explained k f r h ps 0 no_rows
