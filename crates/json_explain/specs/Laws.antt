-- Laws of what is said of refusals: a type refuses a tree exactly where it says where, with the code that it says, if its parts do.
use Rattle.std.specs.Prelude.{◌≡◌, ℕ, List, [], ◌∷◌, Option, Some, None}
use Rattle.json_grammar.specs.Tree.{Tree}
use Rattle.json_data.specs.Reading.{Reading, gives, refuses, read_list, read_option, read_map}
use Rattle.json_data.specs.Tuples.{read_tuple}
use Rattle.json_explain.specs.Refused.{Refused, whole_refused, option_refused, list_refused, tuple_refused, object_refused, map_reading}
use Rattle.json_explain.specs.declared.refusal.Wanted.{Wanted}

abbrev pub Agrees : Reading → Option Refused → Type 0
Agrees (gives d) None = Unit {0}
Agrees (refuses c) (Some r) = c ≡ r.code
Agrees _ _ = ⊥

-- a tree is refused by the reading exactly where it is said where
abbrev pub Explained : (Tree → Reading) → (Tree → Option Refused) → Type 0
Explained f r = (t : Tree) → Agrees (f t) (r t)

abbrev pub WholeExplained : Type 0
WholeExplained = (f : Tree → Reading) (w : Wanted) → Explained f (whole_refused f w)

abbrev pub OptionExplained : Type 0
OptionExplained = (f : Tree → Reading) (r : Tree → Option Refused) → Explained f r → Explained (read_option f) (option_refused r)

abbrev pub ListExplained : Type 0
ListExplained = (f : Tree → Reading) (r : Tree → Option Refused) → Explained f r → Explained (read_list f) (list_refused r)

-- each of these says where the reading in its place refuses
abbrev pub AllExplained : List (Tree → Reading) → List (Tree → Option Refused) → Type 0
AllExplained [] [] = Unit {0}
AllExplained (f ∷ fs) (r ∷ rs) = Explained f r × AllExplained fs rs
AllExplained fs rs = ⊥

abbrev pub TupleExplained : Type 0
TupleExplained = (w : Wanted) (fs : List (Tree → Reading)) (rs : List (Tree → Option Refused)) → AllExplained fs rs → Explained (read_tuple fs) (tuple_refused w rs)

abbrev pub MapExplained : Type 0
MapExplained = (k : List ℕ → Reading) (f : Tree → Reading) (r : Tree → Option Refused) → Explained f r → Explained (read_map k f) (object_refused (map_reading k r) [])
