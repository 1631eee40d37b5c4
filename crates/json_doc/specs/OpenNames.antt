-- Which names a reader keeps of the containers that are open, so as to refuse one that repeats (RFC
-- 8259, section 4).
use Rattle.std.specs.Prelude.{◌≡◌, ◌↔◌, ℕ, ◌≤◌, List, [], ◌∷◌, ◌++◌, length, get_or, take, drop, Bool, true, false, ◌||◌, IsTrue, bytes_eq}
use Rattle.std.specs.List.{Contains, list_any}
use Rattle.std.specs.Borrow.{Bor}
use Rattle.std.specs.BTreeSet.{BTreeSet, contains_by}
use Rattle.std.specs.Cmp.Lexicographic.{slice_cmp}
use Rattle.std.specs.Cow.{cow_str_bytes}
use Rattle.std.specs.declared.borrow.CowStr.{CowStr}
use Rattle.std.specs.Int.{from_be_bytes, w64}
use Rattle.std.specs.Ordering.{nat_cmp, ordering_then}
use Rattle.std.specs.declared.alloc.Global.{Global}
use Rattle.json_grammar.specs.Tree.{Token}
use Rattle.json_grammar.specs.Repeated.{Keys, innermost_keys, keys_past, keys_from, RepeatsAt, TokensRepeat}
use Rattle.json_grammar.specs.Rules.{Rules}
use Rattle.json_doc.specs.declared.open_keys.OuterKeys.{OuterKeys}
use Rattle.json_doc.specs.declared.open_keys.OpenKeys.{OpenKeys}

-- the names in a row
abbrev pub NameList : Type 0
NameList = List (Bor (List ℕ))

abbrev pub NameSet : Type 0
NameSet = BTreeSet (ℕ × CowStr Global)

-- the number of a name's first eight bytes, with which it is in the set
abbrev pub front_of : List ℕ → ℕ
front_of s = from_be_bytes w64 (get_or s 0 0 ∷ get_or s 1 0 ∷ get_or s 2 0 ∷ get_or s 3 0 ∷ get_or s 4 0 ∷ get_or s 5 0 ∷ get_or s 6 0 ∷ get_or s 7 0 ∷ [])

-- whether a name is in the row
abbrev pub row_has : NameList → List ℕ → Bool
row_has few s = list_any (λ y. bytes_eq y.now s) few

-- whether a name is in the set
abbrev pub set_has : NameSet → List ℕ → Bool
set_has many s = contains_by (λ y. ordering_then (nat_cmp (front_of s) y.0) (slice_cmp nat_cmp s (cow_str_bytes y.1))) many

-- whether a name is in the row or in the set
abbrev pub names_have : NameList → NameSet → List ℕ → Bool
names_have few many s = row_has few s || set_has many s

-- they are the names of one container
abbrev pub AreNames : NameList → NameSet → Keys → Type 0
AreNames few many ks = (s : List ℕ) → IsTrue (names_have few many s) ↔ Contains ks s

-- the rows of the containers around the innermost are one after another
pub data Around : NameList → List OuterKeys → List Keys → Type 0 where
  nothing : Around [] [] []
  around : {few : NameList} {outer : List OuterKeys} {all : List Keys} (row : NameList) (o : OuterKeys) (ks : Keys)
      → Around few outer all → o.start ≡ length few → AreNames row o.many (innermost_keys all)
      → Around (few ++ row) (outer ++ o ∷ []) (ks ∷ all)

-- the names so far of each open container, the innermost first: those of the innermost are in the
-- row from the start on, and in the set
pub record OpenNamesHeld (few : NameList) (start : ℕ) (many : NameSet) (outer : List OuterKeys) (all : List Keys) : Type 0 where
  pub within : start ≤ length few
  pub here : AreNames (drop start few) many (innermost_keys all)
  pub outside : Around (take start few) outer all

abbrev pub HasNames : OpenKeys → List Keys → Type 0
HasNames o all = OpenNamesHeld o.few.items o.start o.many o.outer.items all

abbrev pub HasSomeNames : OpenKeys → Type 0
HasSomeNames o = (all : List Keys) × HasNames o all

-- whether the token is a name that its object had; if not, the names after the token are known
abbrev pub TakesIn : Bool → OpenKeys → OpenKeys → Token → Type 0
TakesIn had old new x = (all : List Keys) → HasNames old all → (IsTrue had ↔ RepeatsAt all x) × (had ≡ false → HasNames new (keys_past all x))

-- where the names of each object have to differ none repeats so far, and those of the open containers are known
abbrev pub Differ : Rules → OpenKeys → List Token → Type 0
Differ rules o ts = rules.unique ≡ true → (¬ (TokensRepeat ts)) × HasNames o (keys_from [] ts)
