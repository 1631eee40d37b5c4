-- Members by their numbers, in the order of their keys.
use Rattle.std.specs.Prelude.{◌≡◌, ℕ, ◌-◌, ◌<◌, List, [], ◌∷◌, get_or, map}
use Rattle.json_doc.specs.Docs.{doc_tree}
use Rattle.json_doc.specs.Trees.{text_of_tree}
use Rattle.json_doc.specs.declared.doc.Doc.{Doc}
use Rattle.json_doc.specs.OpenNames.{front_of}
use Rattle.json_print.specs.Orders.{NumberedKey, inserted_pairs}
use Rattle.json_doc_print.specs.declared.key_order.IndexedMember.{IndexedMember}

-- a number with its key
abbrev pub key_and_number : (ℕ → List ℕ) → ℕ → NumberedKey
key_and_number key n = (key n, n)

-- the second are the first in the order of their keys, and those of one key in the order in which they were
abbrev pub IsKeyOrder : (ℕ → List ℕ) → List ℕ → List ℕ → Type 0
IsKeyOrder key numbers order = map (key_and_number key) order ≡ inserted_pairs (map (key_and_number key) numbers)

-- ---- entries of an index

-- it has the number of the first bytes of its member's key
abbrev pub IsEntry : (ℕ → List ℕ) → IndexedMember → Type 0
IsEntry key e = (e.front ≡ front_of (key e.number)) × ((i : ℕ) → get_or (key e.number) i 0 < 256)

abbrev pub AreEntries : (ℕ → List ℕ) → List IndexedMember → Type 0
AreEntries key [] = Unit {0}
AreEntries key (e ∷ es) = IsEntry key e × AreEntries key es

-- the numbers of their members
abbrev pub numbers_in : List IndexedMember → List ℕ
numbers_in es = map (λ (e : IndexedMember). e.number) es

-- ---- a document: a member's number is the place of its value

-- the key that precedes a place
abbrev pub key_before : Doc → ℕ → List ℕ
key_before d at = text_of_tree (doc_tree d (at - 1))
