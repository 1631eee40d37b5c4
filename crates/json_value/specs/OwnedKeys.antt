-- The keys of an owned object's members, which are numbered from 0 on.
use Rattle.std.specs.Prelude.{ℕ, zero, suc, List, [], ◌∷◌, map, slice_index_or}
use Rattle.json_grammar.specs.Tree.{Tree, null}
use Rattle.json_value.specs.Denotes.{pair_of}
use Rattle.json_value.specs.declared.pair.Keyed.{Keyed}
use Rattle.json_value.specs.declared.value.Value.{Value}

abbrev pub numbers_from : ℕ → ℕ → List ℕ
numbers_from k zero = []
numbers_from k (suc n) = k ∷ numbers_from (suc k) n

-- the member of a number
abbrev pub member_at : List (Keyed Value) → ℕ → List ℕ × Tree
member_at ps n = slice_index_or (map pair_of ps) n ([], null)

abbrev pub owned_key : List (Keyed Value) → ℕ → List ℕ
owned_key ps n = (member_at ps n).0
