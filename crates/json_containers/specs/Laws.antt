-- Laws of the calls of objects, and of an iterator over an array.
use Rattle.std.specs.Prelude.{◌≡◌, ◌≢◌, ℕ, ◌+◌, List, [], ◌∷◌, ◌++◌, length, filter, not, bytes_eq, false, Option, Some, None}
use Rattle.std.specs.Option.{option_to_list}
use Rattle.json_grammar.specs.Tree.{Tree, list_pairs}
use Rattle.json_model.specs.Edit.{has_key, inserted, without_key}
use Rattle.json_value.specs.declared.value.Value.{Value}
use Rattle.json_containers.specs.IntoIter.{values_left, TakesFirst, TakesLast}
use Rattle.json_containers.specs.Members.{first_member_value}
use Rattle.json_containers.specs.declared.into_iter.IntoIter.{IntoIter}

-- after an insertion the first value of the key is what was put in, and that of every other key is as before
abbrev pub InsertIsFound : Type 0
InsertIsFound =
    (k : List ℕ) (u : Tree) (old new : List (List ℕ × Tree))
    → list_pairs new ≡ inserted k u (list_pairs old)
    → (first_member_value k new ≡ Some u)
    × ((n : List ℕ) → n ≢ k → first_member_value n new ≡ first_member_value n old)

-- after a removal no member has the key, and the others stay in their order
abbrev pub RemoveLeavesNone : Type 0
RemoveLeavesNone =
    (k : List ℕ) (old new : List (List ℕ × Tree))
    → list_pairs new ≡ without_key k (list_pairs old)
    → (has_key k (list_pairs new) ≡ false)
    × (new ≡ filter (λ p. not (bytes_eq p.0 k)) old)

-- an iterator was asked at an end, and this came
pub data IteratorCall : Type 0 where
  at_front : Option Value → IteratorCall
  at_back : Option Value → IteratorCall

-- s was asked so in turn, and is t then
abbrev pub CallsLead : IntoIter → List IteratorCall → IntoIter → Type 0
CallsLead s [] t = t ≡ s
CallsLead s (at_front o ∷ turns) t = (u : IntoIter) × TakesFirst s o u × CallsLead u turns t
CallsLead s (at_back o ∷ turns) t = (u : IntoIter) × TakesLast s o u × CallsLead u turns t

-- what came from the front, the first first
abbrev pub from_front : List IteratorCall → List Value
from_front [] = []
from_front (at_front o ∷ turns) = option_to_list o ++ from_front turns
from_front (at_back o ∷ turns) = from_front turns

-- what came from the back, the first last
abbrev pub from_back : List IteratorCall → List Value
from_back [] = []
from_back (at_front o ∷ turns) = from_back turns
from_back (at_back o ∷ turns) = from_back turns ++ option_to_list o

-- however it is asked, it gives each element once
abbrev pub EachIsGivenOnce : Type 0
EachIsGivenOnce =
    (s t : IntoIter) (turns : List IteratorCall)
    → CallsLead s turns t
    → values_left s ≡ from_front turns ++ (values_left t ++ from_back turns)

-- after as many elements as there were, nothing is given from either end
abbrev pub NothingIsGivenAfterAll : Type 0
NothingIsGivenAfterAll =
    (s t : IntoIter) (turns : List IteratorCall)
    → CallsLead s turns t
    → length (from_front turns) + length (from_back turns) ≡ length (values_left s)
    → (o : Option Value) (u : IntoIter)
    → (TakesFirst t o u → (o ≡ None) × (u ≡ t))
    × (TakesLast t o u → (o ≡ None) × (u ≡ t))
