-- What a reader may be asked to refuse of a text: too many levels (RFC 8259, section 9), and a name that
-- repeats in one object (section 4).
use Rattle.std.specs.Prelude.{◌≡◌, ℕ, ◌<◌, ◌≤◌, List, take, Bool, true}
use Rattle.json_grammar.specs.Tree.{Tree, depth}
use Rattle.json_grammar.specs.Grammar.{is_text}
use Rattle.json_grammar.specs.Place.{viable_prefix}
use Rattle.json_grammar.specs.Fault.{opens, FaultCode, trailing_characters, recursion_limit_exceeded, duplicate_key, fault_by, viable_value, reads}
use Rattle.json_grammar.specs.Repeated.{RepeatsKey, repeated, first_repeated}

-- the most levels of a tree, and whether the names of each object have to differ
pub record Rules : Type 0 where
  pub limit : ℕ
  pub unique : Bool

-- the tree has no more levels, and where names have to differ no object in it has two members of one name
abbrev pub fits : Tree → Rules → Type 0
fits t rules = (depth t ≤ rules.limit) × (rules.unique ≡ true → ¬ (RepeatsKey t))

module _ (lossy : Bool) where
  -- no name repeats at an offset before k, where names have to differ
  abbrev pub no_repeat_before : Rules → List ℕ → ℕ → Type 0
  no_repeat_before rules b k = rules.unique ≡ true → (j : ℕ) → j < k → ¬ (repeated lossy b j)

  -- no name repeats, where names have to differ
  abbrev pub no_repeat : Rules → List ℕ → Type 0
  no_repeat rules b = rules.unique ≡ true → (j : ℕ) → ¬ (repeated lossy b j)

  -- the fault of b at the offset k by the rules, where `viable` says which prefixes are viable, and
  -- `whole` that b lacks nothing. Of a bracket that opens a level too many and a name that repeats,
  -- the first one is reported, and either before all else. A name that repeats in b repeats in its
  -- longest viable prefix, so `repeated lossy b` speaks of that.
  abbrev pub fault_with_by : (List ℕ → Type 0) → Type 0 → Rules → List ℕ → FaultCode → ℕ → Type 0
  fault_with_by viable whole rules b duplicate_key k =
      (rules.unique ≡ true) × first_repeated lossy b k × (opens (take k b) ≤ rules.limit)
  fault_with_by viable whole rules b recursion_limit_exceeded k =
      fault_by lossy viable whole rules.limit b recursion_limit_exceeded k × no_repeat_before rules b k
  fault_with_by viable whole rules b code k =
      fault_by lossy viable whole rules.limit b code k × no_repeat rules b

  -- b is no text of a tree that fits the rules, and has this fault at the offset k
  abbrev pub fault_with : Rules → List ℕ → FaultCode → ℕ → Type 0
  fault_with rules b code k =
      fault_with_by (viable_prefix lossy) ((t : Tree) × is_text lossy t b) rules b code k

  -- b reads as no value that fits the rules, and has this fault at the offset k; nothing is wrong
  -- after a value
  abbrev pub value_fault_with : Rules → List ℕ → FaultCode → ℕ → Type 0
  value_fault_with rules b trailing_characters k = ⊥
  value_fault_with rules b code k =
      fault_with_by (viable_value lossy) ((t : Tree) × (j : ℕ) × reads lossy b t j) rules b code k
