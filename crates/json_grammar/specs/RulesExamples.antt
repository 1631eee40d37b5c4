-- Examples of inputs that are refused by rules, and of one that is not. An input within `codes` is
-- written as it is in a file, but that a backslash precedes each quote and each backslash of it.
use Rattle.std.specs.Prelude.{◌≡◌, ℕ, List, [], ◌∷◌, true, false, codes}
use Rattle.json_grammar.specs.Tree.{Tree, num, pairs, list_pairs}
use Rattle.json_grammar.specs.Grammar.{is_text}
use Rattle.json_grammar.specs.Fault.{FaultCode, eof_while_parsing, recursion_limit_exceeded, duplicate_key}
use Rattle.json_grammar.specs.Rules.{Rules, fits, fault_with}

-- at most that many levels, and the names of each object differ
abbrev pub differing : ℕ → Rules
differing limit = record { limit = limit; unique = true }

-- by the rules b has this fault at this offset, and no other; and it is no strict text of a tree that fits
pub record IsRefusedBy (rules : Rules) (b : List ℕ) (code : FaultCode) (offset : ℕ) : Type 0 where
  pub has_fault : fault_with false rules b code offset
  pub one_fault : (code' : FaultCode) (k : ℕ) → fault_with false rules b code' k → (code ≡ code') × (offset ≡ k)
  pub no_text : (t : Tree) → fits t rules → ¬ (is_text false t b)

-- b is a strict text of t, which fits the rules: it has no fault
pub record IsTextBy (rules : Rules) (t : Tree) (b : List ℕ) : Type 0 where
  pub spells : is_text false t b
  pub is_fit : fits t rules
  pub no_fault : (code : FaultCode) (k : ℕ) → ¬ (fault_with false rules b code k)

-- names are compared by what they spell, and the second one is reported at its opening quotation
-- mark, whatever follows it
abbrev pub RepeatedNameRefused : Type 0
RepeatedNameRefused =
    IsRefusedBy (differing 254) (codes "{\"a\":1,\"b\":2,\"\\u0061\":3}") duplicate_key 13
    × IsRefusedBy (differing 254) (codes "{\"a\":1,\"a\":}") duplicate_key 7

-- a name repeats where it is whole
abbrev pub BrokenNameRefused : Type 0
BrokenNameRefused = IsRefusedBy (differing 254) (codes "{\"a\":1,\"a") eof_while_parsing 9

-- of a level too many and a repeated name the first one is reported
abbrev pub FirstRefused : Type 0
FirstRefused =
    IsRefusedBy (differing 1) (codes "[{\"a\":1,\"a\":2}]") recursion_limit_exceeded 1
    × IsRefusedBy (differing 1) (codes "{\"a\":1,\"a\":[]}") duplicate_key 7

-- an object within another may have its names
abbrev pub InnerNameFits : Type 0
InnerNameFits =
    let inner = pairs (list_pairs ((codes "a", num (codes "1")) ∷ [])) in
    IsTextBy (differing 254) (pairs (list_pairs ((codes "a", inner) ∷ []))) (codes "{\"a\":{\"a\":1}}")
