-- Laws of names that repeat, and of faults by rules.
use Rattle.std.specs.Prelude.{◌≡◌, ℕ, ◌++◌, List, length, Bool, false, ◌⊎◌, ◌↔◌, IsUtf8}
use Rattle.json_grammar.specs.Tree.{Tree}
use Rattle.json_grammar.specs.Grammar.{is_text}
use Rattle.json_grammar.specs.Place.{viable_prefix}
use Rattle.json_grammar.specs.Fault.{FaultCode, eof_while_parsing, recursion_limit_exceeded, duplicate_key, longest, row, fault, reads, value_fault}
use Rattle.json_grammar.specs.Repeated.{RepeatsKey, repeated, first_repeated}
use Rattle.json_grammar.specs.Rules.{Rules, fits, fault_with, value_fault_with}

-- a text repeats a name exactly where its tree does
abbrev pub TextRepeats : Type 0
TextRepeats =
    (lossy : Bool) (t : Tree) (b : List ℕ)
    → is_text lossy t b
    → ((k : ℕ) × repeated lossy b k) ↔ RepeatsKey t

-- a name that repeats in a prefix repeats in all that begins with it
abbrev pub RepeatedStays : Type 0
RepeatedStays = (lossy : Bool) (p z : List ℕ) (k : ℕ) → repeated lossy p k → repeated lossy (p ++ z) k

-- the first one is at one offset
abbrev pub OneFirstRepeated : Type 0
OneFirstRepeated =
    (lossy : Bool) (b : List ℕ) (k k' : ℕ)
    → first_repeated lossy b k
    → first_repeated lossy b k'
    → k ≡ k'

-- a name that repeats in an input repeats in its longest viable prefix
abbrev pub RepeatedIsViable : Type 0
RepeatedIsViable =
    (lossy : Bool) (b : List ℕ) (k : ℕ)
    → repeated lossy b k
    → ((p rest : List ℕ) × (b ≡ p ++ rest) × viable_prefix lossy p × repeated lossy p k)
    × ((p : List ℕ) (x : ℕ) → longest (viable_prefix lossy) b p x → repeated lossy p k)

-- by any rules an input has one fault at most, at one offset
abbrev pub OneFaultWith : Type 0
OneFaultWith =
    (lossy : Bool) (rules : Rules) (b : List ℕ) (code code' : FaultCode) (k k' : ℕ)
    → fault_with lossy rules b code k
    → fault_with lossy rules b code' k'
    → (code ≡ code') × (k ≡ k')

-- an input that is UTF-8 is a text of a tree that fits the rules, or has a fault
abbrev pub SomeFaultWith : Type 0
SomeFaultWith =
    (lossy : Bool) (rules : Rules) (b : List ℕ)
    → IsUtf8 b
    → ((t : Tree) × is_text lossy t b × fits t rules)
    ⊎ ((code : FaultCode) × (k : ℕ) × fault_with lossy rules b code k)

-- a text of a tree that fits has none
abbrev pub TextHasNoFaultWith : Type 0
TextHasNoFaultWith =
    (lossy : Bool) (rules : Rules) (b : List ℕ) (t : Tree) (code : FaultCode) (k : ℕ)
    → is_text lossy t b
    → fits t rules
    → ¬ (fault_with lossy rules b code k)

-- where names may repeat the fault is that of the limit of levels
abbrev pub FaultWithLimit : Type 0
FaultWithLimit =
    (lossy : Bool) (limit : ℕ) (b : List ℕ) (code : FaultCode) (k : ℕ)
    → fault_with lossy (record { limit = limit; unique = false }) b code k
    ↔ fault lossy limit b code k

-- where neither a level too many nor a repeated name is reported, the table of the other faults
-- holds unchanged
abbrev pub FaultTable : Type 0
FaultTable =
    (lossy : Bool) (rules : Rules) (b : List ℕ)
    → IsUtf8 b
    → ((k : ℕ) → ¬ (fault_with lossy rules b recursion_limit_exceeded k))
    → ((k : ℕ) → ¬ (fault_with lossy rules b duplicate_key k))
    → (viable_prefix lossy b
    → ((t : Tree) → ¬ (is_text lossy t b))
    → fault_with lossy rules b eof_while_parsing (length b))
    × ((code : FaultCode) (p : List ℕ) (x : ℕ)
    → longest (viable_prefix lossy) b p x
    → row lossy code p x
    → fault_with lossy rules b code (length p))

-- the same of values: by any rules an input has one fault at most as a value, at one offset
abbrev pub OneValueFaultWith : Type 0
OneValueFaultWith =
    (lossy : Bool) (rules : Rules) (b : List ℕ) (code code' : FaultCode) (k k' : ℕ)
    → value_fault_with lossy rules b code k
    → value_fault_with lossy rules b code' k'
    → (code ≡ code') × (k ≡ k')

-- an input that is UTF-8 reads as a value that fits the rules, or has a fault as a value
abbrev pub SomeValueFaultWith : Type 0
SomeValueFaultWith =
    (lossy : Bool) (rules : Rules) (b : List ℕ)
    → IsUtf8 b
    → ((t : Tree) × (k : ℕ) × reads lossy b t k × fits t rules)
    ⊎ ((code : FaultCode) × (k : ℕ) × value_fault_with lossy rules b code k)

-- an input that reads as a value that fits has none
abbrev pub ReadsHasNoFaultWith : Type 0
ReadsHasNoFaultWith =
    (lossy : Bool) (rules : Rules) (b : List ℕ) (t : Tree) (j : ℕ) (code : FaultCode) (k : ℕ)
    → reads lossy b t j
    → fits t rules
    → ¬ (value_fault_with lossy rules b code k)

-- where names may repeat the fault as a value is that of the limit of levels
abbrev pub ValueFaultWithLimit : Type 0
ValueFaultWithLimit =
    (lossy : Bool) (limit : ℕ) (b : List ℕ) (code : FaultCode) (k : ℕ)
    → value_fault_with lossy (record { limit = limit; unique = false }) b code k
    ↔ value_fault lossy limit b code k
