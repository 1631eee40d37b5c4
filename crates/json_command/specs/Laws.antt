-- Laws of inputs.
use Rattle.std.specs.Prelude.{◌≡◌, ◌⊎◌, ℕ, List}
use Rattle.json_grammar.specs.Rules.{Rules}
use Rattle.json_io.specs.declared.error.ErrorCode.{ErrorCode}
use Rattle.json_io.specs.declared.error.Place.{Place}
use Rattle.json_command.specs.Input.{IsValid, InputFault}

-- an input has at most one fault, at one place
abbrev pub OneInputFault : Type 0
OneInputFault = (rules : Rules) (b : List ℕ) (code code' : ErrorCode) (place place' : Place) → InputFault rules b code place → InputFault rules b code' place' → (code ≡ code') × (place ≡ place')

-- an input that is a text of some tree that fits the rules has none
abbrev pub ValidHasNoFault : Type 0
ValidHasNoFault = (rules : Rules) (b : List ℕ) (code : ErrorCode) (place : Place) → IsValid rules b → ¬ (InputFault rules b code place)

-- an input is a text of some tree that fits the rules, or has a fault
abbrev pub SomeInputFault : Type 0
SomeInputFault = (rules : Rules) (b : List ℕ) → IsValid rules b ⊎ ((code : ErrorCode) × (place : Place) × InputFault rules b code place)
