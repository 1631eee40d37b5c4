-- What a program reads from its source: a text of a tree, or an error with its cause.
use Rattle.std.specs.Prelude.{◌≡◌, ◌⊎◌, ◌<◌, ℕ, ◌+◌, List, length, ⊤, Some, IfSome, Result, IsErrOf}
use Rattle.json_grammar.specs.Tree.{Tree}
use Rattle.json_grammar.specs.Rules.{Rules}
use Rattle.json_io.specs.declared.error.Error.{Error}
use Rattle.json_io.specs.declared.error.ErrorCode.{ErrorCode}
use Rattle.json_io.specs.declared.error.ErrorCode.TheVariants.{NoMemory, Io, TooLarge}
use Rattle.json_io.specs.declared.error.Place.{Place}
use Rattle.json_io.specs.declared.error.Place.TheVariants.{None as nowhere, Reading}
use Rattle.json_io.specs.Errors.{no_memory, reading_failed}
use Rattle.json_io.specs.Outside.{SourceState, Rose, RoseBy}
use Rattle.json_io.specs.Transfer.{ReadsWithin}
use Rattle.json_command.specs.Input.{max_bytes, IsInput, InputFault}

-- ---- what was read

-- all that the source had was read, at most the limit, and it is a text of this tree
pub record ReadsInput (rules : Rules) (source source' : SourceState) (tree : Tree) : Type 0 where
  pub bytes : List ℕ
  pub all : ReadsWithin max_bytes source source' bytes
  pub input : IsInput rules bytes tree

-- all was read, and it has this fault
pub record ReadsFault (rules : Rules) (source source' : SourceState) (code : ErrorCode) (place : Place) : Type 0 where
  pub bytes : List ℕ
  pub all : ReadsWithin max_bytes source source' bytes
  pub fault : InputFault rules bytes code place

-- why no document was read: one row for each error
abbrev pub InputFails : Rules → SourceState → SourceState → ErrorCode → Place → Type 0
InputFails rules source source' NoMemory nowhere = ⊤
InputFails rules source source' Io Reading = Rose source.faults source'.faults
InputFails rules source source' TooLarge nowhere = RoseBy (max_bytes + 1) source.given source'.given × IfSome source.left (λ b. max_bytes < length b)
InputFails rules source source' code place = ReadsFault rules source source' code place

-- a read that failed is returned as that error
abbrev pub ReturnsReadError : {A : Type 0} → SourceState → SourceState → Result A Error → Type 0
ReturnsReadError source source' result = source.faults < source'.faults → IsErrOf result reading_failed

-- ---- a source whose bytes are known to contracts

-- its bytes are a text of this tree, and no read failed
pub record KnownInput (rules : Rules) (source source' : SourceState) (tree : Tree) : Type 0 where
  pub bytes : List ℕ
  pub known : source.left ≡ Some bytes
  pub input : IsInput rules bytes tree
  pub read : ¬ (Rose source.faults source'.faults)

-- its bytes have this fault, and no read failed
pub record KnownFault (rules : Rules) (source source' : SourceState) (code : ErrorCode) (place : Place) : Type 0 where
  pub bytes : List ℕ
  pub known : source.left ≡ Some bytes
  pub fault : InputFault rules bytes code place
  pub read : ¬ (Rose source.faults source'.faults)

-- the fault of known bytes is returned as the error, or memory runs out
abbrev pub ReturnsFault : {A : Type 0} → Rules → SourceState → SourceState → Result A Error → Type 0
ReturnsFault rules source source' result =
    (code : ErrorCode) (place : Place) → KnownFault rules source source' code place → IsErrOf result (record { code = code; place = place }) ⊎ IsErrOf result no_memory
