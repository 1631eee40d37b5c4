-- What becomes of a sink to which a text is written, and of a sink for errors that is given up once a write fails.
use Rattle.std.specs.Prelude.{◌≡◌, ◌⊎◌, ℕ, ◌<◌, false, List, [], Some, Result, Ok, OnOk, IfErr, IsErrOf}
use Rattle.json_io.specs.declared.error.Error.{Error}
use Rattle.json_io.specs.declared.error.ErrorCode.{ErrorCode}
use Rattle.json_io.specs.declared.error.ErrorCode.TheVariants.{NoMemory, Io}
use Rattle.json_io.specs.declared.error.Place.{Place}
use Rattle.json_io.specs.declared.error.Place.TheVariants.{None as nowhere, Writing}
use Rattle.json_io.specs.Errors.{writing_failed}
use Rattle.json_command.specs.Printing.{Prints}
use Rattle.json_io.specs.Known.{Appends}
use Rattle.json_io.specs.Outside.{SinkState, Rose}
use Rattle.json_io.specs.Transfer.{AppendsFront}

-- a call of the sink failed, when the sink had gained a prefix of the text
pub record CallFails (old new : SinkState) (text : List ℕ) : Type 0 where
  pub before : SinkState
  pub gained : AppendsFront old.gained before.gained text
  pub rose : Rose before.faults new.faults

-- why the text was not written: a prefix of it was gained
abbrev pub WritingFails : SinkState → SinkState → List ℕ → ErrorCode → Place → Type 0
WritingFails old new text NoMemory nowhere = AppendsFront old.gained new.gained text
WritingFails old new text Io Writing = AppendsFront old.gained new.gained text × CallFails old new text
WritingFails old new text code place = ⊥

-- what a block in memory has was written and none is left, or nothing was done
abbrev pub SendsBlock : SinkState → SinkState → SinkState → SinkState → Type 0
SendsBlock sink sink' block left = ((sink' ≡ sink) × (left ≡ block)) ⊎ ((text : List ℕ) × (block.gained ≡ Some text) × Prints sink sink' text (Ok tt) × (left.gained ≡ Some []) × (left.faults ≡ 0))

-- the text was written, and nothing waits for a flush if nothing waited before, or writing failed
pub record WritesOutput (old new : SinkState) (text : List ℕ) (result : Result (Unit {0}) Error) : Type 0 where
  pub ok : OnOk result (Appends old.gained new.gained text)
  pub flushed : OnOk result (old.unflushed ≡ false → new.unflushed ≡ false)
  pub err : IfErr result (λ e. WritingFails old new text e.code e.place)
  pub reported : old.faults < new.faults → IsErrOf result writing_failed
