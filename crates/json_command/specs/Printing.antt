-- What becomes of a sink to which a text is written and which is then flushed.
use Rattle.std.specs.Prelude.{◌≡◌, ◌⊎◌, ℕ, ◌-◌, ◌^◌, ◌<◌, ◌≤◌, List, false, Result, OnOk, OnErr, IfErr, IsErrOf}
use Rattle.json_io.specs.declared.error.Error.{Error}
use Rattle.json_io.specs.declared.error.ErrorCode.{ErrorCode}
use Rattle.json_io.specs.declared.error.ErrorCode.TheVariants.{NoMemory, Io}
use Rattle.json_io.specs.declared.error.Place.{Place}
use Rattle.json_io.specs.declared.error.Place.TheVariants.{None as nowhere, Writing}
use Rattle.json_io.specs.Errors.{no_memory, writing_failed}
use Rattle.json_io.specs.Known.{Appends, append_known}
use Rattle.json_io.specs.Outside.{SinkState, Rose}
use Rattle.json_io.specs.Transfer.{AppendsFront}
use Rattle.json_layout.specs.TextWriting.{Begins, StopCause}

-- the text was written and flushed, or what was gained is a prefix of the old bytes and the text
pub record WritesFlushed (old new : SinkState) (text : List ℕ) (result : Result (Unit {0}) Error) : Type 0 where
  pub ok : OnOk result (Appends old.gained new.gained text)
  pub flushed : OnOk result (new.unflushed ≡ false)
  pub prefix : OnErr result (Begins new.gained (append_known old.gained text))
  pub cause : IfErr result (λ e. StopCause old.faults new.faults e.code e.place)
  pub reported : old.faults < new.faults → IsErrOf result writing_failed
  pub same_loan : new.loan ≡ old.loan

-- why the text was not written, and what that left in the sink
abbrev pub PrintingFails : SinkState → SinkState → List ℕ → ErrorCode → Place → Type 0
PrintingFails old new text NoMemory nowhere = (new ≡ old) ⊎ AppendsFront old.gained new.gained text
PrintingFails old new text Io Writing = Rose old.faults new.faults × AppendsFront old.gained new.gained text
PrintingFails old new text code place = ⊥

-- the sink gained the text and was flushed, or gained a prefix of the text
pub record Prints (old new : SinkState) (text : List ℕ) (result : Result (Unit {0}) Error) : Type 0 where
  pub ok : OnOk result (Appends old.gained new.gained text)
  pub flushed : OnOk result (new.unflushed ≡ false)
  pub err : IfErr result (λ e. PrintingFails old new text e.code e.place)
  pub reported : old.faults < new.faults → IsErrOf result writing_failed

-- a write or a flush that failed is returned as that error
abbrev pub ReturnsWriteError : {A : Type 0} → SinkState → SinkState → Result A Error → Type 0
ReturnsWriteError sink sink' result = sink.faults < sink'.faults → IsErrOf result writing_failed

-- the sink counts a call that found no memory, or a text has more bytes than a usize counts
abbrev pub HasRunOut : SinkState → ℕ → Type 0
HasRunOut sink size = (0 < sink.lacks) ⊎ (2 ^ 64 - 1 ≤ size)

-- where memory runs out the sink is as it was, or has run out of it
abbrev pub RunsOutOnlyWith : {A : Type 0} → SinkState → SinkState → ℕ → Result A Error → Type 0
RunsOutOnlyWith old new size result = IsErrOf result no_memory → (new ≡ old) ⊎ HasRunOut new size
