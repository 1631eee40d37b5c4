-- What becomes of a sink to which a text is written.
use Rattle.std.specs.Prelude.{◌≡◌, ℕ, ◌<◌, List, Result, OnOk, OnErr, IfErr, IsErrOf, Option}
use Rattle.json_io.specs.declared.error.Error.{Error}
use Rattle.json_io.specs.Errors.{writing_failed}
use Rattle.json_io.specs.Known.{Appends, append_known}
use Rattle.json_io.specs.Outside.{SinkState, Rose}
use Rattle.json_io.specs.declared.error.ErrorCode.{ErrorCode}
use Rattle.json_io.specs.declared.error.ErrorCode.TheVariants.{NoMemory, Io}
use Rattle.json_io.specs.declared.error.Place.{Place}
use Rattle.json_io.specs.declared.error.Place.TheVariants.{None as nowhere, Writing}

-- the second has all known bytes of the first, and maybe more
pub record Begins (a b : Option (List ℕ)) : Type 0 where
  pub back : List ℕ
  pub whole : b ≡ append_known a back

abbrev pub StopCause : ℕ → ℕ → ErrorCode → Place → Type 0
StopCause faults faults' NoMemory nowhere = Unit {0}
StopCause faults faults' Io Writing = Rose faults faults'
StopCause faults faults' code place = ⊥

-- the text was written and may wait for a flush, or what was gained is a prefix of the old bytes and the text
pub record WritesText (old new : SinkState) (text : List ℕ) (result : Result (Unit {0}) Error) : Type 0 where
  pub ok : OnOk result (Appends old.gained new.gained text)
  pub calm : OnOk result (new.faults ≡ old.faults)
  pub prefix : OnErr result (Begins new.gained (append_known old.gained text))
  pub cause : IfErr result (λ e. StopCause old.faults new.faults e.code e.place)
  pub reported : old.faults < new.faults → IsErrOf result writing_failed
  pub same_loan : new.loan ≡ old.loan
