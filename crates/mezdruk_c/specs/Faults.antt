-- What C learns of a failure.
use Rattle.std.specs.Prelude.{◌≡◌, ℕ, ◌-◌, ◌^◌, Option, Some, None, Result, Ok, Err}
use Rattle.json_io.specs.Errors.{number_of}
use Rattle.json_io.specs.declared.error.Place.{Place}
use Rattle.json_io.specs.declared.error.Place.TheVariants.{At, Edit}
use Rattle.json_patch.specs.Errors.{patch_code_number as patch_number}
use Rattle.mezdruk_c.specs.declared.failure.Failure.{Failure}
use Rattle.mezdruk_c.specs.declared.failure.Failure.TheVariants.{Options, Argument, Text, Patch, NoMergePatch}
use Rattle.mezdruk_c.specs.declared.fault.FaultReport.{FaultReport}
use Rattle.mezdruk_c.specs.Failures.{status_of_failure}

-- what stands for no offset and no item: the greatest number of the type
abbrev pub no_number : ℕ
no_number = 18446744073709551615

-- a fault without a position
abbrev pub fault_with : ℕ → ℕ → FaultReport
fault_with code item = record { offset = no_number; line = 0; column = 0; item = item; code = code }

-- the fault of a code at a place
abbrev pub fault_at : ℕ → Place → FaultReport
fault_at code (At offset line column) = record { offset = offset; line = line; column = column; item = no_number; code = code }
fault_at code (Edit number) = fault_with code number
fault_at code place = fault_with code no_number

-- the fault of a code in an operation
abbrev pub fault_in : ℕ → Option ℕ → FaultReport
fault_in code (Some number) = fault_with code number
fault_in code None = fault_with code no_number

-- the fault of a failure
abbrev pub fault_of : Failure → FaultReport
fault_of Options = fault_with 32 no_number
fault_of (Argument e) = fault_at (number_of e.code) e.place
fault_of (Text e) = fault_at (number_of e.code) e.place
fault_of (Patch e) = fault_in (patch_number e.code) e.op
fault_of NoMergePatch = fault_with 33 no_number

-- a status and a fault tell an outcome
abbrev pub TellsOutcome : Result (Unit {0}) Failure → ℕ → FaultReport → Type 0
TellsOutcome (Ok done) status fault = status ≡ 0
TellsOutcome (Err failure) status fault = (status ≡ status_of_failure failure) × (fault ≡ fault_of failure)

-- a call failed for such a reason, and the status and the fault tell it
pub record CallFailsFor (Why : Failure → Type 0) (status : ℕ) (fault : FaultReport) : Type 0 where
  pub failure : Failure
  pub why : Why failure
  pub status_is : status ≡ status_of_failure failure
  pub fault_is : fault ≡ fault_of failure
