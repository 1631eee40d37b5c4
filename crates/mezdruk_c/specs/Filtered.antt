-- What a call that filters lines gives back.
use Rattle.std.specs.Prelude.{◌≡◌, ℕ, Result, Ok, Err}
use Rattle.mezdruk_c.specs.declared.buffer.ResultBuffer.{ResultBuffer}
use Rattle.mezdruk_c.specs.declared.failure.Failure.{Failure}
use Rattle.mezdruk_c.specs.declared.fault.FaultReport.{FaultReport}
use Rattle.mezdruk_c.specs.declared.lines.Filtered.{Filtered}
use Rattle.mezdruk_c.specs.Failures.{status_of_failure}
use Rattle.mezdruk_c.specs.Faults.{fault_of}

-- the rows and the errors, or a status and a fault that tell why there are none
abbrev pub ReturnsFiltered : Result Filtered Failure → ResultBuffer → ResultBuffer → ResultBuffer → ResultBuffer → ℕ → FaultReport → Type 0
ReturnsFiltered (Ok f) output output' errors errors' status fault = (status ≡ 0) × (output' ≡ f.rows) × (errors' ≡ f.errors)
ReturnsFiltered (Err failure) output output' errors errors' status fault = (status ≡ status_of_failure failure) × (fault ≡ fault_of failure) × (output' ≡ output) × (errors' ≡ errors)
