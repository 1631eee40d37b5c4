-- What a call gives back.
use Rattle.std.specs.Prelude.{◌≡◌, ℕ, Result, Ok, Err}
use Rattle.mezdruk_c.specs.declared.buffer.ResultBuffer.{ResultBuffer}
use Rattle.mezdruk_c.specs.declared.failure.Failure.{Failure}
use Rattle.mezdruk_c.specs.declared.fault.FaultReport.{FaultReport}
use Rattle.mezdruk_c.specs.Failures.{status_of_failure}
use Rattle.mezdruk_c.specs.Faults.{fault_of}

-- a buffer, or a status and a fault that tell why there is none
abbrev pub ReturnsBuffer : Result ResultBuffer Failure → ResultBuffer → ResultBuffer → ℕ → FaultReport → Type 0
ReturnsBuffer (Ok b) old new status fault = (status ≡ 0) × (new ≡ b)
ReturnsBuffer (Err failure) old new status fault = (status ≡ status_of_failure failure) × (fault ≡ fault_of failure) × (new ≡ old)
