-- The status that a program ends with, and its number.
use Rattle.std.specs.Prelude.{ℕ, ◌≡◌, ◌<◌}
use Rattle.json_io.specs.declared.error.ErrorCode.{ErrorCode}
use Rattle.json_io.specs.declared.error.ErrorCode.TheVariants.{NoMemory, Io, NotFound, TypeUnmatched, BadWords}
use Rattle.json_io.specs.declared.error.Place.{Place}
use Rattle.json_io.specs.declared.error.Place.TheVariants.{Writing}
use Rattle.json_command.specs.declared.status.Status.{Status}
use Rattle.json_command.specs.declared.status.Status.TheVariants.{Success, InvalidInput, InvalidArguments, EditFailed, ReadFailed, WriteFailed, OutOfMemory, TooMuchInput, NoArguments}
use Rattle.json_model.specs.Edit.{EditRefusal, not_found, type_unmatched}
use Rattle.json_io.specs.Outside.{SourceState, SinkState, Rose}

-- its number
abbrev pub status_number : Status → ℕ
status_number Success = 0
status_number InvalidInput = 1
status_number InvalidArguments = 2
status_number EditFailed = 3
status_number ReadFailed = 4
status_number WriteFailed = 5
status_number OutOfMemory = 6
status_number TooMuchInput = 7
status_number NoArguments = 8

-- the status of an error
abbrev pub error_status : ErrorCode → Place → Status
error_status NoMemory place = OutOfMemory
error_status Io Writing = WriteFailed
error_status Io place = ReadFailed
error_status BadWords place = InvalidArguments
error_status NotFound place = EditFailed
error_status TypeUnmatched place = EditFailed
error_status code place = InvalidInput

-- its number
abbrev pub status_of : ErrorCode → Place → ℕ
status_of code place = status_number (error_status code place)

-- the code of a refusal of an edit
abbrev pub code_of_refusal : EditRefusal → ErrorCode
code_of_refusal not_found = NotFound
code_of_refusal type_unmatched = TypeUnmatched

-- a read that failed ends in its status
abbrev pub ReturnsReadStatus : (source source' : SourceState) → ℕ → Type 0
ReturnsReadStatus source source' status = source.faults < source'.faults → status ≡ 4

-- a write that failed ends in its status
abbrev pub ReturnsWriteStatus : (sink sink' : SinkState) → ℕ → Type 0
ReturnsWriteStatus sink sink' status = sink.faults < sink'.faults → status ≡ 5

-- the status of a failed read means one
abbrev pub MeansReadFailed : (source source' : SourceState) → ℕ → Type 0
MeansReadFailed source source' status = status ≡ 4 → Rose source.faults source'.faults

-- the status of a failed write means one
abbrev pub MeansWriteFailed : (sink sink' : SinkState) → ℕ → Type 0
MeansWriteFailed sink sink' status = status ≡ 5 → Rose sink.faults sink'.faults
