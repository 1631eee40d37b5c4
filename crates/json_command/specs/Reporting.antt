-- What a program reports of an error.
use Rattle.std.specs.Prelude.{◌≡◌, ◌⊎◌, ℕ, List, Bool, true, false, Ok, Err}
use Rattle.json_io.specs.declared.error.Error.{Error}
use Rattle.json_io.specs.FaultText.{text_of}
use Rattle.json_io.specs.Known.{Appends}
use Rattle.json_io.specs.Outside.{SinkState, Rose}
use Rattle.json_io.specs.Transfer.{AppendsFront, Puts}

-- the sink gained the text, or a prefix of it where a write failed or found no memory
abbrev pub Reports : List ℕ → SinkState → SinkState → Type 0
Reports text errs errs' = Appends errs.gained errs'.gained text ⊎ (AppendsFront errs.gained errs'.gained text × (Rose errs.faults errs'.faults ⊎ Rose errs.lacks errs'.lacks))

-- the program ends with this status and reports the error, or memory runs out
abbrev pub StatusReports : ℕ → Error → SinkState → SinkState → ℕ → Type 0
StatusReports answer error errs errs' status = ((status ≡ answer) × Reports (text_of error) errs errs') ⊎ (status ≡ 6)

-- this text was reported, unless reports were given up, as they are if a call fails
abbrev pub ReportsUnlessMuted : Bool → Bool → SinkState → SinkState → List ℕ → Type 0
ReportsUnlessMuted false false old new text = Puts old new text (Ok tt)
ReportsUnlessMuted false true old new text = (error : Error) × Puts old new text (Err error)
ReportsUnlessMuted true true old new text = new ≡ old
ReportsUnlessMuted true false old new text = ⊥
