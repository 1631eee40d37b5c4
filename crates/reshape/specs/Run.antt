-- The status of the top call, and what it tells of a refusal.
use Rattle.std.specs.Prelude.{◌≡◌, ◌⊎◌, ℕ, List}
use Rattle.json_io.specs.declared.error.Error.{Error}
use Rattle.json_io.specs.declared.error.ErrorCode.{ErrorCode}
use Rattle.json_io.specs.declared.error.ErrorCode.TheVariants.{NoMemory, BadWords}
use Rattle.json_io.specs.declared.error.Place.{Place}
use Rattle.json_io.specs.declared.error.Place.TheVariants.{None as nowhere}
use Rattle.json_io.specs.Outside.{SourceState, SinkState}
use Rattle.json_io.specs.FaultText.{text_of}
use Rattle.json_model.specs.Edit.{EditRefusal}
use Rattle.reshape.specs.Options.{Command, Asks, AsksMade, IsAsked}
use Rattle.reshape.specs.Made.{GainsSummary, SummaryFails}
use Rattle.reshape.specs.Reshape.{Reshapes, RunsOut, ReshapingRefuses}
use Rattle.reshape.specs.Known.{KnownFit, KnownUnfit}
use Rattle.json_command.specs.Reading.{KnownFault}
use Rattle.json_command.specs.Statuses.{status_of}
use Rattle.json_command.specs.Reporting.{Reports}

-- the words ask for a command, and of it this holds
pub record WithCommand (words : List (List ℕ)) (holds : Command → Type 0) : Type 0 where
  pub command : Command
  pub asked : Asks words command
  pub so : holds command

-- why a command was refused: the words are looked at before anything is read
abbrev pub RunRefuses : List (List ℕ) → SourceState → SourceState → SinkState → SinkState → ErrorCode → Place → Type 0
RunRefuses words source source' sink sink' NoMemory nowhere = (sink' ≡ sink) ⊎ WithCommand words (λ c. RunsOut c.rules c.es c.layout source source' sink sink')
RunRefuses words source source' sink sink' BadWords nowhere = (¬ IsAsked words) × (source' ≡ source) × (sink' ≡ sink)
RunRefuses words source source' sink sink' code place = WithCommand words (λ c. ReshapingRefuses c.rules c.es c.layout source source' sink sink' code place)

-- the words ask for made input of some records, and of their number this holds
pub record WithMade (words : List (List ℕ)) (holds : ℕ → Type 0) : Type 0 where
  pub number : ℕ
  pub asked : AsksMade words number
  pub so : holds number

-- what the words ask for was done: an edited text was written, or the summary of made input, for which nothing is read
abbrev pub WritesRequested : List (List ℕ) → SourceState → SourceState → SinkState → SinkState → Type 0
WritesRequested words source source' sink sink' =
    WithCommand words (λ c. Reshapes c.rules c.es c.layout source source' sink sink') ⊎ WithMade words (λ n. (source' ≡ source) × GainsSummary n sink sink')

-- why it was not done
abbrev pub Fails : List (List ℕ) → SourceState → SourceState → SinkState → SinkState → ErrorCode → Place → Type 0
Fails words source source' sink sink' code place =
    RunRefuses words source source' sink sink' code place ⊎ WithMade words (λ n. (source' ≡ source) × SummaryFails n sink sink' code place)

-- status 0
pub record Done (words : List (List ℕ)) (source source' : SourceState) (sink sink' errs errs' : SinkState) : Type 0 where
  pub did : WritesRequested words source source' sink sink'
  pub silent : errs' ≡ errs

-- any other status: one error, with its status, its cause, what it left, and its text on errs
pub record ReportsRunError (status : ℕ) (words : List (List ℕ)) (source source' : SourceState) (sink sink' errs errs' : SinkState) : Type 0 where
  pub error : Error
  pub status_is : status ≡ status_of error.code error.place
  pub cause : Fails words source source' sink sink' error.code error.place
  pub tells : Reports (text_of error) errs errs'

-- the words ask for a command, the source tells a valid text to which its edits apply, and nothing failed
abbrev pub IsGood : List (List ℕ) → SourceState → SourceState → SinkState → SinkState → Type 0
IsGood words source source' sink sink' = WithCommand words (λ c. KnownFit c.rules c.es source source' sink sink')

-- the words ask for a command, the source tells bytes with this fault, and no read failed
abbrev pub IsBad : List (List ℕ) → SourceState → SourceState → ErrorCode → Place → Type 0
IsBad words source source' code place = WithCommand words (λ c. KnownFault c.rules source source' code place)

-- the words ask for a command, the source tells a valid text, the edit of this number is the first that does not apply to it, and no read failed
abbrev pub IsUnfit : List (List ℕ) → SourceState → SourceState → ℕ → EditRefusal → Type 0
IsUnfit words source source' number why = WithCommand words (λ c. KnownUnfit c.rules c.es source source' number why)
