-- What each status of the top call means, and when each is returned.
use Rattle.std.specs.Prelude.{◌≡◌, ◌⊎◌, ℕ, List, Ok, Err}
use Rattle.json_io.specs.declared.error.Error.{Error}
use Rattle.json_io.specs.declared.error.ErrorCode.{ErrorCode}
use Rattle.json_io.specs.declared.error.ErrorCode.TheVariants.{NoMemory, BadWords}
use Rattle.json_io.specs.declared.error.Place.{Place}
use Rattle.json_io.specs.declared.error.Place.TheVariants.{None as nowhere}
use Rattle.json_io.specs.FaultText.{text_of}
use Rattle.json_io.specs.Outside.{SourceState, SinkState, Rose}
use Rattle.json_text.specs.Ruled.{usual_rules}
use Rattle.json_grammar.specs.Tree.{Tree}
use Rattle.json_model.specs.Edit.{EditRefusal}
use Rattle.json_command.specs.Reading.{KnownInput, KnownFault}
use Rattle.json_command.specs.Reporting.{Reports}
use Rattle.json_command.specs.Statuses.{status_of}
use Rattle.json_history.specs.History.{TreeHistory, TreeCall, run_calls}
use Rattle.json_history.specs.Spelling.{AsksForCalls}
use Rattle.json_history.specs.Replay.{Replays, GainsPrefix, ReplayFails}

-- the words ask for calls, and of them this holds
pub record WithCalls (arguments : List (List ℕ)) (holds : List TreeCall → Type 0) : Type 0 where
  pub calls : List TreeCall
  pub asked : AsksForCalls arguments calls
  pub so : holds calls

-- why it failed: the words are read before the source is
abbrev pub RunFails : List (List ℕ) → SourceState → SourceState → SinkState → SinkState → ErrorCode → Place → Type 0
RunFails arguments source source' sink sink' NoMemory nowhere = (sink' ≡ sink) ⊎ WithCalls arguments (λ cs. GainsPrefix cs source source' sink sink')
RunFails arguments source source' sink sink' BadWords nowhere = ((cs : List TreeCall) → ¬ (AsksForCalls arguments cs)) × (source' ≡ source) × (sink' ≡ sink)
RunFails arguments source source' sink sink' code place = WithCalls arguments (λ cs. ReplayFails cs source source' sink sink' code place)

-- status 0
pub record RunSucceeds (arguments : List (List ℕ)) (source source' : SourceState) (sink sink' errs errs' : SinkState) : Type 0 where
  pub did : WithCalls arguments (λ cs. Replays cs source source' sink sink')
  pub silent : errs' ≡ errs

-- any other status: one error, with its status, its cause, what it left, and its text on errs
pub record RunReports (status : ℕ) (arguments : List (List ℕ)) (source source' : SourceState) (sink sink' errs errs' : SinkState) : Type 0 where
  pub error : Error
  pub status_is : status ≡ status_of error.code error.place
  pub cause : RunFails arguments source source' sink sink' error.code error.place
  pub reports : Reports (text_of error) errs errs'

-- the bytes of the source are a text, each edit among the calls applies, and nothing failed
pub record KnownApplicable (cs : List TreeCall) (source source' : SourceState) (sink sink' : SinkState) : Type 0 where
  pub tree : Tree
  pub input : KnownInput usual_rules source source' tree
  pub left : TreeHistory
  pub made : run_calls tree cs ≡ Ok left
  pub written : ¬ (Rose sink.faults sink'.faults)

-- the bytes of the source are a text, and the call with this number is the first edit that does not
-- apply
pub record KnownInapplicable (cs : List TreeCall) (source source' : SourceState) (number : ℕ) (why : EditRefusal) : Type 0 where
  pub tree : Tree
  pub input : KnownInput usual_rules source source' tree
  pub refused : run_calls tree cs ≡ Err (number, why)

-- ... of the calls that the words ask for
abbrev pub IsApplicable : List (List ℕ) → SourceState → SourceState → SinkState → SinkState → Type 0
IsApplicable arguments source source' sink sink' = WithCalls arguments (λ cs. KnownApplicable cs source source' sink sink')

abbrev pub IsInapplicable : List (List ℕ) → SourceState → SourceState → ℕ → EditRefusal → Type 0
IsInapplicable arguments source source' number why = WithCalls arguments (λ cs. KnownInapplicable cs source source' number why)

-- the words ask for calls, and the bytes of the source have this fault
abbrev pub IsInvalid : List (List ℕ) → SourceState → SourceState → ErrorCode → Place → Type 0
IsInvalid arguments source source' code place = WithCalls arguments (λ cs. KnownFault usual_rules source source' code place)
