-- What `run_patch` makes of the text of a source, and what becomes of the sinks.
use Rattle.std.specs.Prelude.{◌≡◌, ◌⊎◌, ℕ, ◌+◌, ◌<◌, ◌^◌, ◌++◌, List, [], ◌∷◌, codes, length, IfSome, false, None, Some, Option, decimal, Result, Ok, Err}
use Rattle.json_doc.specs.Readings.{elements}
use Rattle.json_doc.specs.Docs.{doc_root, doc_tree}
use Rattle.json_grammar.specs.Tree.{Tree}
use Rattle.json_model.specs.Edit.{not_found, type_unmatched}
use Rattle.json_model.specs.Print.{shown}
use Rattle.json_io.specs.Known.{Appends}
use Rattle.json_io.specs.Outside.{SourceState, SinkState, Rose, RoseBy}
use Rattle.json_io.specs.Errors.{no_memory, bad_words}
use Rattle.json_io.specs.FaultText.{text_of}
use Rattle.json_text.specs.Ruled.{usual_rules}
use Rattle.json_io.specs.Transfer.{AppendsFront}
use Rattle.json_io.specs.declared.error.ErrorCode.{ErrorCode}
use Rattle.json_io.specs.declared.error.ErrorCode.TheVariants.{NoMemory, Io, TooLarge}
use Rattle.json_io.specs.declared.error.Place.{Place}
use Rattle.json_io.specs.declared.error.Place.TheVariants.{None as nowhere, Reading, Writing}
use Rattle.json_command.specs.Input.{max_bytes, IsInput}
use Rattle.json_command.specs.Reading.{ReadsInput, ReadsFault, KnownInput, KnownFault}
use Rattle.json_command.specs.Reporting.{Reports}
use Rattle.json_command.specs.Statuses.{status_of}
use Rattle.json_patch.specs.Merge.{merge_patched}
use Rattle.json_patch.specs.Patch.{PatchFailure, lookup_failed, bad_patch, test_failed, patched}
use Rattle.json_patch.specs.Errors.{PatchFails}
use Rattle.json_patch.specs.Described.{described}
use Rattle.json_patch.specs.declared.command.Command.{Command}
use Rattle.json_patch.specs.declared.command.Command.TheVariants.{Patch, Merge}
use Rattle.json_patch.specs.declared.command.CommandError.{CommandError}
use Rattle.json_patch.specs.declared.command.CommandError.TheVariants as failed
use Rattle.json_patch.specs.declared.error.PatchCode.{PatchCode}
use Rattle.json_patch.specs.declared.error.PatchCode.TheVariants as patch

-- ---- what the arguments ask for

-- a patch or a merge patch, as a tree
pub data PatchRequest : Type 0 where
  patch_by : Tree → PatchRequest
  merge_by : Tree → PatchRequest

-- what it makes of a tree
abbrev pub outcome_of : PatchRequest → Tree → Result Tree (PatchFailure × Option ℕ)
outcome_of (patch_by p) t = patched t p
outcome_of (merge_by p) t = Ok (merge_patched t p)

abbrev pub patch_request_of : Command → PatchRequest
patch_request_of (Patch d) = patch_by (doc_tree d.value (doc_root d.value))
patch_request_of (Merge d) = merge_by (doc_tree d.value (doc_root d.value))

-- a patch has fewer than 2^32 operations
abbrev pub HasFewOperations : PatchRequest → Type 0
HasFewOperations (patch_by p) = length (elements p) < 2 ^ 32
HasFewOperations (merge_by p) = Unit {0}

-- the argument is this option with a JSON text of this tree, by the usual rules
pub record HasText (option argument : List ℕ) (tree : Tree) : Type 0 where
  pub text : List ℕ
  pub is : argument ≡ option ++ text
  pub input : IsInput usual_rules text tree

-- the arguments are one: `--patch=TEXT` or `--merge=TEXT`
abbrev pub AsksForPatch : List (List ℕ) → PatchRequest → Type 0
AsksForPatch (a ∷ []) (patch_by p) = HasText (codes "--patch=") a p
AsksForPatch (a ∷ []) (merge_by p) = HasText (codes "--merge=") a p
AsksForPatch arguments r = ⊥

abbrev pub IsRequest : List (List ℕ) → Type 0
IsRequest arguments = (r : PatchRequest) × AsksForPatch arguments r

-- the arguments ask for a request, and this holds of it
pub record WithRequest (arguments : List (List ℕ)) (Holds : PatchRequest → Type 0) : Type 0 where
  pub request : PatchRequest
  pub asked : AsksForPatch arguments request
  pub so : Holds request

-- ---- what was done

-- the input was read to its end and is a text of a tree of at most 254 levels; the sink gained
-- exactly the compact text of what the request makes of it, and was flushed
pub record WritesOutcome (r : PatchRequest) (source source' : SourceState) (sink sink' : SinkState) : Type 0 where
  pub tree : Tree
  pub reads : ReadsInput usual_rules source source' tree
  pub changed : Tree
  pub applied : outcome_of r tree ≡ Ok changed
  pub gains : Appends sink.gained sink'.gained (shown None 0 changed)
  pub flushed : sink'.unflushed ≡ false

-- such a text was read, and the sink gained a prefix of the compact text
pub record WritesPrefix (r : PatchRequest) (source source' : SourceState) (sink sink' : SinkState) : Type 0 where
  pub tree : Tree
  pub reads : ReadsInput usual_rules source source' tree
  pub changed : Tree
  pub applied : outcome_of r tree ≡ Ok changed
  pub gains : AppendsFront sink.gained sink'.gained (shown None 0 changed)

-- such a text was read, and the patch fails on its tree
pub record ReadsUnpatchable (r : PatchRequest) (source source' : SourceState) (code : PatchCode) (op : Option ℕ) : Type 0 where
  pub tree : Tree
  pub reads : ReadsInput usual_rules source source' tree
  pub fails : PatchFails (outcome_of r tree) code op

-- ---- why it was not done

-- reading or writing failed, and what that left in the sink
abbrev pub TransferFails : PatchRequest → SourceState → SourceState → SinkState → SinkState → ErrorCode → Place → Type 0
TransferFails r source source' sink sink' NoMemory nowhere = (sink' ≡ sink) ⊎ WritesPrefix r source source' sink sink'
TransferFails r source source' sink sink' Io Reading = Rose source.faults source'.faults × (sink' ≡ sink)
TransferFails r source source' sink sink' TooLarge nowhere = RoseBy (max_bytes + 1) source.given source'.given × IfSome source.left (λ b. max_bytes < length b) × (sink' ≡ sink)
TransferFails r source source' sink sink' Io Writing = Rose sink.faults sink'.faults × WritesPrefix r source source' sink sink'
TransferFails r source source' sink sink' code place = ReadsFault usual_rules source source' code place × (sink' ≡ sink)

abbrev pub RequestFails : PatchRequest → SourceState → SourceState → SinkState → SinkState → CommandError → Type 0
RequestFails r source source' sink sink' (failed.Transfer e) = TransferFails r source source' sink sink' e.code e.place
RequestFails r source source' sink sink' (failed.Patch e) = ReadsUnpatchable r source source' e.code e.op × (sink' ≡ sink)

-- the arguments are not valid, or memory ran out; nothing was read
abbrev pub ArgumentsFail : List (List ℕ) → SourceState → SourceState → SinkState → SinkState → CommandError → Type 0
ArgumentsFail arguments source source' sink sink' (failed.Transfer e) = ((e ≡ no_memory) ⊎ ((e ≡ bad_words) × ¬ (IsRequest arguments))) × (source' ≡ source) × (sink' ≡ sink)
ArgumentsFail arguments source source' sink sink' (failed.Patch e) = ⊥

abbrev pub PatchRunFails : List (List ℕ) → SourceState → SourceState → SinkState → SinkState → CommandError → Type 0
PatchRunFails arguments source source' sink sink' e = ArgumentsFail arguments source source' sink sink' e ⊎ WithRequest arguments (λ r. RequestFails r source source' sink sink' e)

-- ---- statuses and texts

abbrev pub patch_status : PatchCode → ℕ
patch_status patch.NoMemory = 6
patch_status code = 3

abbrev pub status_of_error : CommandError → ℕ
status_of_error (failed.Transfer e) = status_of e.code e.place
status_of_error (failed.Patch e) = patch_status e.code

-- the line of an error: the name of its code, and the number of the operation
abbrev pub patch_text : PatchCode → Option ℕ → List ℕ
patch_text code op = described code op ++ 10 ∷ []

abbrev pub error_text : CommandError → List ℕ
error_text (failed.Transfer e) = text_of e
error_text (failed.Patch e) = patch_text e.code e.op

-- the code of a patch that fails
abbrev pub code_of_failure : PatchFailure → PatchCode
code_of_failure (lookup_failed not_found) = patch.NotFound
code_of_failure (lookup_failed type_unmatched) = patch.TypeUnmatched
code_of_failure bad_patch = patch.BadPatch
code_of_failure test_failed = patch.TestFailed

-- ---- the top call

-- status 0
pub record PatchSucceeds (arguments : List (List ℕ)) (source source' : SourceState) (sink sink' errs errs' : SinkState) : Type 0 where
  pub done : WithRequest arguments (λ r. WritesOutcome r source source' sink sink')
  pub silent : errs' ≡ errs

-- any other status: one error, with its status, its cause, what it left, and its text on errs
pub record ReportsPatchError (status : ℕ) (arguments : List (List ℕ)) (source source' : SourceState) (sink sink' errs errs' : SinkState) : Type 0 where
  pub error : CommandError
  pub status_is : status ≡ status_of_error error
  pub cause : PatchRunFails arguments source source' sink sink' error
  pub reports : Reports (error_text error) errs errs'

-- this status, with this text on errs; or memory ran out for the text, and that is reported
abbrev pub ReportsOr : ℕ → List ℕ → SinkState → SinkState → ℕ → Type 0
ReportsOr answer text errs errs' status = ((status ≡ answer) × Reports text errs errs') ⊎ ((status ≡ 6) × Reports (text_of no_memory) errs errs')

-- ---- a source whose bytes are known to contracts

-- its bytes are a valid input to which the request applies, and no read or write failed
pub record KnownPatchable (r : PatchRequest) (source source' : SourceState) (sink sink' : SinkState) : Type 0 where
  pub tree : Tree
  pub input : KnownInput usual_rules source source' tree
  pub changed : Tree
  pub applies : outcome_of r tree ≡ Ok changed
  pub written : ¬ (Rose sink.faults sink'.faults)

-- its bytes are a valid input on which the patch fails so, and no read failed
pub record KnownUnpatchable (r : PatchRequest) (source source' : SourceState) (failure : PatchFailure) (op : Option ℕ) : Type 0 where
  pub tree : Tree
  pub input : KnownInput usual_rules source source' tree
  pub fails : outcome_of r tree ≡ Err (failure, op)

-- the arguments ask for a request, and the source has such bytes, or bytes with this fault
abbrev pub IsFit : List (List ℕ) → SourceState → SourceState → SinkState → SinkState → Type 0
IsFit arguments source source' sink sink' = WithRequest arguments (λ r. KnownPatchable r source source' sink sink')

abbrev pub IsUnpatchable : List (List ℕ) → SourceState → SourceState → PatchFailure → Option ℕ → Type 0
IsUnpatchable arguments source source' failure op = WithRequest arguments (λ r. KnownUnpatchable r source source' failure op)

abbrev pub IsFaulty : List (List ℕ) → SourceState → SourceState → ErrorCode → Place → Type 0
IsFaulty arguments source source' code place = WithRequest arguments (λ r. KnownFault usual_rules source source' code place)

-- this status with this text on errs, or memory runs out
abbrev pub StatusReportsText : ℕ → List ℕ → SinkState → SinkState → ℕ → Type 0
StatusReportsText answer text errs errs' status = ((status ≡ answer) × Reports text errs errs') ⊎ (status ≡ 6)
