-- What is read of a source and written to a sink: a text, and the compact text of the tree after
-- the calls.
use Rattle.std.specs.Prelude.{◌≡◌, ◌⊎◌, ℕ, ◌+◌, ◌<◌, List, length, IfSome, None, false, Ok, Err}
use Rattle.json_grammar.specs.Tree.{Tree}
use Rattle.json_grammar.specs.Grammar.{is_text}
use Rattle.json_model.specs.Edit.{EditRefusal, not_found, type_unmatched}
use Rattle.json_layout.specs.Shown.{shown_as}
use Rattle.json_io.specs.Known.{Appends}
use Rattle.json_io.specs.Outside.{SourceState, SinkState, Rose, RoseBy}
use Rattle.json_text.specs.Ruled.{usual_rules}
use Rattle.json_io.specs.Transfer.{AppendsFront}
use Rattle.json_io.specs.declared.error.ErrorCode.{ErrorCode}
use Rattle.json_io.specs.declared.error.ErrorCode.TheVariants.{NoMemory, Io, TooLarge, NotFound, TypeUnmatched}
use Rattle.json_io.specs.declared.error.Place.{Place}
use Rattle.json_io.specs.declared.error.Place.TheVariants.{None as nowhere, Reading, Writing, Edit as in_edit}
use Rattle.json_command.specs.Input.{max_bytes}
use Rattle.json_command.specs.Reading.{ReadsInput, ReadsFault}
use Rattle.json_history.specs.History.{TreeHistory, TreeCall, run_calls}

-- the text of a tree without whitespace between its tokens
abbrev pub compact : Tree → List ℕ
compact t = shown_as None false t

-- a text of exactly one tree was read, each call was made in turn, and the sink gained exactly the
-- compact text of the tree after them, and was flushed
pub record Replays (cs : List TreeCall) (source source' : SourceState) (sink sink' : SinkState) : Type 0 where
  pub tree : Tree
  pub reads : ReadsInput usual_rules source source' tree
  pub only : (other : Tree) → is_text false other reads.bytes → other ≡ tree
  pub left : TreeHistory
  pub made : run_calls tree cs ≡ Ok left
  pub gains : Appends sink.gained sink'.gained (compact left.now)
  pub is_text_of_it : is_text false left.now (compact left.now)
  pub flushed : sink'.unflushed ≡ false

-- all was read, and the call with this number is the first edit that does not apply
pub record ReadsInapplicable (cs : List TreeCall) (source source' : SourceState) (number : ℕ) (why : EditRefusal) : Type 0 where
  pub tree : Tree
  pub reads : ReadsInput usual_rules source source' tree
  pub refused : run_calls tree cs ≡ Err (number, why)

-- all was read, each call was made, and the sink gained a prefix of the text of the tree after them
pub record GainsPrefix (cs : List TreeCall) (source source' : SourceState) (sink sink' : SinkState) : Type 0 where
  pub tree : Tree
  pub reads : ReadsInput usual_rules source source' tree
  pub left : TreeHistory
  pub made : run_calls tree cs ≡ Ok left
  pub gains : AppendsFront sink.gained sink'.gained (compact left.now)

-- why it failed, and what that left in the sink: one row for each error
abbrev pub ReplayFails : List TreeCall → SourceState → SourceState → SinkState → SinkState → ErrorCode → Place → Type 0
ReplayFails cs source source' sink sink' NoMemory nowhere = (sink' ≡ sink) ⊎ GainsPrefix cs source source' sink sink'
ReplayFails cs source source' sink sink' Io Reading = Rose source.faults source'.faults × (sink' ≡ sink)
ReplayFails cs source source' sink sink' TooLarge nowhere = RoseBy (max_bytes + 1) source.given source'.given × IfSome source.left (λ b. max_bytes < length b) × (sink' ≡ sink)
ReplayFails cs source source' sink sink' NotFound (in_edit number) = ReadsInapplicable cs source source' number not_found × (sink' ≡ sink)
ReplayFails cs source source' sink sink' TypeUnmatched (in_edit number) = ReadsInapplicable cs source source' number type_unmatched × (sink' ≡ sink)
ReplayFails cs source source' sink sink' Io Writing = Rose sink.faults sink'.faults × GainsPrefix cs source source' sink sink'
ReplayFails cs source source' sink sink' code place = ReadsFault usual_rules source source' code place × (sink' ≡ sink)
