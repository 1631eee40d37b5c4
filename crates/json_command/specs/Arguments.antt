-- What a program says of itself: its help and its version, each asked for by an argument that is
-- alone.
use Rattle.std.specs.Prelude.{◌≡◌, ◌⊎◌, ℕ, Bool, ◌||◌, cond, false, List, [], ◌∷◌, Option, Some, None, bytes_eq, codes}
use Rattle.json_io.specs.Known.{Appends}
use Rattle.json_io.specs.Outside.{SinkState, Rose}
use Rattle.json_io.specs.Transfer.{AppendsFront}
use Rattle.json_command.specs.declared.status.Status.{Status}
use Rattle.json_command.specs.declared.status.Status.TheVariants.{Success, WriteFailed, OutOfMemory}

-- the arguments that ask for the help, and those that ask for the version
abbrev pub asks_for_help : List ℕ → Bool
asks_for_help a = bytes_eq a (codes "--help") || bytes_eq a (codes "-h")

abbrev pub asks_for_version : List ℕ → Bool
asks_for_version a = bytes_eq a (codes "--version") || bytes_eq a (codes "-V")

-- the text that the arguments ask for
abbrev pub text_asked : List ℕ → List ℕ → List (List ℕ) → Option (List ℕ)
text_asked help version (a ∷ []) = cond (asks_for_help a) (Some help) (cond (asks_for_version a) (Some version) None)
text_asked help version _ = None

-- a text was written and flushed with this status, or a prefix of it was written
abbrev pub StatusWrites : SinkState → SinkState → List ℕ → Status → Type 0
StatusWrites old new text Success = Appends old.gained new.gained text × (new.unflushed ≡ false)
StatusWrites old new text WriteFailed = Rose old.faults new.faults × AppendsFront old.gained new.gained text
StatusWrites old new text OutOfMemory = (new ≡ old) ⊎ AppendsFront old.gained new.gained text
StatusWrites old new text _ = ⊥

-- the text that the arguments ask for was written with this status
pub record SaysAsked (help version : List ℕ) (arguments : List (List ℕ)) (old new : SinkState) (status : Status) : Type 0 where
  pub text : List ℕ
  pub asked : text_asked help version arguments ≡ Some text
  pub writes : StatusWrites old new text status
