-- What showing a text by parts does to a sink.
use Rattle.std.specs.Prelude.{◌≡◌, ◌⊎◌, ℕ, ◌+◌, ◌-◌, ◌^◌, ◌≤◌, List, [], ◌∷◌, ◌++◌, length, Bool, true, false, Option, Result, OnOk, OnErr, IsErrOf}
use Rattle.json_model.specs.Print.{line, quoted, colon_bytes}
use Rattle.json_layout.specs.Pieces.{comma}
use Rattle.json_io.specs.Known.{Appends}
use Rattle.json_io.specs.declared.sink.SinkError.{SinkError}
use Rattle.json_io.specs.declared.sink.SinkError.TheVariants as sink_error
use Rattle.json_io.specs.Outside.{SinkState, Rose}
use Rattle.json_io.specs.Transfer.{AppendsFront}

-- the sink found no memory, or a text has more bytes than a usize counts
abbrev pub RanOut : SinkState → SinkState → ℕ → Type 0
RanOut old new size = Rose old.lacks new.lacks ⊎ (2 ^ 64 - 1 ≤ size)

-- this text, within `level` containers, was added, or a prefix of it and why not all of it was
pub record Shows (level : ℕ) (old new : SinkState) (text : List ℕ) (result : Result (Unit {0}) SinkError) : Type 0 where
  pub ok : OnOk result (Appends old.gained new.gained text)
  pub err : OnErr result (AppendsFront old.gained new.gained text)
  pub faults_ok : OnOk result (new.faults ≡ old.faults)
  pub failed : IsErrOf result sink_error.Failed → Rose old.faults new.faults
  pub lacks_ok : OnOk result (new.lacks ≡ old.lacks)
  pub lacking : IsErrOf result sink_error.NoMemory → new.faults ≡ old.faults
  pub ran_out : IsErrOf result sink_error.NoMemory → RanOut old new (level + length text)
  pub later : old.faults ≤ new.faults
  pub same_loan : new.loan ≡ old.loan

-- what precedes an element or a key: a comma unless it is the first, and a new line
abbrev pub lead : Option (List ℕ) → ℕ → Bool → List ℕ
lead i d first = comma first ++ line i d

-- a closing bracket: on a line of its own, unless no element and no member came before it
abbrev pub closed_by : Option (List ℕ) → ℕ → Bool → ℕ → List ℕ
closed_by i d true x = x ∷ []
closed_by i d false x = line i d ++ x ∷ []

-- a key, and what precedes and follows it
abbrev pub key_shown : Option (List ℕ) → ℕ → Bool → List ℕ → List ℕ
key_shown i d first k = lead i d first ++ (quoted k ++ colon_bytes i)

-- a string, and what precedes it as an element
abbrev pub text_shown : Option (List ℕ) → ℕ → Bool → List ℕ → List ℕ
text_shown i d first s = lead i d first ++ quoted s
