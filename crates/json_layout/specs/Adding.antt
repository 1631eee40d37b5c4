-- What putting a piece into a sink does, answered as the sink answers.
use Rattle.std.specs.Prelude.{◌≡◌, ℕ, ◌-◌, ◌≤◌, List, length, take, drop, Result, OnOk, OnErr}
use Rattle.json_io.specs.Known.{Appends}
use Rattle.json_io.specs.declared.sink.SinkError.{SinkError}
use Rattle.json_io.specs.Outside.{SinkState, Counts}
use Rattle.json_io.specs.Transfer.{AppendsFront}

-- this piece was added, or a prefix of it
pub record Adds (old new : SinkState) (piece : List ℕ) (result : Result (Unit {0}) SinkError) : Type 0 where
  pub ok : OnOk result (Appends old.gained new.gained piece)
  pub err : OnErr result (AppendsFront old.gained new.gained piece)
  pub counts : Counts old new result

-- the bytes from one place up to the other went to the sink, each once
pub record Sends (old new : SinkState) (bytes : List ℕ) (from to : ℕ) (result : Result (Unit {0}) SinkError) : Type 0 where
  pub later : from ≤ to
  pub within : to ≤ length bytes
  pub gains : Appends old.gained new.gained (take (to - from) (drop from bytes))
  pub all : OnOk result (to ≡ length bytes)
  pub counts : Counts old new result
