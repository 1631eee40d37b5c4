-- What showing a text in the order of its keys does to a sink.
use Rattle.std.specs.Prelude.{ℕ, ◌-◌, ◌^◌, List, Result}
use Rattle.json_io.specs.declared.sink.SinkError.{SinkError}
use Rattle.json_io.specs.Outside.{SinkState}
use Rattle.json_layout.specs.Showing.{Shows}

-- the greatest level: memory may run out at any text within that many containers
abbrev pub greatest_level : ℕ
greatest_level = 2 ^ 64 - 1

-- as `Shows`, but memory may run out at any part, since an index of members takes some
abbrev pub ShowsOrRunsOut : SinkState → SinkState → List ℕ → Result (Unit {0}) SinkError → Type 0
ShowsOrRunsOut = Shows greatest_level
