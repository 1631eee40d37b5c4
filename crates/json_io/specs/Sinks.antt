-- What contracts see of the sinks.
use Rattle.std.specs.Prelude.{Some, None, false}
use Rattle.json_io.specs.Outside.{SinkState}
use Rattle.json_io.specs.declared.sink.VecSink.{VecSink}
use Rattle.json_io.specs.declared.sink.StdSink.{StdSink}

-- a sink in memory tells its bytes; no call fails, and nothing waits
abbrev pub vec_sink_state : VecSink → SinkState
vec_sink_state s = record { gained = Some s.bytes.items; faults = 0; lacks = s.lacks; unflushed = false; loan = None }

-- a sink over a writer tells nothing, and takes no memory
abbrev pub std_sink_state : {W : Type 0} → StdSink W → SinkState
std_sink_state s = record { gained = None; faults = s.faults; lacks = 0; unflushed = s.unflushed; loan = None }

-- its writer
abbrev pub writer_of : {W : Type 0} → StdSink W → W
writer_of s = s.writer
