-- What contracts see of the sink of errors.
use Rattle.std.specs.Prelude.{Some, None, false}
use Rattle.json_io.specs.Outside.{SinkState}
use Rattle.mezdruk_c.specs.declared.error_sink.ErrorSink.{ErrorSink}

-- it tells its bytes, and how often memory ran out; no call fails, and nothing waits
abbrev pub error_sink_state : ErrorSink → SinkState
error_sink_state s = record { gained = Some s.bytes.items; faults = 0; lacks = s.lacks; unflushed = false; loan = None }
