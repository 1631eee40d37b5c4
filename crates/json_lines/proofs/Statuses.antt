-- What the status of a failed run over a source and a sink says of its cause.
use Rattle.std.proofs.Common.{◌≡◌, ℕ, List, length, subst, arith}
use Rattle.json_io.specs.Outside.{SinkState, SourceState, Rose}
use Rattle.json_io.specs.Transfer.{WritingCause}
use Rattle.json_io.specs.declared.error.ErrorCode.{ErrorCode}
use Rattle.json_io.specs.declared.error.ErrorCode.TheVariants.{NoMemory, Io, TooLarge}
use Rattle.json_io.specs.declared.error.Place.{Place}
use Rattle.json_io.specs.declared.error.Place.TheVariants.{None as nowhere, Reading, Writing}
use Rattle.json_lines.specs.Reading.{ReaderState, NextLineCause}
use Rattle.json_lines.specs.TopCall.{ErrorCause}

module _ (bytes : List ℕ) (source source' : SourceState) (sink sink' : SinkState) where
  -- the reader failed
  pub cause-line : (code : ErrorCode) (place : Place) (reader : ReaderState) → reader.received ≡ length bytes → NextLineCause reader source source' code place → ErrorCause bytes source source' sink sink' code place
  cause-line Io Reading reader received h = h.0
  cause-line TooLarge nowhere reader received h = omega (arith, received, h.1)
  cause-line code place reader received h = absurd h

  -- the last flush failed
  pub cause-flush : (code : ErrorCode) (place : Place) (mid : SinkState) → mid.faults ≡ sink.faults → WritingCause mid sink' code place → ErrorCause bytes source source' sink sink' code place
  cause-flush NoMemory nowhere mid same h = tt
  cause-flush Io Writing mid same h = subst (λ n. Rose n sink'.faults) same h
  cause-flush code place mid same h = absurd h
