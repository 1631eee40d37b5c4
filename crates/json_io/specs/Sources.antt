-- What contracts see of the sources.
use Rattle.std.specs.Prelude.{Some, None}
use Rattle.json_io.specs.Outside.{SourceState}
use Rattle.json_io.specs.declared.source.SliceSource.{SliceSource}
use Rattle.json_io.specs.declared.source.StdSource.{StdSource}

-- a source in memory tells its bytes, and no call fails
abbrev pub slice_source_state : SliceSource → SourceState
slice_source_state s = record { left = Some s.rest.now; given = s.given; faults = 0 }

-- a source over a reader tells nothing
abbrev pub std_source_state : {R : Type 0} → StdSource R → SourceState
std_source_state s = record { left = None; given = s.given; faults = s.faults }

-- its reader
abbrev pub reader_of : {R : Type 0} → StdSource R → R
reader_of s = s.reader
