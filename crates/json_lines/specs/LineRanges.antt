-- How a reader finds the first line of what it holds and reads, and its range in the buffer.
use Rattle.std.specs.Prelude.{◌≡◌, ℕ, ◌+◌, ◌<◌, ◌≤◌, ◌⊎◌, true, false, List, [], ◌++◌, length, take, slice_range, None, Some, IfOk, OnOk, IfErr, MatchOption, Result, ⊤}
use Rattle.std.specs.declared.option.Option.{Option}
use Rattle.json_io.specs.Known.{if_known}
use Rattle.json_io.specs.Outside.{SourceState}
use Rattle.json_io.specs.declared.error.Error.{Error}
use Rattle.json_lines.specs.declared.line_reader.LineReader.{LineReader}
use Rattle.json_lines.specs.declared.line_reader.Line.{Line}
use Rattle.json_lines.specs.declared.line_reader.Line.TheVariants.{Whole, TooLong}
use Rattle.json_lines.specs.declared.line_reader.LineRange.{LineRange}
use Rattle.json_lines.specs.declared.line_reader.LineRange.TheVariants as range
use Rattle.json_lines.specs.Lines.{has_newline, first_line, after_line}
use Rattle.json_lines.specs.Reading.{ReaderState, line_reader_state, held_bytes, ReadsBytes, NextLineCause}

-- the range of the first line of these bytes in the buffer
abbrev pub IsLineRange : ℕ → List ℕ → List ℕ → LineRange → Type 0
IsLineRange limit bytes buffer range.End = bytes ≡ []
IsLineRange limit bytes buffer (range.Bytes from to) = (0 < length bytes) × (slice_range buffer from to ≡ first_line bytes) × (from ≤ to) × (to ≤ length buffer) × (to ≤ from + limit)
IsLineRange limit bytes buffer range.TooLong = limit < length (first_line bytes)

-- the line in that range
abbrev pub IsLineAt : List ℕ → LineRange → Option Line → Type 0
IsLineAt items range.End None = ⊤
IsLineAt items (range.Bytes from to) (Some (Whole line)) = line.now ≡ slice_range items from to
IsLineAt items range.TooLong (Some TooLong) = ⊤
IsLineAt items place line = ⊥

-- the bytes that were read after those that were held
abbrev pub new_bytes : LineReader → LineReader → List ℕ
new_bytes old new = slice_range new.buffer.items old.end new.end

-- one read gave n bytes, which are held after the others
pub record ReadsMore (old new : LineReader) (source source' : SourceState) (n : ℕ) : Type 0 where
  pub reads : ReadsBytes (line_reader_state old) (line_reader_state new) source source' (new_bytes old new)
  pub no_fault : source'.faults ≡ source.faults
  pub ends : n ≡ 0 → source'.left ≡ if_known source.left []
  pub same_start : new.start ≡ old.start
  pub end_so : new.end ≡ old.end + n
  pub kept : take old.end new.buffer.items ≡ take old.end old.buffer.items
  pub goes_on : new.stopped ≡ None

-- what was read is held, and no line has ended
pub record ReadsUnended (old new : ReaderState) (source source' : SourceState) : Type 0 where
  pub bytes : List ℕ
  pub reads : ReadsBytes old new source source' bytes
  pub no_fault : source'.faults ≡ source.faults
  pub held_so : new.held ≡ old.held ++ bytes
  pub no_newline : has_newline (old.held ++ bytes) ≡ false
  pub goes_on : new.stopped ≡ None

-- the line is too long, has not ended, and none of it is held
pub record SkipsLine (old new : ReaderState) (source source' : SourceState) : Type 0 where
  pub bytes : List ℕ
  pub reads : ReadsBytes old new source source' bytes
  pub no_fault : source'.faults ≡ source.faults
  pub held_none : new.held ≡ []
  pub no_newline : has_newline (old.held ++ bytes) ≡ false
  pub goes_on : new.stopped ≡ None

-- the reader lost the first line of what it held and read, and its newline; the last needs none
pub record DropsLine (old new : ReaderState) (source source' : SourceState) (bytes : List ℕ) : Type 0 where
  pub reads : ReadsBytes old new source source' bytes
  pub no_fault : source'.faults ≡ source.faults
  pub rest : new.held ≡ after_line (old.held ++ bytes)
  pub ended : (has_newline (old.held ++ bytes) ≡ true) ⊎ (source'.left ≡ if_known source.left [])
  pub goes_on : new.stopped ≡ None

-- the range of the first line of what was held and read
pub record FindsLine (old new : LineReader) (source source' : SourceState) (place : LineRange) : Type 0 where
  pub bytes : List ℕ
  pub drops : DropsLine (line_reader_state old) (line_reader_state new) source source' bytes
  pub found : IsLineRange old.limit (held_bytes old ++ bytes) new.buffer.items place

-- the call failed with this error
pub record NextLineFails (old new : ReaderState) (source source' : SourceState) (error : Error) : Type 0 where
  pub bytes : List ℕ
  pub reads : ReadsBytes old new source source' bytes
  pub stops : new.stopped ≡ Some error
  pub cause : NextLineCause new source source' error.code error.place

-- a call of `next_line`, with the range of the line in place of the line
pub record LocatesLine (old new : LineReader) (source source' : SourceState) (result : Result LineRange Error) : Type 0 where
  pub ok : IfOk result (FindsLine old new source source')
  pub going : OnOk result (old.stopped ≡ None)
  pub err : IfErr result (λ e. MatchOption old.stopped (NextLineFails (line_reader_state old) (line_reader_state new) source source' e) (λ known. (known ≡ e) × (new ≡ old) × (source' ≡ source)))
