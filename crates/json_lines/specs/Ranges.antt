-- Ranges of the buffer.
use Rattle.std.specs.Prelude.{◌≡◌, ◌≢◌, ℕ, ◌+◌, ◌<◌, ◌≤◌}
use Rattle.json_lines.specs.declared.line_reader.LineRange.{LineRange}
use Rattle.json_lines.specs.declared.line_reader.LineRange.TheVariants as range

-- the range of a line of len bytes that begins at `from`
abbrev pub IsRangeFrom : ℕ → ℕ → ℕ → LineRange → Type 0
IsRangeFrom from len limit range.End = ⊥
IsRangeFrom from len limit (range.Bytes from' to) = (from' ≡ from) × (to ≡ from + len) × (len ≤ limit)
IsRangeFrom from len limit range.TooLong = limit < len

-- the range of the last line, which has no newline; an empty one is no line
abbrev pub IsLastRange : ℕ → ℕ → LineRange → Type 0
IsLastRange from to range.End = from ≡ to
IsLastRange from to (range.Bytes from' to') = (from' ≡ from) × (to' ≡ to) × (from ≢ to)
IsLastRange from to range.TooLong = ⊥
