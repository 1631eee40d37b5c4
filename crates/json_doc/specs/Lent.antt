-- What an event lends, in an input.
use Rattle.std.specs.Prelude.{◌≡◌, ℕ, ◌+◌, ◌-◌, ◌≤◌, List, length}
use Rattle.json_grammar.specs.Given.{piece}
use Rattle.json_text.specs.declared.span.Span.{Span}
use Rattle.json_text.specs.declared.event.Event.{Event}
use Rattle.json_text.specs.declared.event.Event.TheVariants as event

-- the bytes b have what is between the quotes from i on
pub record IsLentBy (s : Span) (b : List ℕ) (i : ℕ) : Type 0 where
  pub within : i + length s.raw.now ≤ length b
  pub bytes : s.raw.now ≡ piece b i (i + length s.raw.now)

-- the bytes l are in the bytes b from i on
pub record IsPieceAt (l b : List ℕ) (i : ℕ) : Type 0 where
  pub within : i + length l ≤ length b
  pub bytes : l ≡ piece b i (i + length l)

-- so does what a string or a name has between its quotes, and the literal of a number
abbrev pub EventIsLentBy : Event → List ℕ → ℕ → Type 0
EventIsLentBy (event.Number l) b i = IsPieceAt l.now b i
EventIsLentBy (event.Str s) b i = IsLentBy s b i
EventIsLentBy (event.Key s) b i = IsLentBy s b i
EventIsLentBy _ b i = Unit {0}

-- the offset at which it begins in an input in which the event's token ends before j
abbrev pub from_of : Event → ℕ → ℕ
from_of (event.Number l) j = j - length l.now
from_of (event.Str s) j = j - 1 - length s.raw.now
from_of (event.Key s) j = j - 1 - length s.raw.now
from_of _ j = 0
