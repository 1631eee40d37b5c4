use Rattle.std.proofs.Common.{◌≡◌, ◌≤◌, length}
use denote.Text.{Utf8}
use denote.Shadow.{shadow}
use Rattle.json_query.specs.Reading.{Skips}
use Rattle.json_query.specs.TextStates.{State, outcome}
use Rattle.json_query.proofs.cursor.skip_blank.Given as goal

abbrev pub invariant-blank : goal.invariant-blank
invariant-blank l = record { text : shadow (Utf8 l.rest); skipped : (s : State) → Skips s → outcome s l.fn.text ≡ outcome s l.rest; within : length l.rest ≤ length l.fn.text }

abbrev pub decreases-blank : goal.decreases-blank
decreases-blank l = length l.rest
