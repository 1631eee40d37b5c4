use Rattle.std.proofs.Common.{length, ◌-◌, ◌≤◌}
use Rattle.json_grammar.specs.Grammar.{IsDigit}
use Rattle.json_scan.proofs.RunEnds.{Each}
use Rattle.json_scan.proofs.runs.digits_end_of_few.Given as goal

abbrev pub invariant-loop-at : goal.invariant-loop-at
invariant-loop-at l = record { order : l.from ≤ l.at; within : l.at ≤ length l.bytes; each : Each IsDigit l.bytes l.from l.at }

abbrev pub decreases-loop-at : goal.decreases-loop-at
decreases-loop-at l = length l.bytes - l.at
