use Rattle.std.proofs.Common.{length, ◌-◌, ◌≤◌}
use Rattle.json_grammar.specs.Grammar.{IsWhitespace}
use Rattle.json_scan.proofs.RunEnds.{Each}
use Rattle.json_scan.proofs.runs.ws_end_by_blocks.Given as goal

abbrev pub invariant-scan : goal.invariant-scan
invariant-scan l = record { order : l.from ≤ l.at; within : l.at ≤ length l.bytes; each : Each IsWhitespace l.bytes l.from l.at }

abbrev pub decreases-scan : goal.decreases-scan
decreases-scan l = length l.bytes - l.at
