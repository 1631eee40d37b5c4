use Rattle.std.proofs.Common.{◌-◌, ◌≤◌, List, None, false, length}
use Rattle.json_grammar.specs.Tree.{Token}
use Rattle.json_text.specs.Parsing.{state_of}
use Rattle.json_text.specs.Ruled.{rules_of}
use Rattle.json_doc.specs.OpenNames.{Differ}
use Rattle.json_doc.specs.Progress.{AreInStep}
use Rattle.json_doc.proofs.reader.read_by.Given as goal

abbrev pub invariant-events : goal.invariant-events
invariant-events l = (ts : List Token) × AreInStep (rules_of l.rules).limit (state_of l.text 0 false l.limit l.at l.kinds l.expected None) l.visitor l.text ts × Differ (rules_of l.rules) l.keys ts × (l.at ≤ length l.text)

abbrev pub decreases-events : goal.decreases-events
decreases-events l = length l.text - l.at
