use Rattle.std.proofs.Common.{◌-◌, length}
use Rattle.json_doc.proofs.ValueRecording.{Records}
use Rattle.json_doc.proofs.value_reader.record_value.Given as goal

abbrev pub invariant-events : goal.invariant-events
invariant-events l = Records l.fn.parser l.parser l.first l.event l.visitor l.levels

abbrev pub decreases-events : goal.decreases-events
decreases-events l = length l.parser.text - l.parser.index
