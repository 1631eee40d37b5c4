use Rattle.mezdruk_files.specs.Outcomes.{line_in}
use Rattle.json_value.specs.Left.{elements_left}
use Rattle.json_value.specs.Seen.{elements_seen}
use Rattle.mezdruk_files.proofs.EachLine.{WroteSoFar}
use Rattle.mezdruk_files.proofs.each_line.write_each.Given as goal

abbrev pub invariant-elements : goal.invariant-elements
invariant-elements g l = WroteSoFar (line_in l.fn.raw l.fn.style) (elements_seen l.fn.array) (elements_left l.element-iterator) (g.K.Sink.state l.fn.sink) (g.K.Sink.state l.sink)
