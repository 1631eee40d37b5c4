use Rattle.std.proofs.Common.{map}
use Rattle.json_value.specs.Left.{elements_left}
use Rattle.json_value.specs.Seen.{elements_seen}
use Rattle.json_data.proofs.Spelling.{Taken}
use Rattle.json_history.specs.Calls.{call_of}
use Rattle.json_history.specs.Spelling.{call_in}
use Rattle.json_history.proofs.arguments.read_calls.Given as goal

abbrev pub invariant-calls : goal.invariant-calls
invariant-calls l =
    (goal.iterator-calls).can_next l.element-iterator × (goal.iterator-calls).is_finite l.element-iterator
    × Taken call_in (elements_seen l.fn.array) (elements_left l.element-iterator) (map call_of l.calls.items)
