use Rattle.std.proofs.Common.{◌≡◌, ◌+◌, ◌++◌, Ok, map, length}
use Rattle.std.specs.Vec.Iter.{into_iter_items}
use Rattle.json_history.specs.Calls.{call_of}
use Rattle.json_history.specs.LogOfHistory.{log_of}
use Rattle.json_history.specs.History.{history_of, run_calls_from}
use Rattle.json_history.proofs.calls.make_calls.Given as goal

abbrev pub invariant-loop-call : goal.invariant-loop-call
invariant-loop-call l = record {
  done : run_calls_from l.number (history_of (log_of l.history)) (map call_of (into_iter_items l.call-iterator)) ≡ run_calls_from 0 (history_of (log_of l.fn.history)) (map call_of l.fn.calls.items);
  parts : l.fn.calls.items ≡ l.yielded ++ into_iter_items l.call-iterator;
  made : run_calls_from 0 (history_of (log_of l.fn.history)) (map call_of l.yielded) ≡ Ok (history_of (log_of l.history));
  number : l.number ≡ length l.yielded;
  count : l.number + length (into_iter_items l.call-iterator) ≡ length l.fn.calls.items;
}
