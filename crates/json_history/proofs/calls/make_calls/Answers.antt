use Rattle.std.proofs.Common.{map, ap, sym, ◌∙◌, length, arith}
use Rattle.std.specs.Vec.Iter.{into_iter_items}
use Rattle.json_history.specs.Calls.{call_of}
use Rattle.json_history.specs.History.{history_of, run_calls_from}
use Rattle.json_history.specs.LogOfHistory.{log_of}
use Rattle.json_history.proofs.CallSequences.{done_one_more, made_one_more, parts_one_more, count_one_more, numbered_call_fails, made_first}
use Rattle.json_history.proofs.calls.make_calls.Goals as goal

pub loop-call-preserved : goal.loop-call-preserved
loop-call-preserved c =
    let at = c.loop-call in
    let rest = into_iter_items c.next.new.self in
    let steps = c.in-Some.ensures.steps.0 in
    let old = history_of (log_of at.history) in
    let new = history_of (log_of c.make_call.new.history) in
    record {
      done = done_one_more at.number old new (history_of (log_of c.args.history.now)) c.in-Some.call (into_iter_items at.call-iterator) rest c.args.calls.items steps c.in-Ok.ensures.ok at.invariant.done;
      parts = parts_one_more c.args.calls.items at.yielded (into_iter_items at.call-iterator) rest c.in-Some.call at.invariant.parts steps;
      made = made_one_more (history_of (log_of c.args.history.now)) old new at.yielded c.in-Some.call at.invariant.made c.in-Ok.ensures.ok;
      number = count_one_more at.number at.yielded c.in-Some.call at.invariant.number;
      count = omega (arith, at.invariant.count, ap length steps);
    }

pub returns-in-Err-clause-refused : goal.returns-in-Err-clause-refused
returns-in-Err-clause-refused c =
    let at = c.loop-call in
    let rest = map call_of (into_iter_items c.next.new.self) in
    numbered_call_fails at.number (history_of (log_of at.history)) (history_of (log_of c.args.history.now)) (call_of c.in-Some.call) rest (map call_of c.args.calls.items) c.in-Err.error c.error_at_call.result
    (ap (λ xs. run_calls_from at.number (history_of (log_of at.history)) (map call_of xs)) (sym c.in-Some.ensures.steps.0) ∙ at.invariant.done)
    c.in-Err.ensures.refused c.error_at_call.ensures.code c.error_at_call.ensures.place

pub returns-in-Err-clause-made : goal.returns-in-Err-clause-made
returns-in-Err-clause-made c =
    let at = c.loop-call in
    made_first (history_of (log_of c.args.history.now)) (log_of at.history) (log_of c.make_call.new.history) c.args.calls.items at.yielded (into_iter_items at.call-iterator) (into_iter_items c.next.new.self) c.in-Some.call at.number c.in-Err.error c.error_at_call.result
    at.invariant.parts c.in-Some.ensures.steps.0 at.invariant.made c.in-Err.ensures.kept at.invariant.number c.in-Err.ensures.refused c.error_at_call.ensures.place
