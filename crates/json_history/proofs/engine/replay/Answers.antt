use Rattle.std.proofs.Common.{map}
use Rattle.json_text.specs.Ruled.{rules_of}
use Rattle.json_value.specs.Denotes.{tree_of}
use Rattle.json_value.proofs.ProperValues.{value_proper}
use Rattle.json_history.specs.Calls.{call_of}
use Rattle.json_history.specs.LogOfHistory.{log_of}
use Rattle.json_history.specs.History.{history_of}
use Rattle.json_history.proofs.Replaying.{calls_of_document, replay_ok_by_rules, printing_fails_by_rules}
use Rattle.json_history.proofs.engine.replay.Goals as goal

pub returns-clause-done : goal.returns-clause-done
returns-clause-done g c =
    let cs = map call_of c.args.calls.items in
    let left = history_of (log_of c.make_calls.new.history) in
    let made = calls_of_document cs c.in_ok-doc.doc.value _ c.in_ok-value.value _ (history_of (log_of c.new-history.result)) left c.new-history.ensures.history c.in_ok-value.ensures.tree c.root.ensures.place c.deref.ensures c.in_ok-make_calls.ensures.ok in
    replay_ok_by_rules (rules_of c.usual.result) c.usual.ensures cs _ _ _ _ _ (tree_of c.value.result.now) left c.value.ensures.tree c.compact_style.result c.compact_style.ensures.indent c.compact_style.ensures.sorted c.print_value.result c.in_ok-doc.ensures.read made c.print_value.ensures.prints (value_proper c.value.result.now)

pub returns-clause-failed : goal.returns-clause-failed
returns-clause-failed g c =
    let cs = map call_of c.args.calls.items in
    let left = history_of (log_of c.make_calls.new.history) in
    let made = calls_of_document cs c.in_ok-doc.doc.value _ c.in_ok-value.value _ (history_of (log_of c.new-history.result)) left c.new-history.ensures.history c.in_ok-value.ensures.tree c.root.ensures.place c.deref.ensures c.in_ok-make_calls.ensures.ok in
    printing_fails_by_rules (rules_of c.usual.result) c.usual.ensures cs _ _ _ _ _ (tree_of c.value.result.now) left c.value.ensures.tree c.compact_style.result c.compact_style.ensures.indent c.compact_style.ensures.sorted c.print_value.result c.in_ok-doc.ensures.read made c.print_value.ensures.prints
