use Rattle.std.proofs.Common.{map, rules}
use Rattle.json_history.specs.Calls.{call_of}
use Rattle.json_history.proofs.RunOutcomes.{run_succeeds, run_fails_by_replay, run_fails_by_words}
use Rattle.json_history.proofs.top.apply_calls.Goals as goal

pub returns-in_err-calls-clause-failed : goal.returns-in_err-calls-clause-failed
returns-in_err-calls-clause-failed g c = run_fails_by_words c.from_residual.result c.args.arguments.now _ _ (search rules)

pub returns-clause-done : goal.returns-clause-done
returns-clause-done g c = run_succeeds c.replay.result c.args.arguments.now (map call_of c.in_ok-calls.calls.items) _ _ _ _ c.in_ok-calls.ensures.ok c.replay.ensures.done

pub returns-clause-failed : goal.returns-clause-failed
returns-clause-failed g c = run_fails_by_replay c.replay.result c.args.arguments.now (map call_of c.in_ok-calls.calls.items) _ _ _ _ c.in_ok-calls.ensures.ok c.replay.ensures.failed
