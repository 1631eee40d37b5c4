use Rattle.std.proofs.Common.{◌<◌, ◌^◌, length, map, arith}
use Rattle.std.proofs.lemmas.List.{length-map}
use Rattle.std.proofs.lemmas.Result.{IfOk-weaker}
use Rattle.json_history.specs.Calls.{call_of}
use Rattle.json_history.specs.Spelling.{SpellsCalls}
use Rattle.json_history.proofs.CallWords.{spelled_calls_below_max}
use Rattle.json_history.proofs.arguments.requested_calls.Goals as goal

pub returns-clause-few : goal.returns-clause-few
returns-clause-few c =
    IfOk-weaker c.read_call_argument.result (λ cs. SpellsCalls c.word.result.now (map call_of cs.items)) (λ cs. length cs.items < 2 ^ 32)
    (λ cs s. omega (arith, spelled_calls_below_max c.word.result.now (map call_of cs.items) s, length-map cs.items call_of))
    c.read_call_argument.ensures.ok
