use Rattle.std.proofs.Common.{List, None, false, ap}
use Rattle.json_tokens.specs.Values.{Left, value_state}
use Rattle.json_tokens.proofs.ValueSteps.{exit_some}
use Rattle.json_tokens.proofs.value_tokens.ValueTokens.exit.Goals as goal

pub returns-in-Some-clause-state : goal.returns-in-Some-clause-state
returns-in-Some-clause-state c = λ l ls e.
    let s = c.args.self.now in
    ap (λ (ks : List Left). record (value_state s) { next = None; levels = ks; peeked = false })
    (exit_some s.inner c.in-Some.level s.outer.items c.pop.new.self.items l ls e c.in-Some.ensures.items)
