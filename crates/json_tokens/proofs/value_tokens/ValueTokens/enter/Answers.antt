use Rattle.std.proofs.Common.{List, None, false, ap}
use Rattle.json_tokens.specs.Values.{Left, value_state}
use Rattle.json_tokens.proofs.ValueSteps.{entered}
use Rattle.json_tokens.proofs.value_tokens.ValueTokens.enter.Goals as goal

pub returns-in-Ok-clause-ok : goal.returns-in-Ok-clause-ok
returns-in-Ok-clause-ok c =
    let s = c.args.self.now in
    ap (λ (ks : List Left). record (value_state s) { next = None; levels = ks; peeked = false })
    (entered c.replace-outer.new.dest c.args.level c.replace-outer.result s.inner s.outer.items c.push.new.self.items c.replace-outer.ensures.after c.replace-outer.ensures.value c.in-Ok.ensures.items)
