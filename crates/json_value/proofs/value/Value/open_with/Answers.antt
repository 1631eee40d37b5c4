use Rattle.std.proofs.Common.{inr, refl}
use Rattle.json_value.proofs.Lent.{made_null}
use Rattle.json_value.proofs.value.Value.open_with.Goals as goal

pub returns-in_ok-push-clause-ok : goal.returns-in_ok-push-clause-ok
returns-in_ok-push-clause-ok c = made_null c.args.key.now c.in_ok-key.key c.args.self.now c.in_ok-list.list.items c.push.new.self c.in-Null.is c.in_ok-list.ensures.items c.in_ok-push.ensures.items c.in_ok-key.ensures.text

pub returns-in_ok-push-clause-made : goal.returns-in_ok-push-clause-made
returns-in_ok-push-clause-made c = inr (c.in-Null.is, (c.push.new.self, refl))
