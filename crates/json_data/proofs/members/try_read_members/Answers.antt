use Rattle.std.proofs.Common.{refl}
use Rattle.json_data.proofs.members.try_read_members.Goals as goal

pub returns-in-Ok-clause-ok : goal.returns-in-Ok-clause-ok
returns-in-Ok-clause-ok g c = λ _. c.in-Ok.ensures.ok c.args.tokens.now (c.if-not-begins.ensures.begun refl)
