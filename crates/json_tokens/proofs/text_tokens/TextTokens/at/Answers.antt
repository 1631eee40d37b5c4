use Rattle.std.proofs.Common.{[], refl, arith}
use Rattle.json_tokens.proofs.Events.{place_is, fresh_reading}
use Rattle.json_tokens.proofs.text_tokens.TextTokens.at.Goals as goal

pub returns-clause-fresh : goal.returns-clause-fresh
returns-clause-fresh c = let h = c.at.ensures.fresh.0 in record { none = h; taken = h; expected = place_is c.at.result [] h; ahead = refl; failed = refl }

pub invariant_of-result : goal.invariant_of-result
invariant_of-result c = fresh_reading c.at.result c.at.ensures.fresh.0 c.at.ensures.fresh.1 (omega (arith, c.at.ensures.start.0, c.at.ensures.start.1))
