use Rattle.std.proofs.Common.{◌≤◌, [], refl, sym, subst}
use Rattle.json_text.specs.Parsing.{ParserState}
use Rattle.json_tokens.proofs.Events.{place_is, fresh_reading}
use Rattle.json_tokens.proofs.text_tokens.TextTokens.lossy.Goals as goal

pub returns-clause-fresh : goal.returns-clause-fresh
returns-clause-fresh c = let h = c.lossy.ensures.fresh.0 in record { none = h; taken = h; expected = place_is c.lossy.result [] h; ahead = refl; failed = refl }

pub invariant_of-result : goal.invariant_of-result
invariant_of-result c = fresh_reading c.lossy.result c.lossy.ensures.fresh.0 c.lossy.ensures.fresh.1 (subst (λ (p : ParserState). p.start ≤ p.index) (sym c.lossy.ensures.lossy) c.self.invariant.order)
