use Rattle.std.proofs.Common.{◌≤◌, [], refl, sym, subst}
use Rattle.json_text.specs.Parsing.{ParserState}
use Rattle.json_tokens.proofs.Events.{place_is, fresh_reading}
use Rattle.json_tokens.proofs.text_tokens.TextTokens.depth.Goals as goal

pub returns-clause-fresh : goal.returns-clause-fresh
returns-clause-fresh c = let h = c.depth.ensures.fresh.0 in record { none = h; taken = h; expected = place_is c.depth.result [] h; ahead = refl; failed = refl }

pub invariant_of-result : goal.invariant_of-result
invariant_of-result c = fresh_reading c.depth.result c.depth.ensures.fresh.0 c.depth.ensures.fresh.1 (subst (λ (p : ParserState). p.start ≤ p.index) (sym c.depth.ensures.limit) c.self.invariant.order)
