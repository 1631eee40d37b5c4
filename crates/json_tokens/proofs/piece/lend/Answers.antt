use Rattle.std.proofs.Common.{IsSome, refl, sym, subst}
use Rattle.json_tokens.proofs.KindTests.{not_some}
use Rattle.json_tokens.proofs.piece.lend.Goals as goal

pub returns-in-Some-clause-lent : goal.returns-in-Some-clause-lent
returns-in-Some-clause-lent c = (λ _. c.lent.ensures.exactly.0 (subst IsSome (sym c.in-Some.is) refl), λ _. tt)

pub returns-in_ok-copy-in-None-clause-lent : goal.returns-in_ok-copy-in-None-clause-lent
returns-in_ok-copy-in-None-clause-lent c = (λ h. absurd h, λ e. absurd (not_some c.in-None.is (c.lent.ensures.exactly.1 e)))
