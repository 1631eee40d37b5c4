use Rattle.std.proofs.Common.{IfSome, subst, ◌∙◌}
use Rattle.mezdruk_help.specs.Usage.{FirstInvalid}
use Rattle.mezdruk_help.proofs.First.{named}
use Rattle.mezdruk_help.proofs.usage.Usage.arguments_report.Goals as goal

pub returns-clause-first : goal.returns-clause-first
returns-clause-first c =
    let this = subst (λ o. IfSome o (λ v. FirstInvalid c.args.self.now c.args.words.now v.index)) c.in-Some.is c.in_ok-invalid.ensures.first in
    λ i first. named c.args.self.now c.args.words.now c.in-Some.invalid.index i _ _ _ _ _ this c.word.ensures (c.as_str.ensures.value ∙ c.in_ok-argument.ensures.ok) c.in_ok-line.ensures.ok first
