use Rattle.json_tokens.proofs.ValueSteps.{leaves, not_failed}
use Rattle.std.proofs.Common.{◌∙◌}
use Rattle.json_tokens.proofs.value_tokens.ValueTokensTokensRefStr.leave.Goals as goal

pub returns-clause-ok : goal.returns-clause-ok
returns-clause-ok c = leaves c.args.self.now c.exit.new.self c.requires c.exit.ensures.state

pub returns-clause-unfailed : goal.returns-clause-unfailed
returns-clause-unfailed c = not_failed _ (c.exit.ensures.failed ∙ c.if-self.false)
