use Rattle.std.proofs.Common.{◌∙◌, refl}
use Rattle.json_tokens.specs.Values.{value_state}
use Rattle.json_tokens.proofs.ValueSteps.{skips, not_failed}
use Rattle.json_tokens.proofs.value_tokens.ValueTokensTokensRefStr.skip.Goals as goal

pub returns-clause-ok : goal.returns-clause-ok
returns-clause-ok c = skips c.args.self.now _ (value_state c.reach_element.new.self) c.reach_element.ensures.state c.requires refl

pub returns-clause-unfailed : goal.returns-clause-unfailed
returns-clause-unfailed c = not_failed _ (c.reach_element.ensures.state.failed ∙ c.if-self.false)
