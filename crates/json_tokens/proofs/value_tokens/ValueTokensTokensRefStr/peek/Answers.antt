use Rattle.json_value.specs.Seen.{seen}
use Rattle.std.proofs.Common.{◌∙◌, ap}
use Rattle.std.specs.Prelude.{option_map}
use Rattle.json_tokens.specs.Values.{value_state}
use Rattle.json_tokens.proofs.ValueSteps.{peek_value, peek_front, not_failed}
use Rattle.json_tokens.proofs.Placed.{placed_before}
use Rattle.json_tokens.proofs.value_tokens.ValueTokensTokensRefStr.peek.Goals as goal

pub returns-in-Some-clause-ok : goal.returns-in-Some-clause-ok
returns-in-Some-clause-ok c =
    peek_value (value_state c.args.self.now) (value_state c.reach_element.new.self) (seen c.in-Some.view) c.view_kind.result c.reach_element.ensures.state (ap (option_map seen) c.in-Some.is) c.view_kind.ensures

pub returns-in-None-clause-ok : goal.returns-in-None-clause-ok
returns-in-None-clause-ok c =
    peek_front (value_state c.args.self.now) (value_state c.reach_element.new.self) c.front.result c.reach_element.ensures.state c.requires (ap (option_map seen) c.in-None.is) (c.front.ensures _)

pub returns-in-Some-clause-place : goal.returns-in-Some-clause-place
returns-in-Some-clause-place c = placed_before c.args.self.now c.reach_element.new.self c.reach_element.ensures.target

pub returns-in-None-clause-place : goal.returns-in-None-clause-place
returns-in-None-clause-place c = placed_before c.args.self.now c.reach_element.new.self c.reach_element.ensures.target

pub returns-in-Some-clause-unfailed : goal.returns-in-Some-clause-unfailed
returns-in-Some-clause-unfailed c = not_failed _ (c.reach_element.ensures.state.failed ∙ c.if-self.false)

pub returns-in-None-clause-unfailed : goal.returns-in-None-clause-unfailed
returns-in-None-clause-unfailed c = not_failed _ (c.reach_element.ensures.state.failed ∙ c.if-self.false)
