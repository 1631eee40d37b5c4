use Rattle.std.proofs.Common.{Some, ◌∙◌, inl, sym, ap, refl}
use Rattle.std.specs.Prelude.{option_map}
use Rattle.json_value.specs.Denotes.{tree_of}
use Rattle.json_value.specs.Seen.{seen}
use Rattle.json_tokens.specs.Values.{value_state}
use Rattle.json_tokens.proofs.ValueSteps.{passes, not_none, not_failed}
use Rattle.json_tokens.proofs.Placed.{made_of_next}
use Rattle.json_tokens.proofs.value_tokens.ValueTokensTokensRefStr.value.Goals as goal

pub unreachable-requires : goal.unreachable-requires
unreachable-requires c = not_none (value_state c.args.self.now) (value_state c.reach_element.new.self) c.reach_element.ensures.state c.requires (ap (option_map seen) c.in-None.is)

pub returns-in-Ok-clause-ok : goal.returns-in-Ok-clause-ok
returns-in-Ok-clause-ok c =
    passes c.args.self.now _ (value_state c.reach_element.new.self) (tree_of c.in-Ok.value) c.reach_element.ensures.state (ap (option_map seen) c.in-Some.is ∙ ap Some (sym c.in-Ok.ensures.tree)) refl

pub returns-in-Ok-clause-place : goal.returns-in-Ok-clause-place
returns-in-Ok-clause-place c = made_of_next c.args.self.now c.reach_element.new.self c.in-Some.view c.in-Ok.value c.reach_element.ensures.target c.in-Some.is c.in-Ok.ensures.position c.in-Ok.ensures.places

pub returns-in-Ok-clause-unfailed : goal.returns-in-Ok-clause-unfailed
returns-in-Ok-clause-unfailed c = not_failed _ (c.reach_element.ensures.state.failed ∙ c.if-self.false)

pub returns-in-Err-clause-cause : goal.returns-in-Err-clause-cause
returns-in-Err-clause-cause c = λ _. inl c.exhaust.ensures.error
