use Rattle.std.proofs.Common.{◌∙◌, refl, sym}
use Rattle.json_value.specs.Seen.{seen}
use Rattle.json_tokens.specs.Values.{value_state}
use Rattle.json_tokens.proofs.ValueSteps.{array_entered, object_entered, scalar_one, scalar_taken}
use Rattle.json_tokens.proofs.value_tokens.ValueTokens.take_value.Goals as goal

pub returns-in_ok-enter-in-Array-clause-ok : goal.returns-in_ok-enter-in-Array-clause-ok
returns-in_ok-enter-in-Array-clause-ok c = (
  _,
  refl,
  array_entered (value_state c.args.self.now) (value_state c.enter.new.self) (seen c.args.view) c.elements.result c.requires
      (sym c.get_type.ensures ∙ c.in-Array.is) c.elements.ensures c.in_ok-enter-in-Array.ensures.ok,
)

pub returns-in_ok-enter-in-Object-clause-ok : goal.returns-in_ok-enter-in-Object-clause-ok
returns-in_ok-enter-in-Object-clause-ok c = (
  _,
  refl,
  object_entered (value_state c.args.self.now) (value_state c.enter-in-Object.new.self) (seen c.args.view) c.members.result c.requires
      (sym c.get_type.ensures ∙ c.in-Object.is) c.members.ensures c.in_ok-enter-in-Object.ensures.ok,
)

pub returns-in_default-clause-ok : goal.returns-in_default-clause-ok
returns-in_default-clause-ok c =
    let o = scalar_one (seen c.args.view) (λ e. c.in_default.not-Array (c.get_type.ensures ∙ e)) (λ e. c.in_default.not-Object (c.get_type.ensures ∙ e)) in
    (o.0, c.scalar_token.ensures o.0 o.1, scalar_taken (value_state c.args.self.now) (seen c.args.view) o.0 c.requires o.1 o.2)
