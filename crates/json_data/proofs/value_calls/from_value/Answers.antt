use Rattle.std.proofs.Common.{◌∙◌, Option, Some, IfSome, ap, subst}
use Rattle.std.specs.Result.{IfOk}
use Rattle.std.proofs.lemmas.Result.{MatchResult-weaker}
use Rattle.json_value.specs.ViewTargets.{ViewTarget}
use Rattle.json_tokens.specs.Values.{at_begin, IsMadeOf}
use Rattle.json_data.proofs.ValueCalls.{wants_value, read_value, value_fails}
use Rattle.json_data.proofs.value_calls.from_value.Goals as goal

pub deserialize-requires : goal.deserialize-requires
deserialize-requires g c = wants_value c.new-tokens.result _ c.new-tokens.ensures.state

pub returns-clause-ok : goal.returns-clause-ok
returns-clause-ok g c =
    MatchResult-weaker c.deserialize.result c.deserialize.ensures.ok
    (λ v h. read_value c.new-tokens.result c.deserialize.new.tokens _ g.T.DeserializeFrom.from_tree _ (c.new-tokens.ensures.state ∙ ap at_begin c.view.ensures.tree) h) (λ e h. h)

pub returns-clause-err : goal.returns-clause-err
returns-clause-err g c =
    MatchResult-weaker c.deserialize.result c.deserialize.ensures.err (λ v h. h)
    (λ e h. value_fails c.new-tokens.result c.deserialize.new.tokens _ g.T.DeserializeFrom.from_tree e (c.new-tokens.ensures.state ∙ ap at_begin c.view.ensures.tree) h)

pub returns-clause-place : goal.returns-clause-place
returns-clause-place g c =
    subst (λ (x : Option ViewTarget). IfOk c.deserialize.result (g.T.DeserializeFrom.placed (λ v. IfSome x (λ s. IsMadeOf s v))))
    (c.new-tokens.ensures.target ∙ ap Some c.view.ensures.target) c.deserialize.ensures.place
