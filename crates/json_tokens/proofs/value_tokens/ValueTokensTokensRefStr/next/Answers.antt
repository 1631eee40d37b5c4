use Rattle.std.proofs.Common.{◌∙◌, ap}
use Rattle.std.proofs.lemmas.Result.{IfOk-weaker, IfErr-weaker}
use Rattle.json_grammar.specs.TokenStates.{TokenState, after_token}
use Rattle.json_tokens.proofs.ValueSteps.{one_taken, settled, not_failed}
use Rattle.json_tokens.proofs.value_tokens.ValueTokensTokensRefStr.next.Goals as goal

pub returns-in-Some-clause-ok : goal.returns-in-Some-clause-ok
returns-in-Some-clause-ok c =
    let e = c.reach_element.ensures.state in
    IfOk-weaker c.take_value.result _ _ (λ y h. (h.0, h.1, one_taken c.args.self.now c.take_value.new.self h.0 (settled e h.2 (ap (λ (p : TokenState). after_token p h.0) e.expected)))) c.take_value.ensures.ok

pub returns-in-None-clause-ok : goal.returns-in-None-clause-ok
returns-in-None-clause-ok c =
    let e = c.reach_element.ensures.state in
    let h = c.take_front.ensures in
    (h.0, h.1, one_taken c.args.self.now c.take_front.new.self h.0 (settled e h.2 (ap (λ (p : TokenState). after_token p h.0) e.expected)))

pub returns-in-Some-clause-unfailed : goal.returns-in-Some-clause-unfailed
returns-in-Some-clause-unfailed c =
    IfOk-weaker c.take_value.result _ _ (λ y h. not_failed _ (h.2.failed ∙ c.reach_element.ensures.state.failed ∙ c.if-self.false)) c.take_value.ensures.ok

pub returns-in-Some-clause-cause : goal.returns-in-Some-clause-cause
returns-in-Some-clause-cause c = λ _. IfErr-weaker c.take_value.result _ _ (λ e h. h.0) c.take_value.ensures.err

pub returns-in-None-clause-unfailed : goal.returns-in-None-clause-unfailed
returns-in-None-clause-unfailed c = not_failed _ (c.take_front.ensures.2.failed ∙ c.reach_element.ensures.state.failed ∙ c.if-self.false)
