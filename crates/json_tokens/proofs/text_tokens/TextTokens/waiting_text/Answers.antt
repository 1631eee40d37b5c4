use Rattle.std.proofs.Common.{◌≡◌, ◌∙◌, Option, Some, None, sym, ap, subst, option_map}
use Rattle.json_text.specs.declared.event.Event.{Event}
use Rattle.json_text.specs.declared.event.Event.TheVariants as event
use Rattle.json_tokens.specs.declared.ahead.Ahead.{Ahead}
use Rattle.json_tokens.specs.TokensStates.{TakesText}
use Rattle.json_tokens.specs.Text.{TextTokensState, TakenBefore, text_taken, text_tokens_state}
use Rattle.json_tokens.specs.Pieces.{Says}
use Rattle.json_tokens.proofs.Waiting.{waits, text_waiting}
use Rattle.json_tokens.proofs.text_tokens.TextTokens.waiting_text.Goals as goal

pub returns-in-Str-clause-takes : goal.returns-in-Str-clause-takes
returns-in-Str-clause-takes c =
    let s = c.self.inside in
    let i = c.self.invariant.given in
    let e : Event = event.Str c.in-Str.span in
    let h : option_map (λ (h : Ahead). h.event) s.ahead ≡ Some e = ap (option_map (λ (h : Ahead). h.event)) c.in-Some.is ∙ ap (λ (v : Event). Some v) c.in-Str.is in
    let w : waits s.parser s.failed e ≡ c.args.self.now = ap (λ (o : Option Event). record { parser = s.parser; ahead = o; failed = s.failed }) (sym h) ∙ c.self.view_is in
    let g : TakenBefore (Some e) s.parser i.0 = subst (λ (o : Option Event). TakenBefore o s.parser i.0) h i.1 in
    let says : _ = λ s. Says s c.plain_piece.result.escaped c.plain_piece.result.text.now in
    subst (λ (a : TextTokensState). TakesText text_taken text_tokens_state says a (record { parser = s.parser; ahead = None; failed = s.failed })) w (text_waiting s.parser s.failed c.in-Str.span says (i.0, g) c.plain_piece.ensures)
