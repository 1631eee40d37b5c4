use Rattle.std.proofs.Common.{◌≡◌, ◌∙◌, List, [], Option, Some, sym, ap, subst, option_map}
use Rattle.json_grammar.specs.Tree.{Token as Tok}
use Rattle.json_tokens.specs.declared.ahead.Ahead.{Ahead}
use Rattle.json_tokens.specs.TokensStates.{Peeks, TakesTokens}
use Rattle.json_tokens.specs.Text.{TextTokensState, TakenBefore, text_taken, text_tokens_state}
use Rattle.json_tokens.proofs.Events.{event_number}
use Rattle.json_tokens.proofs.TextSteps.{takes_next}
use Rattle.json_tokens.proofs.text_tokens.TextTokens.take.Goals as goal

pub token-requires : goal.token-requires
token-requires c =
    let i = c.self.invariant.given in
    let p = c.self.inside.parser in
    let e = c.in-Some.ahead.event in
    let g : TakenBefore (Some e) p i.0 = subst (λ (o : Option Ahead). TakenBefore (option_map (λ (h : Ahead). h.event) o) p i.0) c.in-Some.is i.1 in
    record { number = event_number p e i.0 g.0 g.1 g.2 }

pub returns-clause-ok : goal.returns-clause-ok
returns-clause-ok c =
    let s = c.self.inside in
    let i = c.self.invariant.given in
    let e = c.in-Some.ahead.event in
    let m : TextTokensState = record { parser = s.parser; ahead = Some e; failed = s.failed } in
    let w : c.look.new.self ≡ m = sym c.self.view_is ∙ ap (λ (o : Option Ahead). record { parser = s.parser; ahead = option_map (λ (h : Ahead). h.event) o; failed = s.failed }) c.in-Some.is in
    let g : (ts : List Tok) × TakenBefore (Some e) s.parser ts = (i.0, subst (λ (o : Option Ahead). TakenBefore (option_map (λ (h : Ahead). h.event) o) s.parser i.0) c.in-Some.is i.1) in
    let r = takes_next c.args.self.now s.parser s.failed e c.in_ok-look.field-0 g
    (subst (λ (n : TextTokensState). Peeks (text_tokens_state c.args.self.now) (text_tokens_state n) c.in_ok-look.field-0) w c.in_ok-look.ensures.ok)
    (subst (λ (n : TextTokensState). TakesTokens text_taken c.args.self.now [] n) w c.in_ok-look.ensures.none) in
    (r.0, c.token.ensures r.0 r.1, r.2)
