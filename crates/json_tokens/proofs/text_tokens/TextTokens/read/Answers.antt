use Rattle.std.proofs.Common.{◌≡◌, ◌∙◌, ◌≤◌, [], Option, Some, None, IfSome, sym, ap, subst, inr, arith, option_map}
use Rattle.json_io.specs.declared.error.Error.{Error}
use Rattle.json_text.specs.declared.event.Event.{Event}
use Rattle.json_text.specs.Parsing.{ParserState, HasGiven, IsWhole, HasRead}
use Rattle.json_tokens.specs.declared.ahead.Ahead.{Ahead}
use Rattle.json_tokens.specs.TokensStates.{TakesTokens}
use Rattle.json_tokens.specs.Text.{TextTokensState, TakenBefore, text_taken, TextFails, ReadsAhead}
use Rattle.json_tokens.proofs.Events.{event_number}
use Rattle.json_tokens.proofs.TextSteps.{takes_none, fault_kept}
use Rattle.json_tokens.proofs.text_tokens.TextTokens.read.Goals as goal

pub new-requires : goal.new-requires
new-requires c =
    let i = c.self.invariant.given in
    let p = c.self.inside.parser in
    let n : option_map (λ (h : Ahead). h.event) c.self.inside.ahead ≡ None = ap (λ (t : TextTokensState). t.ahead) c.self.view_is ∙ c.requires.none in
    let h : HasGiven p i.0 = subst (λ (o : Option Event). TakenBefore o p i.0) n i.1 in
    let g = c.in-Ok.ensures.ok.goes i.0 h in
    event_number c.read_ahead.new.parser c.in-Ok.event i.0 g.0 g.1 g.2

pub invariant_of-self : goal.invariant_of-self
invariant_of-self c =
    let i = c.self.invariant.given in
    let p = c.self.inside.parser in
    let q = c.read_ahead.new.parser in
    let r = c.in-Ok.ensures.ok in
    let n : option_map (λ (h : Ahead). h.event) c.self.inside.ahead ≡ None = ap (λ (t : TextTokensState). t.ahead) c.self.view_is ∙ c.requires.none in
    let f : c.self.inside.failed ≡ None = ap (λ (t : TextTokensState). t.failed) c.self.view_is ∙ c.requires.unfailed in
    let h : HasGiven p i.0 = subst (λ (o : Option Event). TakenBefore o p i.0) n i.1 in
    let from = c.self.invariant.order in let start = r.same.start in let more = r.forward in
    record {
      given = (i.0, subst (λ (e : Event). TakenBefore (Some e) q i.0) (sym c.new.ensures) (r.goes i.0 h));
      failed = subst (λ (o : Option Error). IfSome o (TextFails q)) (sym f) tt;
      fresh = λ _. r.fresh;
      order = omega arith;
      read = c.in-Ok.ensures.read;
    }

pub invariant_of-self-in-Err : goal.invariant_of-self-in-Err
invariant_of-self-in-Err c =
    let i = c.self.invariant.given in
    let p = c.self.inside.parser in
    let e = c.in-Err.error in
    let n : option_map (λ (h : Ahead). h.event) c.self.inside.ahead ≡ None = ap (λ (t : TextTokensState). t.ahead) c.self.view_is ∙ c.requires.none in
    let h : HasGiven p i.0 = subst (λ (o : Option Event). TakenBefore o p i.0) n i.1 in
    record {
      given = (i.0, subst (λ (o : Option Event). TakenBefore o c.read_ahead.new.parser i.0) (sym n) (subst (λ (q : ParserState). HasGiven q i.0) (sym c.in-Err.ensures.kept) h));
      failed = inr (fault_kept p c.read_ahead.new.parser e c.in-Err.ensures.kept c.in-Err.ensures.fault);
      fresh = λ n. absurd (cc);
      order = subst (λ (q : ParserState). q.start ≤ q.index) (sym c.in-Err.ensures.kept) c.self.invariant.order;
      read = subst (λ (q : ParserState). IsWhole q → HasRead q) (sym c.in-Err.ensures.kept) c.self.invariant.read;
    }

pub returns-in-Ok-clause-none : goal.returns-in-Ok-clause-none
returns-in-Ok-clause-none c = λ _.
    let p = c.self.inside.parser in
    let q = c.read_ahead.new.parser in
    let f = c.self.inside.failed in
    let e = c.new.result.event in
    let n : option_map (λ (h : Ahead). h.event) c.self.inside.ahead ≡ None = ap (λ (t : TextTokensState). t.ahead) c.self.view_is ∙ c.requires.none in
    let s : record { parser = p; ahead = None; failed = f } ≡ c.args.self.now = ap (λ (o : Option Event). record { parser = p; ahead = o; failed = f }) (sym n) ∙ c.self.view_is in
    let r : ReadsAhead p e q = subst (λ (e : Event). ReadsAhead p e q) (sym c.new.ensures) c.in-Ok.ensures.ok in
    subst (λ (a : TextTokensState). TakesTokens text_taken a [] (record { parser = q; ahead = Some e; failed = f })) s (takes_none p q f f e r)

pub returns-in-Err-clause-cause : goal.returns-in-Err-clause-cause
returns-in-Err-clause-cause c = fault_kept c.self.inside.parser c.read_ahead.new.parser c.in-Err.error c.in-Err.ensures.kept c.in-Err.ensures.fault
