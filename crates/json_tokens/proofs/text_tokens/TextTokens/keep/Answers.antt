use Rattle.std.proofs.Common.{◌≡◌, ◌∙◌, List, [], Option, Some, None, IfSome, sym, ap, subst, arith, option_map}
use Rattle.json_grammar.specs.Tree.{Token as Tok}
use Rattle.json_io.specs.declared.error.Error.{Error}
use Rattle.json_value.specs.Denotes.{tree_of}
use Rattle.json_tokens.specs.declared.ahead.Ahead.{Ahead}
use Rattle.json_tokens.specs.TokensStates.{Peeks, TakesTokens}
use Rattle.json_tokens.specs.Text.{TextTokensState, TakenBefore, text_taken, text_tokens_state, TextFails}
use Rattle.json_tokens.proofs.TextValues.{handed_out, takes_value}
use Rattle.json_tokens.proofs.text_tokens.TextTokens.keep.Goals as goal

pub packed_value-requires : goal.packed_value-requires
packed_value-requires c =
    let s = c.self.inside in
    let i = c.self.invariant.given in
    let e = c.in-Some.ahead.event in
    let m : TextTokensState = record { parser = s.parser; ahead = Some e; failed = s.failed } in
    let w : c.look.new.self ≡ m = sym c.self.view_is ∙ ap (λ (o : Option Ahead). record { parser = s.parser; ahead = option_map (λ (h : Ahead). h.event) o; failed = s.failed }) c.in-Some.is in
    let g : (ts : List Tok) × TakenBefore (Some e) s.parser ts = (i.0, subst (λ (o : Option Ahead). TakenBefore (option_map (λ (h : Ahead). h.event) o) s.parser i.0) c.in-Some.is i.1) in
    let n : s.failed ≡ None = ap (λ (t : TextTokensState). t.failed) c.self.view_is ∙ c.in_ok-look.ensures.unfailed in
    handed_out c.args.self.now s.parser e c.in_ok-look.field-0 s.failed g (c.self.invariant.fresh n) c.requires
    (subst (λ (n : TextTokensState). Peeks (text_tokens_state c.args.self.now) (text_tokens_state n) c.in_ok-look.field-0) w c.in_ok-look.ensures.ok)

pub returns-in-Ok-clause-ok : goal.returns-in-Ok-clause-ok
returns-in-Ok-clause-ok c =
    let s = c.self.inside in
    let i = c.self.invariant.given in
    let e = c.in-Some.ahead.event in
    let m : TextTokensState = record { parser = s.parser; ahead = Some e; failed = s.failed } in
    let w : c.look.new.self ≡ m = sym c.self.view_is ∙ ap (λ (o : Option Ahead). record { parser = s.parser; ahead = option_map (λ (h : Ahead). h.event) o; failed = s.failed }) c.in-Some.is in
    let g : (ts : List Tok) × TakenBefore (Some e) s.parser ts = (i.0, subst (λ (o : Option Ahead). TakenBefore (option_map (λ (h : Ahead). h.event) o) s.parser i.0) c.in-Some.is i.1) in
    takes_value c.args.self.now s.parser c.packed_value.new.parser s.failed s.failed e c.in_ok-look.field-0 (tree_of c.in-Ok.value) g
    (subst (λ (n : TextTokensState). Peeks (text_tokens_state c.args.self.now) (text_tokens_state n) c.in_ok-look.field-0) w c.in_ok-look.ensures.ok)
    (subst (λ (n : TextTokensState). TakesTokens text_taken c.args.self.now [] n) w c.in_ok-look.ensures.none) c.in-Ok.ensures.same c.in-Ok.ensures.order c.in-Ok.ensures.ok

pub invariant_of-self : goal.invariant_of-self
invariant_of-self c =
    let s = c.self.inside in
    let i = c.self.invariant in
    let q = c.packed_value.new.parser in
    let n : s.failed ≡ None = ap (λ (t : TextTokensState). t.failed) c.self.view_is ∙ c.in_ok-look.ensures.unfailed in
    let from = i.order in let start = c.in-Ok.ensures.same.start in let more = c.in-Ok.ensures.order in
    record {
      given = c.in-Ok.ensures.given;
      failed = subst (λ (o : Option Error). IfSome o (TextFails q)) (sym n) tt;
      fresh = λ _. c.in-Ok.ensures.ok.unfailed;
      order = omega arith;
      read = c.in-Ok.ensures.whole i.read;
    }
