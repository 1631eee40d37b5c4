use Rattle.std.proofs.Common.{◌≡◌, ◌∙◌, ◌⊎◌, true, Ok, sym, subst}
use Rattle.std.proofs.lemmas.Result.{on_ok_weaker}
use Rattle.json_tokens.specs.declared.token.TokenKind.{TokenKind}
use Rattle.json_tokens.specs.declared.token.TokenKind.TheVariants as kind
use Rattle.json_tokens.specs.ExpectedTokens.{begins_value}
use Rattle.json_tokens.specs.Text.{text_tokens_state}
use Rattle.json_tokens.proofs.TextSteps.{no_again}
use Rattle.json_tokens.proofs.Passing.{peek_one, whole_container, whole_scalar, wants}
use Rattle.json_tokens.proofs.text_tokens.TextTokens.skip_tree.Goals as goal

pub returns-in-BeginArray-clause-ok : goal.returns-in-BeginArray-clause-ok
returns-in-BeginArray-clause-ok c =
    let t = c.in_ok-take.ensures.ok in
    let r = peek_one c.in_ok-kind.ensures.ok c.in_ok-kind.ensures.none t.2 in
    on_ok_weaker c.close.result (whole_container t.0 (subst (λ (k : TokenKind). (k ≡ kind.BeginArray) ⊎ (k ≡ kind.BeginObject)) (sym r.1) c.in-BeginArray.is) r.0) c.close.ensures.ok

pub returns-in_default : goal.returns-in_default
returns-in_default c =
    let t = c.in_ok-take.ensures.ok in
    let h = c.in_ok-kind.ensures.ok in
    let s = text_tokens_state c.args.self.now in
    let r = peek_one h c.in_ok-kind.ensures.none t.2 in
    record {
      ok = whole_scalar t.0 r.0 (λ e. c.in_default.not-BeginArray (sym r.1 ∙ e)) (λ e. c.in_default.not-BeginObject (sym r.1 ∙ e))
          (subst (λ (k : TokenKind). begins_value k ≡ true) (sym r.1) (wants s.expected s.peeked c.in_ok-kind.kind c.requires h.may h.again));
      unfailed = c.in_ok-take.ensures.unfailed;
      err = tt;
      cause = λ _. tt;
      again = no_again c.args.self.now.failed c.look.result c.in_ok-kind.kind (Ok tt) c.look.ensures.again c.in_ok-kind.was;
    }
