use Rattle.std.proofs.Common.{◌≡◌, ◌∙◌, ◌⊎◌, ap, sym, subst}
use Rattle.json_tokens.specs.declared.token.TokenKind.{TokenKind}
use Rattle.json_tokens.specs.declared.token.TokenKind.TheVariants as kind
use Rattle.json_tokens.specs.Text.{TextTokensState}
use Rattle.json_tokens.proofs.Passing.{passed_none, peek_one, passed_tree, passed_one, passed_end, whole_container}
use Rattle.json_tokens.proofs.text_tokens.TextTokens.+close.Goals as goal

pub rest-init : goal.rest-init
rest-init t c = passed_none c.args.self.now c.requires (ap (λ (s : TextTokensState). s.failed) (sym c.self.view_is) ∙ c.in_default.is)

pub returns-in-EndArray-clause-ok : goal.returns-in-EndArray-clause-ok
returns-in-EndArray-clause-ok t c =
    let t = c.in_ok-take.ensures.ok in
    let r = peek_one c.in_ok-kind.ensures.ok c.in_ok-kind.ensures.none t.2 in
    passed_end t.0 (subst (λ (k : TokenKind). (k ≡ kind.EndArray) ⊎ (k ≡ kind.EndObject)) (sym r.1) c.in-EndArray.is) c.rest.invariant r.0

pub rest-preserved-in-Continue-branch-3 : goal.rest-preserved-in-Continue-branch-3
rest-preserved-in-Continue-branch-3 t c =
    let t = c.in_ok-take.ensures.ok in
    let r = peek_one c.in_ok-kind.ensures.ok c.in_ok-kind.ensures.none t.2 in
    let h = whole_container t.0 (subst (λ (k : TokenKind). (k ≡ kind.BeginArray) ⊎ (k ≡ kind.BeginObject)) (sym r.1) c.in-BeginArray.is) r.0 c.in_ok-close-in-BeginArray.ensures.ok in
    passed_tree c.rest.invariant h.1 c.in_ok-close-in-BeginArray.ensures.unfailed

pub rest-preserved : goal.rest-preserved
rest-preserved t c =
    let t = c.in_ok-take.ensures.ok in
    let r = peek_one c.in_ok-kind.ensures.ok c.in_ok-kind.ensures.none t.2 in
    let d = c.in_default-kind in
    passed_one t.0 c.rest.invariant r.0 (λ e. d.not-BeginArray (sym r.1 ∙ e)) (λ e. d.not-BeginObject (sym r.1 ∙ e)) (λ e. d.not-EndArray (sym r.1 ∙ e)) (λ e. d.not-EndObject (sym r.1 ∙ e)) c.in_ok-take.ensures.unfailed
