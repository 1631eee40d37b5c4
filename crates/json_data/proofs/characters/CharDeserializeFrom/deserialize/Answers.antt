use Rattle.std.proofs.Common.{◌≡◌, ◌≢◌, ◌∙◌, ℕ, List, length, sym, subst}
use Rattle.std.specs.Str.{chars}
use Rattle.json_grammar.specs.Tree.{text}
use Rattle.json_data.proofs.CharTexts.{one_read, none_read}
use Rattle.json_data.proofs.Exits.{mismatch}
use Rattle.json_tokens.proofs.Steps.{peek_tree}
use Rattle.json_data.proofs.characters.CharDeserializeFrom.deserialize.Goals as goal

pub returns-in-Some-clause-ok : goal.returns-in-Some-clause-ok
returns-in-Some-clause-ok g c =
    let t = c.in_ok-piece.ensures.ok in
    let e : c.as_str.result.now ≡ t.0 = c.as_str.ensures.value ∙ sym (c.in_ok-text.ensures.ok t.0 t.1) in
    let k = c.in-Some.ensures in
    record {
      tree = text t.0;
      takes = peek_tree c.in_ok-peek.ensures.ok c.in_ok-peek.ensures.none t.2;
      answer = one_read t.0 c.in-Some.c (sym e ∙ k.0) (subst (λ (b : List ℕ). length (chars b) ≡ 1) e k.1);
    }

pub returns-clause-err : goal.returns-clause-err
returns-clause-err g c =
    let t = c.in_ok-piece.ensures.ok in
    let e : c.as_str.result.now ≡ t.0 = c.as_str.ensures.value ∙ sym (c.in_ok-text.ensures.ok t.0 t.1) in
    mismatch c.error_without_place-in-None.ensures (peek_tree c.in_ok-peek.ensures.ok c.in_ok-peek.ensures.none t.2) (none_read t.0 (subst (λ (b : List ℕ). length (chars b) ≢ 1) e c.in-None.ensures))
