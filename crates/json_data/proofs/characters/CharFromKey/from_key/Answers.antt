use Rattle.std.proofs.Common.{◌≡◌, ◌≢◌, ◌∙◌, ℕ, List, length, sym, subst}
use Rattle.std.specs.Str.{chars}
use Rattle.json_tokens.specs.Pieces.{Says}
use Rattle.json_data.specs.Reading.{one_character}
use Rattle.json_data.proofs.CharTexts.{one_read, none_read, no_key}
use Rattle.json_data.proofs.characters.CharFromKey.from_key.Goals as goal

pub returns-in-Some-clause-ok : goal.returns-in-Some-clause-ok
returns-in-Some-clause-ok g c = λ s h.
    let e : c.as_str.result.now ≡ s = c.as_str.ensures.value ∙ sym (c.in_ok-text.ensures.ok s h) in
    let k = c.in-Some.ensures in
    one_read s c.in-Some.c (sym e ∙ k.0) (subst (λ (b : List ℕ). length (chars b) ≡ 1) e k.1)

pub returns-clause-err : goal.returns-clause-err
returns-clause-err g c =
    no_key (λ (s : List ℕ). Says s c.args.key.now.escaped (g.S.InputStr.bytes c.args.key.now.text)) one_character _ c.error_without_place.ensures
    (λ s h.
    let e : c.as_str.result.now ≡ s = c.as_str.ensures.value ∙ sym (c.in_ok-text.ensures.ok s h) in
    none_read s (subst (λ (b : List ℕ). length (chars b) ≢ 1) e c.in-None.ensures))
