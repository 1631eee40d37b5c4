use Rattle.std.proofs.Common.{◌≡◌, ◌∙◌, ℕ, List, true, false, inr, sym, subst}
use Rattle.json_grammar.specs.Grammar.{number}
use Rattle.json_number.specs.IntegerLiterals.{IsIntegerLiteral}
use Rattle.json_number.specs.Integers.{whole_in}
use Rattle.json_data.proofs.Digits.{is_a_number, no_number}
use Rattle.json_data.proofs.integer_keys.key_whole.Goals as goal

pub returns-then-not-is_number-clause-err : goal.returns-then-not-is_number-clause-err
returns-then-not-is_number-clause-err g c = inr (
  c.error_without_place.ensures,
  λ s h.
      let e : c.as_str-literal.result.now ≡ s = c.as_str-literal.ensures.value ∙ sym (c.in_ok-text.ensures.ok s h) in
      no_number s (λ n. let x : true ≡ false = sym (c.is_number.ensures.1 (subst number (sym e) n)) ∙ c.if-not-is_number.true in absurd (cc)),
)

pub returns-clause-ok : goal.returns-clause-ok
returns-clause-ok g c = λ s h.
    let e : c.as_str-literal.result.now ≡ s = c.as_str-literal.ensures.value ∙ sym (c.in_ok-text.ensures.ok s h) in
    (is_a_number s (subst number e (c.is_number.ensures.0 c.if-not-is_number.false)), subst (λ (b : List ℕ). IsIntegerLiteral (whole_in b) c.integer_literal.result) e c.integer_literal.ensures)
