use Rattle.std.proofs.Common.{◌≡◌, ℕ, List, None, subst}
use Rattle.json_grammar.specs.Tree.{num}
use Rattle.json_number.specs.Numbers.{text_of_number}
use Rattle.json_number.specs.IntegerLiterals.{IsIntegerLiteral}
use Rattle.json_number.specs.Integers.{whole_in}
use Rattle.json_number.specs.declared.any_width.IntegerLiteral.{IntegerLiteral}
use Rattle.json_tokens.proofs.Steps.{peek_tree}
use Rattle.json_data.proofs.Exits.{mismatch, out_of_range}
use Rattle.json_data.proofs.Digits.{beyond, no_integer}
use Rattle.json_data.proofs.integers.NumberDeserializeFrom.deserialize.Goals as goal

pub returns-then-eq-clause-ok : goal.returns-then-eq-clause-ok
returns-then-eq-clause-ok g c =
    let n = c.in_ok-n.n in
    record { tree = num (text_of_number n); takes = peek_tree c.in_ok-kind.ensures.ok c.in_ok-kind.ensures.none c.in_ok-n.ensures.ok; answer = rw c.in_ok-n.ensures.value.0 }

pub returns-in-NotInteger-clause-err : goal.returns-in-NotInteger-clause-err
returns-in-NotInteger-clause-err g c =
    let l = g.S.InputStr.bytes c.in_ok-literal.literal in
    let w : IsIntegerLiteral (whole_in l) c.integer_literal.result = subst (λ (b : List ℕ). IsIntegerLiteral (whole_in b) c.integer_literal.result) c.as_text.ensures c.integer_literal.ensures in
    let e : whole_in l ≡ None = subst (λ (x : IntegerLiteral). IsIntegerLiteral (whole_in l) x) c.in-NotInteger.is w in
    mismatch c.error_without_place-in-NotInteger.ensures (peek_tree c.in_ok-kind.ensures.ok c.in_ok-kind.ensures.none c.in_ok-literal.ensures.ok) (no_integer l c.in_ok-literal.ensures.value.0 e)

pub returns-in_default-clause-err : goal.returns-in_default-clause-err
returns-in_default-clause-err g c =
    let l = g.S.InputStr.bytes c.in_ok-literal.literal in
    let w : IsIntegerLiteral (whole_in l) c.integer_literal.result = subst (λ (b : List ℕ). IsIntegerLiteral (whole_in b) c.integer_literal.result) c.as_text.ensures c.integer_literal.ensures in
    out_of_range c.error_without_place-in_default.ensures (peek_tree c.in_ok-kind.ensures.ok c.in_ok-kind.ensures.none c.in_ok-literal.ensures.ok) (beyond l c.integer_literal.result c.in_ok-literal.ensures.value.0 w c.in_default.not-NotInteger)
