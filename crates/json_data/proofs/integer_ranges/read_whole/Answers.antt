use Rattle.std.proofs.Common.{ℕ, List, subst}
use Rattle.json_grammar.specs.Tree.{num}
use Rattle.json_number.specs.Numbers.{value_of, text_of_number}
use Rattle.json_number.specs.IntegerLiterals.{IsIntegerLiteral}
use Rattle.json_number.specs.Integers.{whole_in}
use Rattle.json_number.proofs.Widths.{whole_by_value}
use Rattle.json_tokens.proofs.Steps.{peek_tree}
use Rattle.json_data.proofs.integer_ranges.read_whole.Goals as goal

pub returns-then-eq-clause-ok : goal.returns-then-eq-clause-ok
returns-then-eq-clause-ok g c =
    let n = c.in_ok-n.n in
    let l = text_of_number n in
    (num l, peek_tree c.in_ok-kind.ensures.ok c.in_ok-kind.ensures.none c.in_ok-n.ensures.ok, c.whole_of_number.ensures (whole_in l) (whole_by_value l (value_of n) c.in_ok-n.ensures.value.0))

pub returns-then-eq-2-clause-ok : goal.returns-then-eq-2-clause-ok
returns-then-eq-2-clause-ok g c =
    let l = g.S.InputStr.bytes c.in_ok-literal.literal in
    (num l, peek_tree c.in_ok-kind.ensures.ok c.in_ok-kind.ensures.none c.in_ok-literal.ensures.ok, subst (λ (b : List ℕ). IsIntegerLiteral (whole_in b) c.integer_literal.result) c.as_text.ensures c.integer_literal.ensures)
