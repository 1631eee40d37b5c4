use Rattle.std.proofs.Common.{◌≢◌, ◌<◌, Option, length, get_or, sym, subst, rules}
use Rattle.json_number.specs.IntegerLiterals.{IsIntegerLiteral}
use Rattle.json_number.proofs.Widths.{whole_empty, whole_plain}
use Rattle.json_number.proofs.any_width.integer_literal.Goals as goal

pub returns-then-is_empty : goal.returns-then-is_empty
returns-then-is_empty c = whole_empty c.args.literal.now (search rules)

pub returns-else-has_minus : goal.returns-else-has_minus
returns-else-has_minus c =
    let l = c.args.literal.now in
    let n : 0 < length l = search rules in
    let x : get_or l 0 0 ≢ 45 = search rules in
    subst (λ (o : Option _). IsIntegerLiteral o c.plain_integer.result) (sym (whole_plain l x n)) c.plain_integer.ensures
