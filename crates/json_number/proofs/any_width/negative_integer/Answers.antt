use Rattle.std.proofs.Common.{◌≡◌, ℕ, ◌<◌, List, [], ◌∷◌, Option, drop, length, get_or, sym, subst, arith}
use Rattle.std.specs.Str.{IsCharBoundary}
use Rattle.std.proofs.lemmas.Str.{IsCharBoundary-after_ascii}
use Rattle.json_number.specs.IntegerLiterals.{IsIntegerLiteral, plain_of}
use Rattle.json_number.proofs.Widths.{whole_minus}
use Rattle.json_number.proofs.any_width.negative_integer.Goals as goal

some : (l : List ℕ) → get_or l 0 0 ≡ 45 → 0 < length l
some [] e = absurd (omega (arith, e))
some (x ∷ l) e = omega arith

pub range_from-requires : goal.range_from-requires
range_from-requires c =
    let l = c.args.literal.now in
    let x : get_or l 0 0 ≡ 45 = c.requires in
    let n = some l x in
    let b : IsCharBoundary l 1 = IsCharBoundary-after_ascii l 0 c.utf8.literal n (omega arith) in
    λ _. b

pub returns : goal.returns
returns c =
    let l = c.args.literal.now in
    let h = subst (λ (d : List ℕ). IsIntegerLiteral (plain_of d) c.plain_integer.result) c.range_from.ensures.value c.plain_integer.ensures in
    subst (λ (o : Option _). IsIntegerLiteral o c.negated_literal.result) (sym (whole_minus l c.requires)) (c.negated_literal.ensures (drop 1 l) h)
