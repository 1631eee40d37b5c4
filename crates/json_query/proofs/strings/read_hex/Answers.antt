use Rattle.std.proofs.Common.{◌≡◌, inr, ℕ, ◌≤◌, List, ◌∷◌, false, arith}
use Rattle.std.specs.Char.{digit_value, is_digit}
use Rattle.json_query.proofs.TextEscapes.{no_hex_at}
use Rattle.json_query.proofs.strings.read_hex.Goals as goal

pub returns-in-None-to_digit : goal.returns-in-None-to_digit
returns-in-None-to_digit c =
    let much : 16 ≤ digit_value c.in-Some.c = omega (arith, c.in-None-to_digit.ensures.value) in
    let none : (x : ℕ) × (d : List ℕ) × (c.args.text.now ≡ x ∷ d) × (is_digit x 16 ≡ false) = no_hex_at c.in-Some.c c.args.text.now c.in-Some.rest.now c.in-Some.ensures much in
    (c.before-in-None-to_digit.ensures.left, inr (none.0, none.1, none.2, none.3, c.before-in-None-to_digit.ensures.code))
