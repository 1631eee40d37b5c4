use Rattle.std.proofs.Common.{◌≡◌, ◌∙◌, sym, ap, subst, SFits, to_z-of_z, rules}
use Rattle.std.specs.Int.{w64}
use Rattle.std.specs.Fmt.{signed_decimal}
use Rattle.json_grammar.specs.Grammar.{number}
use Rattle.json_number.proofs.Forms.{reads}
use Rattle.json_number.specs.Numbers.{text_of_number}
use Rattle.json_data.proofs.floats.integer_f32.Goals as goal

pub f32_of-requires : goal.f32_of-requires
f32_of-requires c =
    let e : c.format.result.now ≡ text_of_number c.args.n = c.format.ensures.text ∙ ap signed_decimal c.in-Unsigned.ensures.value in
    subst number (sym e) (reads c.args.n).0

pub f32_of-requires-in-Negative : goal.f32_of-requires-in-Negative
f32_of-requires-in-Negative c =
    let f : SFits w64 c.in-Negative.n = search rules in
    let e : c.format-in-Negative.result.now ≡ text_of_number c.args.n = c.format-in-Negative.ensures.text ∙ ap signed_decimal (to_z-of_z f ∙ c.in-Negative.ensures.value) in
    subst number (sym e) (reads c.args.n).0
