use Rattle.std.proofs.Common.{◌∙◌, ℕ, ℤ, List, ap, sym, SFits, to_z-of_z, rules}
use Rattle.std.specs.Int.{w128}
use Rattle.json_model.specs.Datum.{integer_datum}
use Rattle.json_tokens.specs.Pieces.{Says}
use Rattle.json_number.specs.Integers.{whole_in}
use Rattle.json_data.specs.Reading.{gives, is_between}
use Rattle.json_data.proofs.Digits.{fits_in}
use Rattle.json_data.proofs.NumberKeys.{key_in, key_absent, key_out}
use Rattle.json_data.proofs.integer_keys.key_between.Goals as goal

pub returns-in-Err-clause-err : goal.returns-in-Err-clause-err
returns-in-Err-clause-err g c = key_absent (λ (s : List ℕ). Says s c.args.key.escaped (g.S.InputStr.bytes c.args.key.text)) (is_between c.args.low c.args.high) c.in-Err.e c.in-Err.ensures.err

pub returns-in-Ok-integer_in_range-clause-ok : goal.returns-in-Ok-integer_in_range-clause-ok
returns-in-Ok-integer_in_range-clause-ok g c = λ s h.
    let k = c.in-Ok.ensures.ok s h in
    let f : SFits w128 c.in-Ok-integer_in_range.n = search rules in
    key_in (is_between c.args.low c.args.high) _ s k.0 (fits_in c.args.low c.args.high (whole_in s) c.in-Ok-integer_in_range.n (c.in-Ok-integer_in_range.ensures.ok (whole_in s) k.1) c.in-Ok-integer_in_range.ensures.within) ∙ ap (λ (n : ℤ). gives (integer_datum n)) (sym (to_z-of_z f))

pub returns-in-Err-integer_in_range-clause-err : goal.returns-in-Err-integer_in_range-clause-err
returns-in-Err-integer_in_range-clause-err g c =
    key_out (λ (s : List ℕ). Says s c.args.key.escaped (g.S.InputStr.bytes c.args.key.text)) (is_between c.args.low c.args.high) c.in-Err-integer_in_range.e c.in-Err-integer_in_range.ensures.refusal
    (λ s h. let k = c.in-Ok.ensures.ok s h in (k.0, (c.in-Err-integer_in_range.ensures.err (whole_in s) k.1).0))
