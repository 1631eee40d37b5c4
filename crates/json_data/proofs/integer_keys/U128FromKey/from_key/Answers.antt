use Rattle.std.proofs.Common.{◌^◌, ℕ, List, pos}
use Rattle.json_tokens.specs.Pieces.{Says}
use Rattle.json_number.specs.Integers.{whole_in}
use Rattle.json_data.specs.Reading.{is_between}
use Rattle.json_data.proofs.Digits.{fits_in, low_enough}
use Rattle.json_data.proofs.NumberKeys.{key_in, key_absent, key_out}
use Rattle.json_data.proofs.integer_keys.U128FromKey.from_key.Goals as goal

pub returns-in-Err-clause-err : goal.returns-in-Err-clause-err
returns-in-Err-clause-err g c = key_absent (λ (s : List ℕ). Says s c.args.key.now.escaped (g.S.InputStr.bytes c.args.key.now.text)) (is_between 0 (2 ^ 128)) c.in-Err.e c.in-Err.ensures.err

pub returns-in-Ok-fit_unsigned-clause-ok : goal.returns-in-Ok-fit_unsigned-clause-ok
returns-in-Ok-fit_unsigned-clause-ok g c = λ s h.
    let k = c.in-Ok.ensures.ok s h in
    let n = c.in-Ok-fit_unsigned.n in
    key_in (is_between 0 (2 ^ 128)) _ s k.0 (fits_in 0 (2 ^ 128) (whole_in s) (pos n) (c.in-Ok-fit_unsigned.ensures.ok (whole_in s) k.1) (low_enough n (2 ^ 128) c.in-Ok-fit_unsigned.ensures.within))

pub returns-in-Err-fit_unsigned-clause-err : goal.returns-in-Err-fit_unsigned-clause-err
returns-in-Err-fit_unsigned-clause-err g c =
    key_out (λ (s : List ℕ). Says s c.args.key.now.escaped (g.S.InputStr.bytes c.args.key.now.text)) (is_between 0 (2 ^ 128)) c.in-Err-fit_unsigned.e c.in-Err-fit_unsigned.ensures.refusal
    (λ s h. let k = c.in-Ok.ensures.ok s h in (k.0, (c.in-Err-fit_unsigned.ensures.err (whole_in s) k.1).0))
