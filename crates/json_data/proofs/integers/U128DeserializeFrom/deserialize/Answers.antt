use Rattle.std.proofs.Common.{◌^◌, pos}
use Rattle.json_data.specs.Reading.{tree_integer}
use Rattle.json_data.proofs.Exits.{refusing}
use Rattle.json_data.proofs.Digits.{fits_in, low_enough}
use Rattle.json_data.proofs.integers.U128DeserializeFrom.deserialize.Goals as goal

pub returns-in-Ok-clause-ok : goal.returns-in-Ok-clause-ok
returns-in-Ok-clause-ok g c =
    let r = c.in_ok-whole.ensures.ok in
    record { tree = r.0; takes = r.1; answer = fits_in 0 (2 ^ 128) (tree_integer r.0) (pos c.in-Ok.n) (c.in-Ok.ensures.ok (tree_integer r.0) r.2) (low_enough c.in-Ok.n (2 ^ 128) c.in-Ok.ensures.within) }

pub returns-in-Err-clause-err : goal.returns-in-Err-clause-err
returns-in-Err-clause-err g c =
    let r = c.in_ok-whole.ensures.ok in
    let e = c.in-Err.ensures.err (tree_integer r.0) r.2 in
    refusing e.2 e.1 (record { tree = r.0; takes = r.1; answer = e.0 })
