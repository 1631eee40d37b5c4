use Rattle.std.proofs.Common.{◌∙◌, ℤ, ap, sym, SFits, to_z-of_z, rules}
use Rattle.std.specs.Int.{w128}
use Rattle.json_model.specs.Datum.{integer_datum}
use Rattle.json_data.specs.Reading.{gives, tree_integer}
use Rattle.json_data.proofs.Exits.{refusing}
use Rattle.json_data.proofs.Digits.{fits_in}
use Rattle.json_data.proofs.integer_ranges.between_by_kind.Goals as goal

pub returns-in-Ok-clause-ok : goal.returns-in-Ok-clause-ok
returns-in-Ok-clause-ok g c =
    let r = c.in_ok-whole.ensures.ok in
    let f : SFits w128 c.in-Ok.n = search rules in
    record { tree = r.0; takes = r.1; answer = fits_in c.args.low c.args.high (tree_integer r.0) c.in-Ok.n (c.in-Ok.ensures.ok (tree_integer r.0) r.2) c.in-Ok.ensures.within ∙ ap (λ (n : ℤ). gives (integer_datum n)) (sym (to_z-of_z f)) }

pub returns-in-Err-clause-err : goal.returns-in-Err-clause-err
returns-in-Err-clause-err g c =
    let r = c.in_ok-whole.ensures.ok in
    let e = c.in-Err.ensures.err (tree_integer r.0) r.2 in
    refusing e.2 e.1 (record { tree = r.0; takes = r.1; answer = e.0 })
