use Rattle.std.proofs.Common.{arith, inr, map, refl}
use Rattle.std.proofs.lemmas.List.{length-map}
use Rattle.std.proofs.lemmas.Result.{err_from_is_err_and}
use Rattle.json_lines.specs.Tables.{table_column}
use Rattle.json_lines.proofs.WordsSpelled.{none_few, not_few}
use Rattle.json_lines.proofs.asked.limited_columns.Goals as goal

pub returns-in_err-columns-clause-err : goal.returns-in_err-columns-clause-err
returns-in_err-columns-clause-err c =
    let p = err_from_is_err_and c.from_residual.result c.from_residual.ensures.1 in
    rw (p.1, p.2) (none_few c.args.word.now _ c.in_err-columns.ensures.err)

pub returns-then-count-lt1-clause-err : goal.returns-then-count-lt1-clause-err
returns-then-count-lt1-clause-err c =
    let cs = c.in_ok-columns.columns in
    inr (refl, not_few c.args.word.now (map table_column cs.items) c.len-count.result c.in_ok-columns.ensures.ok (omega (arith, c.len-count.ensures, cs.ok.0, length-map cs.items table_column)) (λ p q. omega (arith, p, c.if-count-lt1.true)))

pub returns-then-count-gt64-clause-err : goal.returns-then-count-gt64-clause-err
returns-then-count-gt64-clause-err c =
    let cs = c.in_ok-columns.columns in
    inr (refl, not_few c.args.word.now (map table_column cs.items) c.len-count.result c.in_ok-columns.ensures.ok (omega (arith, c.len-count.ensures, cs.ok.0, length-map cs.items table_column)) (λ p q. omega (arith, q, c.if-count-gt64.true)))
