use Rattle.std.proofs.lemmas.Result.{err_from_is_err_and}
use Rattle.json_io.proofs.Putting.{Puts-first, Puts-then}
use Rattle.json_print.proofs.sorted.put_row.Goals as goal

pub returns-in_err-put_key-clause-puts : goal.returns-in_err-put_key-clause-puts
returns-in_err-put_key-clause-puts g c =
    let p = err_from_is_err_and c.from_residual.result c.from_residual.ensures.1 in rw (p.1, p.2) (Puts-first _ _ _ _ _ c.in_err-put_key.ensures.puts)

pub returns-clause-puts : goal.returns-clause-puts
returns-clause-puts g c =
    let second = rw c.in_ok-put_key.ensures.next at c.put_value.ensures.puts in Puts-then _ _ _ _ _ _ _ c.in_ok-put_key.ensures.puts second
