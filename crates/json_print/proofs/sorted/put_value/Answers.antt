use Rattle.std.proofs.lemmas.Result.{err_from_is_err_and}
use Rattle.json_io.proofs.Putting.{Puts-first, Puts-then}
use Rattle.json_print.proofs.sorted.put_value.Goals as goal

pub returns-in_err-begin_object_value-clause-puts : goal.returns-in_err-begin_object_value-clause-puts
returns-in_err-begin_object_value-clause-puts g c =
    let p = err_from_is_err_and c.from_residual.result c.from_residual.ensures.1 in rw (p.1, p.2) (Puts-first _ _ _ _ _ c.in_err-begin_object_value.ensures.puts)

pub returns-in_err-put_all-clause-puts : goal.returns-in_err-put_all-clause-puts
returns-in_err-put_all-clause-puts g c =
    let p = err_from_is_err_and c.from_residual-in_err-put_all.result c.from_residual-in_err-put_all.ensures.1 in
    rw (p.1, p.2) (Puts-then _ _ _ _ _ _ _ c.in_ok-begin_object_value.ensures.puts (Puts-first _ _ _ _ _ c.in_err-put_all.ensures))

pub returns-clause-puts : goal.returns-clause-puts
returns-clause-puts g c =
    let third = rw c.in_ok-begin_object_value.ensures.next at c.end_object_value.ensures.puts in
    Puts-then _ _ _ _ _ _ _ c.in_ok-begin_object_value.ensures.puts (Puts-then _ _ _ _ _ _ _ c.in_ok-put_all.ensures third)
