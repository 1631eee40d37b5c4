use Rattle.std.proofs.lemmas.Result.{err_from_is_err_and}
use Rattle.json_io.proofs.Putting.{Puts-first, Puts-then}
use Rattle.json_print.proofs.sorted.put_key.Goals as goal

pub returns-in_err-begin_object_key-clause-puts : goal.returns-in_err-begin_object_key-clause-puts
returns-in_err-begin_object_key-clause-puts g c =
    let p = err_from_is_err_and c.from_residual.result c.from_residual.ensures.1 in rw (p.1, p.2) (Puts-first _ _ _ _ _ c.in_err-begin_object_key.ensures.puts)

pub returns-in_err-write_string_fast-clause-puts : goal.returns-in_err-write_string_fast-clause-puts
returns-in_err-write_string_fast-clause-puts g c =
    let p = err_from_is_err_and c.from_residual-in_err-write_string_fast.result c.from_residual-in_err-write_string_fast.ensures.1 in
    let second = rw c.in_ok-begin_object_key.ensures.next at c.in_err-write_string_fast.ensures.puts in
    rw (p.1, p.2) (Puts-then _ _ _ _ _ _ _ c.in_ok-begin_object_key.ensures.puts (Puts-first _ _ _ _ _ second))

pub returns-clause-puts : goal.returns-clause-puts
returns-clause-puts g c =
    let second = rw c.in_ok-begin_object_key.ensures.next at c.in_ok-write_string_fast.ensures.puts in
    let third = rw (c.in_ok-write_string_fast.ensures.next, c.in_ok-begin_object_key.ensures.next) at c.end_object_key.ensures.puts in
    Puts-then _ _ _ _ _ _ _ c.in_ok-begin_object_key.ensures.puts (Puts-then _ _ _ _ _ _ _ second third)
