use Rattle.std.proofs.Common.{[], ◌∷◌}
use Rattle.mezdruk_files.proofs.TextWriting.{WritesOutput-from, WritesOutput-then, WritesOutput-first}
use Rattle.mezdruk_files.proofs.job.write_line.Goals as goal

pub returns-in-Ok : goal.returns-in-Ok
returns-in-Ok g c =
    rw c.in-Some.is (WritesOutput-then _ (g.K.Sink.state c.print_document.new.sink) _ _ _ c.in-Ok.field-0 _ (WritesOutput-from _ _ _ _ c.in-Ok.ensures) (WritesOutput-from _ _ _ _ c.write_text.ensures.prints))

pub returns-in-Err : goal.returns-in-Err
returns-in-Err g c = rw c.in-Some.is (WritesOutput-first _ _ _ (10 ∷ []) _ (WritesOutput-from _ _ _ _ c.in-Err.ensures))
