use Rattle.json_io.proofs.Putting.{Puts-then}
use Rattle.json_lines.proofs.run.write_three.Goals as goal

pub returns-in-Ok : goal.returns-in-Ok
returns-in-Ok g c =
    Puts-then _ (g.E.Sink.state c.put_all.new.sink) _ c.args.first.now _ c.in-Ok.field-0 c.write_both.result c.in-Ok.ensures c.write_both.ensures
