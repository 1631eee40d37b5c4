use Rattle.json_io.proofs.Putting.{Puts-rest}
use Rattle.json_io.proofs.transfer.put_all.Goals as goal

pub returns-in-Ok-2 : goal.returns-in-Ok-2
returns-in-Ok-2 g c =
    Puts-rest _ _ _ _ c.in-Ok.count _ c.in-Ok.ensures.writes c.put_rest.ensures
