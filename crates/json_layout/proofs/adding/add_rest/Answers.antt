use Rattle.json_layout.proofs.Pieces.{sent_adds}
use Rattle.json_layout.proofs.adding.add_rest.Goals as goal

pub returns : goal.returns
returns g c = sent_adds _ _ _ _ _ _ c.send.ensures
