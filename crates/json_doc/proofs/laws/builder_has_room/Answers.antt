use Rattle.json_doc.proofs.Fitting.{event_fits}
use Rattle.json_doc.proofs.laws.builder_has_room.Goals as goal

pub returns : goal.returns
returns c = event_fits
