use Rattle.json_query.proofs.TextAccepted.{text_accepted}
use Rattle.json_query.proofs.laws.read_is_text.Goals as goal

pub returns : goal.returns
returns c = text_accepted
