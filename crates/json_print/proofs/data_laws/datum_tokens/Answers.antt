use Rattle.json_print.proofs.Data.{datum_spelled}
use Rattle.json_print.proofs.data_laws.datum_tokens.Goals as goal

pub returns : goal.returns
returns c = datum_spelled
