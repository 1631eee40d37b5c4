use Rattle.json_text.proofs.ReaderSteps.{stood_start}
use Rattle.json_text.proofs.laws.reader_begins.Goals as goal

pub returns : goal.returns
returns c = λ lossy limit b. stood_start lossy limit b
