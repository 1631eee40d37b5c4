use Rattle.json_lines.proofs.CsvReading.{reads_back}
use Rattle.json_lines.proofs.laws.fields_read_back.Goals as goal

pub returns : goal.returns
returns c = reads_back
