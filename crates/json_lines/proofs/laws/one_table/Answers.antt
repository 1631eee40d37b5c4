use Rattle.json_lines.proofs.WordsSpelled.{one_command}
use Rattle.json_lines.proofs.laws.one_table.Goals as goal

pub returns : goal.returns
returns c = one_command
