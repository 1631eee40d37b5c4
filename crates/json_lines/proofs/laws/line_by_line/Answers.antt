use Rattle.json_lines.proofs.Newlines.{line_by_line}
use Rattle.json_lines.proofs.laws.line_by_line.Goals as goal

pub returns : goal.returns
returns c = line_by_line
