use Rattle.json_lines.proofs.Pieces.{lines_in_pieces}
use Rattle.json_lines.proofs.laws.lines_in_pieces.Goals as goal

pub returns : goal.returns
returns c = lines_in_pieces
