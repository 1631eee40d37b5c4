use Rattle.json_lines.proofs.Pieces.{piece_by_piece}
use Rattle.json_lines.proofs.laws.piece_by_piece.Goals as goal

pub returns : goal.returns
returns c = piece_by_piece
