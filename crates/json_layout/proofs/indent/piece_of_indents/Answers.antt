use Rattle.std.proofs.Common.{arith}
use Rattle.json_layout.proofs.Breaks.{piece_read}
use Rattle.json_layout.proofs.indent.piece_of_indents.Goals as goal

pub returns-clause-piece : goal.returns-clause-piece
returns-clause-piece c = piece_read c.min-count.result c.args.indent.ready 64 c.args.indent.bytes.now (omega arith) c.args.indent.fits c.args.indent.spaces
