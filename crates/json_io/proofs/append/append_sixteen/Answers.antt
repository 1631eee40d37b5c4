use Rattle.std.proofs.Common.{◌+◌, ◌∙◌, ◌++◌, ap, arith}
use Rattle.std.specs.Prelude.{slice_range}
use Rattle.json_io.proofs.Pieces.{two_pieces}
use Rattle.json_io.proofs.append.append_sixteen.Goals as goal

pub returns-clause-items : goal.returns-clause-items
returns-clause-items c =
    two_pieces c.args.out.now.items c.append_eight.new.out.items c.append_eight-2.new.out.items c.args.bytes.now c.args.at (c.args.at + 8) (c.args.at + 16) (omega arith) (omega arith)
    c.append_eight.ensures.items (c.append_eight-2.ensures.items ∙ ap (λ k. c.append_eight.new.out.items ++ slice_range c.args.bytes.now (c.args.at + 8) k) (omega arith))
