use Rattle.std.proofs.Common.{◌+◌, ◌∙◌, ◌++◌, ap, arith}
use Rattle.std.specs.Prelude.{slice_range}
use Rattle.json_io.proofs.Pieces.{two_pieces}
use Rattle.json_io.proofs.append.append_pair.Goals as goal

pub returns-clause-items : goal.returns-clause-items
returns-clause-items c =
    two_pieces c.args.out.now.items c.append_sixteen.new.out.items c.append_sixteen-2.new.out.items c.args.bytes.now c.args.at (c.args.at + 16) (c.args.at + 32) (omega arith) (omega arith)
    c.append_sixteen.ensures.items (c.append_sixteen-2.ensures.items ∙ ap (λ k. c.append_sixteen.new.out.items ++ slice_range c.args.bytes.now (c.args.at + 16) k) (omega arith))
