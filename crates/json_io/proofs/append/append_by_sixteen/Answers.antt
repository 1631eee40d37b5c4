use Rattle.std.proofs.Common.{◌-◌, ◌∙◌, ◌++◌, length, take, ap, arith}
use Rattle.std.specs.Prelude.{slice_range}
use Rattle.json_io.proofs.Pieces.{overlapped_first}
use Rattle.json_io.proofs.append.append_by_sixteen.Goals as goal

pub returns-clause-items : goal.returns-clause-items
returns-clause-items c =
    let b = c.args.bytes.now in let n = length b - 16 in
    overlapped_first c.args.out.now.items c.append_sixteen.new.out.items c.truncate.new.self.items c.append_sixteen-2.new.out.items b 16 n (omega arith) (omega arith)
    c.append_sixteen.ensures.items
    (c.truncate.ensures.items ∙ ap (λ k. take k c.append_sixteen.new.out.items) (omega arith))
    (c.append_sixteen-2.ensures.items ∙ ap (λ k. c.truncate.new.self.items ++ slice_range b n k) (omega arith))
