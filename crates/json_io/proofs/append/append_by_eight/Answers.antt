use Rattle.std.proofs.Common.{◌-◌, ◌∙◌, ◌++◌, length, take, ap, arith}
use Rattle.std.specs.Prelude.{slice_range}
use Rattle.json_io.proofs.Pieces.{overlapped_first}
use Rattle.json_io.proofs.append.append_by_eight.Goals as goal

pub returns-clause-items : goal.returns-clause-items
returns-clause-items c =
    let b = c.args.bytes.now in let n = length b - 8 in
    overlapped_first c.args.out.now.items c.append_eight.new.out.items c.truncate.new.self.items c.append_eight-2.new.out.items b 8 n (omega arith) (omega arith)
    c.append_eight.ensures.items
    (c.truncate.ensures.items ∙ ap (λ k. take k c.append_eight.new.out.items) (omega arith))
    (c.append_eight-2.ensures.items ∙ ap (λ k. c.truncate.new.self.items ++ slice_range b n k) (omega arith))
