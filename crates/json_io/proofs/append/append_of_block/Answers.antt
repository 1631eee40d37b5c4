use Rattle.std.proofs.Common.{◌≡◌, ◌+◌, ◌∙◌, length, take, ap, arith}
use Rattle.json_io.proofs.Pieces.{cut_after}
use Rattle.json_io.proofs.append.append_of_block.Goals as goal

pub returns-clause-items : goal.returns-clause-items
returns-clause-items c =
    let n : c.len-len.result ≡ length c.args.out.now.items = omega arith in
    cut_after c.args.out.now.items c.append_sixteen.new.out.items c.truncate.new.self.items c.args.bytes.now c.args.at (c.args.at + 16) c.args.count
    (omega arith) c.append_sixteen.ensures.items (c.truncate.ensures.items ∙ ap (λ k. take (k + c.args.count) c.append_sixteen.new.out.items) n)
