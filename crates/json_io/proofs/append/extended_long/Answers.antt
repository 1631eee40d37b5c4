use Rattle.std.proofs.Common.{◌+◌, ◌-◌, ◌∙◌, ◌++◌, length, take, ap, arith}
use Rattle.std.specs.Prelude.{slice_range}
use Rattle.json_io.proofs.Pieces.{appended, overlapped}
use Rattle.json_io.proofs.append.extended_long.Goals as goal

pub rest-preserved : goal.rest-preserved
rest-preserved c =
    let i = c.rest.invariant in let a = c.append_sixteen.ensures in record {
      within = omega arith;
      items = appended c.args.out.items c.rest.out.items c.append_sixteen.new.out.items c.args.bytes.now c.rest.at (c.rest.at + 16) (omega arith) i.items a.items;
      len = omega (arith, a.len, i.len);
      capacity = a.capacity ∙ i.capacity;
    }

pub returns-clause-items : goal.returns-clause-items
returns-clause-items c =
    let b = c.args.bytes.now in let n = length b - 16 in
    overlapped c.args.out.items c.rest.out.items c.truncate.new.self.items c.append_sixteen-2.new.out.items b c.rest.at n (omega arith) (omega arith)
    c.rest.invariant.items
    (c.truncate.ensures.items ∙ ap (λ k. take k c.rest.out.items) (omega arith))
    (c.append_sixteen-2.ensures.items ∙ ap (λ k. c.truncate.new.self.items ++ slice_range b n k) (omega arith))
