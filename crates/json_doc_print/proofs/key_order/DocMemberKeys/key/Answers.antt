use Rattle.std.proofs.Common.{◌≡◌, ◌-◌, length, sym, ap, arith}
use Rattle.json_doc_print.proofs.KeyOrders.{no_key}
use Rattle.json_doc_print.proofs.key_order.DocMemberKeys.key.Goals as goal

pub returns-then-at-cells : goal.returns-then-at-cells
returns-then-at-cells c =
    let d = c.args.self.now in
    let at : c.saturating_sub-at.result ≡ c.args.number - 1 = omega (arith, c.saturating_sub-at.ensures) in
    sym (no_key d (c.args.number - 1) (omega (arith, at, c.if-at-cells.true, ap (λ cs. length cs) c.cells.ensures)))
