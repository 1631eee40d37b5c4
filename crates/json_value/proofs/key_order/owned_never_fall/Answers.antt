use Rattle.std.proofs.Common.{map, sym, ap, subst, ◌∙◌, ◌+◌, drop}
use Rattle.json_model.specs.Sort.{bytes_less}
use Rattle.json_value.specs.Denotes.{pair_of}
use Rattle.json_doc_print.proofs.KeyOrders.{NoneFalls, none_fell, left_at}
use Rattle.json_doc_print.proofs.Items.{item_there}
use Rattle.json_value.proofs.key_order.owned_never_fall.Goals as goal

pub loop-pair-init : goal.loop-pair-init
loop-pair-init c = none_fell (map pair_of c.args.pairs.now.items)

pub loop-pair-preserved : goal.loop-pair-preserved
loop-pair-preserved c =
    let ps = map pair_of c.args.pairs.now.items in let i = c.loop-pair.pair-index in let last = c.loop-pair.last.now in
    let there = left_at ps i (pair_of c.pair-item.result) (item_there pair_of _ c.args.pairs.now.items i c.pair-item.result c.deref-pair-items.ensures.value c.loop-pair-test.true c.pair-item.is) in
    let key = c.as_bytes-key.ensures.value ∙ c.as_str.ensures in
    let not_less = ap (λ k. bytes_less k last) (sym key) ∙ sym c.is_less.ensures ∙ c.if-is_less.false in
    λ h. c.loop-pair.invariant (subst (NoneFalls last) (sym there) (not_less, subst (λ k. NoneFalls k (drop (i + 1) ps)) key h))
