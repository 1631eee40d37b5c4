use Rattle.std.proofs.Common.{◌≡◌, [], false, sym, ap, subst, ◌∙◌}
use Rattle.json_model.specs.Sort.{bytes_less}
use Rattle.json_doc.specs.Left.{pairs_left}
use Rattle.json_doc.specs.declared.pairs.DocPairs.{DocPairs}
use Rattle.json_doc_print.proofs.KeyOrders.{NoneFalls, none_fell}
use Rattle.json_doc_print.proofs.key_order.packed_never_fall.Goals as goal

pub loop-key-init : goal.loop-key-init
loop-key-init c = (tt, tt, λ h. none_fell (pairs_left c.args.pairs) (subst (λ (p : DocPairs). NoneFalls [] (pairs_left p)) c.into_iter-key-iterator.ensures.into_iter_gives h))

pub loop-key-preserved : goal.loop-key-preserved
loop-key-preserved c =
    let last = c.loop-key.last.now in
    let not_less : bytes_less c.in-Some.key.now last ≡ false = ap (λ k. bytes_less k last) (sym c.as_bytes.ensures.value) ∙ sym c.is_less.ensures ∙ c.if-is_less.false in
    (tt, tt, λ h. c.loop-key.invariant.2 (subst (NoneFalls last) (sym c.in-Some.ensures.steps.0) (not_less, subst (λ k. NoneFalls k (pairs_left c.next.new.self)) c.as_bytes-last.ensures.value h)))

pub returns : goal.returns
returns c = λ u. c.loop-key.invariant.2 (subst (NoneFalls c.loop-key.last.now) (sym c.in-None.ensures.steps.0.0) tt)
