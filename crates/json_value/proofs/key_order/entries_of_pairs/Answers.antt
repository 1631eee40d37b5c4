use Rattle.std.proofs.Common.{◌∷◌, [], ◌++◌, sym, ap, subst, ◌∙◌}
use Rattle.json_doc_print.specs.KeyOrder.{AreEntries, numbers_in}
use Rattle.json_value.specs.OwnedKeys.{owned_key}
use Rattle.json_value.proofs.OwnedOrders.{numbers_more}
use Rattle.json_doc_print.proofs.KeyFronts.{one_more_entry, one_more_number}
use Rattle.json_value.proofs.key_order.entries_of_pairs.Goals as goal

pub loop-number-preserved : goal.loop-number-preserved
loop-number-preserved c =
    let es = c.loop-number.entries.items in let e = c.entry_of.result in let h = c.loop-number.invariant in let key = owned_key c.args.pairs.now.items in (
      ap numbers_in c.in_ok-push.ensures.items ∙ one_more_number es e ∙ ap (λ n. numbers_in es ++ n ∷ []) c.entry_of.ensures.number ∙ ap (λ ns. ns ++ c.loop-number.number ∷ []) h.0 ∙ sym (numbers_more c.loop-number.number),
      subst (AreEntries key) (sym c.in_ok-push.ensures.items) (one_more_entry key es e h.1 c.entry_of.ensures.entry),
    )
