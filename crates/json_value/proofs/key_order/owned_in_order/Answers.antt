use Rattle.std.proofs.Common.{length, map, sym, ap, subst, ◌∙◌}
use Rattle.json_print.specs.Orders.{Rise}
use Rattle.json_doc_print.specs.KeyOrder.{key_and_number, AreEntries, numbers_in}
use Rattle.json_value.specs.OwnedKeys.{owned_key}
use Rattle.json_value.proofs.OwnedOrders.{numbers_rise}
use Rattle.json_value.proofs.key_order.owned_in_order.Goals as goal

pub sort_by_key-requires-clause-entries : goal.sort_by_key-requires-clause-entries
sort_by_key-requires-clause-entries c = subst (AreEntries (owned_key c.args.pairs.now.items)) (sym c.deref_mut.ensures.value) c.in_ok-entries.ensures.entries

pub sort_by_key-requires-clause-rise : goal.sort_by_key-requires-clause-rise
sort_by_key-requires-clause-rise c =
    let key = owned_key c.args.pairs.now.items in
    subst (λ ns. Rise (map (key_and_number key) ns)) (sym (ap numbers_in c.deref_mut.ensures.value ∙ c.in_ok-entries.ensures.numbers)) (numbers_rise key 0 (length c.args.pairs.now.items))
