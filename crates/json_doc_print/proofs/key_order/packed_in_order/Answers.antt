use Rattle.std.proofs.Common.{◌+◌, map, sym, ap, subst, ◌∙◌}
use Rattle.json_print.specs.Orders.{Rise}
use Rattle.json_doc.specs.Left.{pairs_doc}
use Rattle.json_doc_print.specs.KeyOrder.{key_and_number, AreEntries, numbers_in, key_before}
use Rattle.json_doc_print.proofs.KeyOrders.{rise_in_doc}
use Rattle.json_doc_print.proofs.key_order.packed_in_order.Goals as goal

pub sort_by_key-requires-clause-entries : goal.sort_by_key-requires-clause-entries
sort_by_key-requires-clause-entries c = subst (AreEntries (key_before c.args.doc.now)) (sym c.deref_mut.ensures.value) c.in_ok-entries.ensures.entries

pub sort_by_key-requires-clause-rise : goal.sort_by_key-requires-clause-rise
sort_by_key-requires-clause-rise c =
    let key = key_before c.args.doc.now in let p = c.args.pairs in
    subst (λ ns. Rise (map (key_and_number key) ns)) (sym (ap numbers_in c.deref_mut.ensures.value ∙ c.in_ok-entries.ensures.places)) (rise_in_doc (pairs_doc p) key 1 (p.next + 1) p.left)
