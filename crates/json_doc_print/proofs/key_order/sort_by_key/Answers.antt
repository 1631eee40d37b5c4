use Rattle.std.proofs.Common.{◌≡◌, rules, ap, ◌∙◌}
use Rattle.std.specs.Cmp.Lexicographic.{slice_cmp}
use Rattle.std.specs.Ordering.{is_lt, nat_cmp, ordering_then}
use Rattle.std.proofs.lemmas.Fn.{always_returns_same}
use Rattle.std.proofs.lemmas.List.Sorted.{ranks_by}
use Rattle.json_print.proofs.Orders.{numbered_cmp, total, sort_orders}
use Rattle.json_doc_print.proofs.KeyFronts.{fronted_pair, then_then, rise_fronted, order_by_fronts}
use Rattle.json_doc_print.proofs.key_order.sort_by_key.Goals as goal

pub returns : goal.returns
returns g c =
    let key = g.K.MemberKeys.key_of c.args.keys.now in
    let f = fronted_pair key in
    order_by_fronts key c.args.entries.now c.sort_unstable_by.new.self c.requires.entries (sort_orders f c.args.entries.now c.sort_unstable_by.new.self (rise_fronted key c.args.entries.now c.requires.rise) c.sort_unstable_by.ensures.permutation
    (c.sort_unstable_by.ensures.sorted (λ x y. is_lt (numbered_cmp (f x) (f y))) (ranks_by total f)
    (always_returns_same _ (λ a r. is_lt r ≡ is_lt (numbered_cmp (f a.0.now) (f a.1.0.now))) _ (λ a r k q.
    let x = a.0.now in let y = a.1.0.now in
    let said : r ≡ ordering_then (nat_cmp x.front y.front) (ordering_then (slice_cmp nat_cmp (key x.number) (key y.number)) (nat_cmp x.number y.number)) = search rules in
    (ap is_lt (said ∙ then_then (nat_cmp x.front y.front) (slice_cmp nat_cmp (key x.number) (key y.number)) (nat_cmp x.number y.number)), search rules)))))
