use Rattle.std.proofs.Common.{◌≡◌, ◌-◌, ◌∙◌, ◌++◌, ◌∷◌, sym, ap, ap₂, map, suc, length, arith}
use Rattle.json_query.specs.Indexes.{is_index}
use Rattle.json_query.specs.Slices.{items_from}
use Rattle.json_query.specs.ViewedNodes.{viewed, with_targets}
use Rattle.json_query.proofs.Appending.{picked_more, picked_as}
use Rattle.json_query.proofs.ViewedParts.{elements_viewed_length, elements_to_view, element_given, views_pushed}
use Rattle.json_query.proofs.select.push_indexes.Goals as goal

pub elements-init : goal.elements-init
elements-init c =
    let items = c.iter-element-items.ensures in
    let same = ap elements_to_view c.into_iter-element-iterator.ensures.into_iter_gives ∙ ap₂ with_targets items.targets items.trees in
    let none : c.len-len.result - c.len-len.result ≡ 0 = omega arith in
    record {
      so_far = ap₂ (λ n vs. map viewed c.args.found.now.items ++ items_from (is_index c.args.indexes) n vs) none same;
      count = c.len-len.ensures ∙ sym (elements_viewed_length c.args.array) ∙ ap length (sym same);
      within = omega arith;
    }

pub elements-preserved-in-Continue-1 : goal.elements-preserved-in-Continue-1
elements-preserved-in-Continue-1 c =
    let all = elements_to_view c.elements.element-iterator in
    let rest = elements_to_view c.next.new.self in
    let inv = c.elements.invariant in
    let v = c.in-Some.element in
    let step : all ≡ viewed v ∷ rest = element_given _ _ v c.in-Some.ensures.steps.0 c.in-Some.ensures.steps.1 in
    let some : c.elements.left ≡ suc (length rest) = inv.count ∙ ap length step in
    record {
      so_far = picked_more (is_index c.args.indexes) _ _ _ _ c.elements.left (viewed v) all rest inv.so_far step inv.count inv.within (sym c.contains.ensures ∙ c.if-contains.true) (views_pushed _ _ v c.in_ok-push.ensures.items);
      count = omega arith;
      within = omega arith;
    }

pub elements-preserved : goal.elements-preserved
elements-preserved c =
    let all = elements_to_view c.elements.element-iterator in
    let rest = elements_to_view c.next.new.self in
    let inv = c.elements.invariant in
    let v = c.in-Some.element in
    let step : all ≡ viewed v ∷ rest = element_given _ _ v c.in-Some.ensures.steps.0 c.in-Some.ensures.steps.1 in
    let some : c.elements.left ≡ suc (length rest) = inv.count ∙ ap length step in
    record {
      so_far = picked_as (is_index c.args.indexes) _ _ _ c.elements.left (viewed v) all rest inv.so_far step inv.count inv.within (sym c.contains.ensures ∙ c.if-contains.false);
      count = omega arith;
      within = omega arith;
    }
