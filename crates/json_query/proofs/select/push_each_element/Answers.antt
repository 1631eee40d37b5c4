use Rattle.json_query.specs.ViewedNodes.{viewed}
use Rattle.json_query.proofs.Appending.{item_more}
use Rattle.json_query.proofs.ViewedParts.{elements_to_view, element_given, views_pushed}
use Rattle.json_query.proofs.select.push_each_element.Goals as goal

pub elements-preserved : goal.elements-preserved
elements-preserved c =
    let v = c.in-Some.element in
    item_more _ _ _ (viewed v) (elements_to_view c.elements.element-iterator) (elements_to_view c.next.new.self) c.elements.invariant (element_given _ _ v c.in-Some.ensures.steps.0 c.in-Some.ensures.steps.1) (views_pushed _ _ v c.in_ok-push.ensures.items)
