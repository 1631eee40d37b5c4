use Rattle.json_query.specs.ViewedNodes.{viewed}
use Rattle.json_query.proofs.Appending.{members_more}
use Rattle.json_query.proofs.ViewedParts.{members_to_view, member_given, views_pushed}
use Rattle.json_query.proofs.select.push_each_member.Goals as goal

pub members-preserved : goal.members-preserved
members-preserved c =
    let k = c.in-Some.field-0-0.now in
    let v = c.in-Some.value in
    members_more _ _ _ (k, viewed v) (members_to_view c.members.value-iterator) (members_to_view c.next.new.self) c.members.invariant (member_given _ _ k v c.in-Some.ensures.steps.0 c.in-Some.ensures.steps.1) (views_pushed _ _ v c.in_ok-push.ensures.items)
