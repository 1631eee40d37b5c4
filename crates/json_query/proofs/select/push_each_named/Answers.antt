use Rattle.std.proofs.Common.{sym, ◌∙◌}
use Rattle.json_query.specs.ViewedNodes.{viewed}
use Rattle.json_query.proofs.Appending.{named_more, named_as}
use Rattle.json_query.proofs.ViewedParts.{members_to_view, member_given, views_pushed}
use Rattle.json_query.proofs.select.push_each_named.Goals as goal

pub members-preserved-in-Continue-1 : goal.members-preserved-in-Continue-1
members-preserved-in-Continue-1 c =
    let k = c.in-Some.key.now in
    let v = c.in-Some.value in
    named_more c.args.name.now _ _ _ (k, viewed v) (members_to_view c.members.key-iterator) (members_to_view c.next.new.self) c.members.invariant (member_given _ _ k v c.in-Some.ensures.steps.0 c.in-Some.ensures.steps.1) (sym c.eq.ensures ∙ c.if-eq.true)
    (views_pushed _ _ v c.in_ok-push.ensures.items)

pub members-preserved : goal.members-preserved
members-preserved c =
    let k = c.in-Some.key.now in
    let v = c.in-Some.value in
    named_as c.args.name.now _ _ (k, viewed v) (members_to_view c.members.key-iterator) (members_to_view c.next.new.self) c.members.invariant (member_given _ _ k v c.in-Some.ensures.steps.0 c.in-Some.ensures.steps.1) (sym c.eq.ensures ∙ c.if-eq.false)
