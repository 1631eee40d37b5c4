use Rattle.std.proofs.Common.{map}
use Rattle.json_query.specs.ViewedNodes.{viewed}
use Rattle.json_query.proofs.Appending.{reversed_more}
use Rattle.json_query.proofs.ViewedParts.{views_pushed}
use Rattle.json_query.proofs.select.push_reversed.Goals as goal

pub views-preserved : goal.views-preserved
views-preserved c = reversed_more _ _ _ (viewed c.in-Some.view) (map viewed c.views.views.items) (map viewed c.pop.new.self.items) c.views.invariant (views_pushed _ _ _ c.in-Some.ensures.items) (views_pushed _ _ _ c.in_ok-push.ensures.items)
