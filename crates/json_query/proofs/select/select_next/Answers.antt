use Rattle.std.proofs.Common.{◌+◌, drop, map, ap}
use Rattle.json_query.specs.Models.{segment_of}
use Rattle.json_query.specs.ViewedNodes.{viewed, segment_viewed}
use Rattle.json_query.proofs.Appending.{appended_more, drop_item}
use Rattle.json_query.proofs.select.select_next.Goals as goal

pub loop-view-preserved : goal.loop-view-preserved
loop-view-preserved c =
    let i = c.loop-view.view-index in
    let vs = c.args.views.now in
    let v = c.view-item.result in
    let s = ap (map viewed) (drop_item vs i v c.loop-view-test.true c.view-item.is) in
    appended_more (segment_viewed (segment_of c.args.segment.now)) _ _ _ (viewed v) (map viewed (drop i vs)) (map viewed (drop (i + 1) vs)) c.loop-view.invariant s c.in_ok-push_segment.ensures.ok
