use Rattle.std.proofs.Common.{◌+◌, drop}
use Rattle.json_query.specs.ViewedNodes.{viewed}
use Rattle.json_query.proofs.Appending.{drop_item}
use Rattle.json_query.proofs.NodesViewed.{selectors_more}
use Rattle.json_query.proofs.select.push_selected.Goals as goal

pub loop-selector-preserved : goal.loop-selector-preserved
loop-selector-preserved c =
    let i = c.loop-selector.selector-index in
    let ss = c.args.selectors.now in
    let x = c.selector-item.result in
    let s = drop_item ss i x c.loop-selector-test.true c.selector-item.is in
    selectors_more (viewed c.args.view) _ _ _ x (drop i ss) (drop (i + 1) ss) c.loop-selector.invariant s c.in_ok-push_selector.ensures.ok
