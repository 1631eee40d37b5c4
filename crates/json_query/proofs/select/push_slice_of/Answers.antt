use Rattle.std.proofs.Common.{ap, sym, ◌∙◌, ◌++◌, map, reverse, SFits, w64, rules, arith, pos, ◌<ℤ◌, ◌≤ℤ◌}
use Rattle.std.proofs.lemmas.Int.{ints}
use Rattle.std.proofs.lemmas.Result.{on_ok_weaker}
use Rattle.json_query.specs.Indexes.{is_index}
use Rattle.json_query.specs.Slices.{items_from}
use Rattle.json_query.specs.ViewedNodes.{viewed, elements_viewed}
use Rattle.json_query.proofs.SliceIndexes.{forward_items, backward_items}
use Rattle.json_query.proofs.ViewedParts.{elements_viewed_length}
use Rattle.json_query.proofs.select.push_slice_of.Goals as goal

pub returns-then-slice-ge0-clause-ok : goal.returns-then-slice-ge0-clause-ok
returns-then-slice-ge0-clause-ok c =
    let s = c.args.slice in
    let fits : SFits w64 s.step = search rules in
    let least : pos 0 ≤ℤ s.step = grind (arith, ints, fits, c.if-slice-ge0.true) in
    let same = forward_items s.start s.end s.step _ (is_index c.new-indexes.result) (elements_viewed c.args.array) least (c.len.ensures ∙ sym (elements_viewed_length c.args.array)) c.new-indexes.ensures in
    on_ok_weaker c.push_indexes.result (λ e. e ∙ ap (λ ts. map viewed c.args.found.now.items ++ ts) same) c.push_indexes.ensures.ok

pub returns-clause-ok : goal.returns-clause-ok
returns-clause-ok c =
    let s = c.args.slice in
    let fits : SFits w64 s.step = search rules in
    let below : s.step <ℤ pos 0 = grind (arith, ints, fits, c.if-slice-ge0.false) in
    let xs = elements_viewed c.args.array in
    let test = is_index c.new-indexes.result in
    let picked = c.in_ok-push_indexes.ensures.ok ∙ ap (λ vs. map viewed vs ++ items_from test 0 xs) c.new-views.ensures.items in
    let same = ap reverse picked ∙ backward_items s.start s.end s.step _ test xs below (c.len.ensures ∙ sym (elements_viewed_length c.args.array)) c.new-indexes.ensures in
    on_ok_weaker c.push_reversed.result (λ e. e ∙ ap (λ ts. map viewed c.args.found.now.items ++ ts) same) c.push_reversed.ensures.ok
