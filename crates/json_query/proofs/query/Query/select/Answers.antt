use Rattle.std.proofs.Common.{◌≡◌, ◌+◌, [], ◌∷◌, drop, map, flat_map, ap, sym, ◌∙◌, subst}
use Rattle.std.proofs.lemmas.List.{drop_all}
use Rattle.json_query.specs.Models.{segment_of}
use Rattle.json_query.specs.ViewedNodes.{viewed, segment_viewed, segments_viewed}
use Rattle.json_query.proofs.Appending.{drop_item}
use Rattle.json_query.proofs.NodesViewed.{selected_values, selected_targets}
use Rattle.json_query.proofs.query.Query.select.Goals as goal

pub loop-segment-preserved : goal.loop-segment-preserved
loop-segment-preserved c =
    let i = c.loop-segment.segment-index in
    let x = c.segment-item.result in
    let ss = c.args.self.now.segments.items in
    let here = drop_item c.deref-segment-items.result.now i x c.loop-segment-test.true c.segment-item.is in
    let next = subst (λ qs. drop i qs ≡ x ∷ drop (i + 1) qs) c.deref-segment-items.ensures.value here in
    let views = c.in_ok-views.ensures.ok ∙ ap (λ vs. flat_map (segment_viewed (segment_of x)) (map viewed vs)) c.as_slice.ensures.value in
    ap (segments_viewed (map segment_of (drop (i + 1) ss))) views ∙ sym (ap (λ qs. segments_viewed (map segment_of qs) (map viewed c.loop-segment.views.items)) next) ∙ c.loop-segment.invariant

pub returns-clause-values : goal.returns-clause-values
returns-clause-values c =
    let i = c.loop-segment.segment-index in
    let past = drop_all i c.deref-segment-items.result.now c.loop-segment-test.false in
    let none = subst (λ qs. drop i qs ≡ []) c.deref-segment-items.ensures.value past in
    let all = ap (λ qs. segments_viewed (map segment_of qs) (map viewed c.loop-segment.views.items)) (sym none) ∙ c.loop-segment.invariant in
    selected_values (map segment_of c.args.self.now.segments.items) c.args.root c.loop-segment.views.items all

pub returns-clause-targets : goal.returns-clause-targets
returns-clause-targets c =
    let i = c.loop-segment.segment-index in
    let past = drop_all i c.deref-segment-items.result.now c.loop-segment-test.false in
    let none = subst (λ qs. drop i qs ≡ []) c.deref-segment-items.ensures.value past in
    let all = ap (λ qs. segments_viewed (map segment_of qs) (map viewed c.loop-segment.views.items)) (sym none) ∙ c.loop-segment.invariant in
    selected_targets (map segment_of c.args.self.now.segments.items) c.args.root c.loop-segment.views.items all
