use Rattle.std.proofs.Common.{◌≡◌, ◌<◌, sym, ◌∙◌, map, length, arith}
use Rattle.std.proofs.lemmas.List.{length-map}
use Rattle.json_value.specs.Seen.{seen}
use Rattle.json_diff.proofs.DiffParts.{reversed_item, back_more, back_stop, back_end}
use Rattle.json_diff.proofs.between.common_back.Goals as goal

pub returns-then-not-branch-clause-ok : goal.returns-then-not-branch-clause-ok
returns-then-not-branch-clause-ok c =
    let from = c.args.from.now in
    let to = c.args.to.now in
    let n = c.loop-n.n in
    let first : n < length from = omega arith in
    let second : n < length to = omega arith in
    let long : length (map seen from) ≡ length from = length-map from seen in
    let others : length (map seen to) ≡ length to = length-map to seen in
    back_stop (map seen from) (map seen to) n (seen c.index-from-from.result) (seen c.index-to-to.result) c.loop-n.invariant (omega arith) (omega arith) (reversed_item seen from n c.index-from-from.result first c.index-from-from.is)
    (reversed_item seen to n c.index-to-to.result second c.index-to-to.is) (sym c.if-not-branch.true ∙ c.in_ok-are_equal.ensures.ok)

pub loop-n-preserved : goal.loop-n-preserved
loop-n-preserved c =
    let from = c.args.from.now in
    let to = c.args.to.now in
    let n = c.loop-n.n in
    let first : n < length from = omega arith in
    let second : n < length to = omega arith in
    let long : length (map seen from) ≡ length from = length-map from seen in
    let others : length (map seen to) ≡ length to = length-map to seen in
    back_more (map seen from) (map seen to) n (seen c.index-from-from.result) (seen c.index-to-to.result) c.loop-n.invariant (omega arith) (omega arith) (reversed_item seen from n c.index-from-from.result first c.index-from-from.is)
    (reversed_item seen to n c.index-to-to.result second c.index-to-to.is) (sym c.if-not-branch.false ∙ c.in_ok-are_equal.ensures.ok)

pub returns-clause-ok : goal.returns-clause-ok
returns-clause-ok c =
    let from = c.args.from.now in
    let to = c.args.to.now in
    let long : length (map seen from) ≡ length from = length-map from seen in
    let others : length (map seen to) ≡ length to = length-map to seen in
    back_end (map seen from) (map seen to) c.loop-n.n c.min-max.result c.loop-n.invariant (omega arith) (omega arith)
