use Rattle.std.proofs.Common.{◌++◌, refl, arith}
use Rattle.json_grammar.specs.Tree.{tokens}
use Rattle.json_explain.proofs.Walking.{goes_on, is_taken, goes_ahead, ends_ahead, ahead_is, ahead_tree, so_far_by, same_input}
use Rattle.json_explain.proofs.place.skip_value.Goals as goal

pub each-init : goal.each-init
each-init c = record { same = record { text = refl; start = refl; lossy = refl; limit = refl }; most = omega arith; goes = λ limit b t xs ys rest w a. (xs, ys, w, a) }

pub returns-in-None-clause-next : goal.returns-in-None-clause-next
returns-in-None-clause-next c = λ limit b t u xs ys w.
    let g = c.each.invariant.goes limit b t xs (tokens u ++ ys) ys w (ahead_tree u ys) in
    absurd (is_taken c.take.result c.each.levels c.in-None.is (c.take.ensures.next limit b t) g.2 g.3)

pub returns-then-levels-eq0-clause-next : goal.returns-then-levels-eq0-clause-next
returns-then-levels-eq0-clause-next c = λ limit b t u xs ys w.
    let g = c.each.invariant.goes limit b t xs (tokens u ++ ys) ys w (ahead_tree u ys) in
    let n = c.levels_after-levels.result in
    let k = goes_on c.take.result c.in-Some.event c.each.levels n c.in-Some.is (c.take.ensures.next limit b t) c.levels_after-levels.ensures.levels g.2 g.3 in
    (refl, so_far_by (tokens u) w (ahead_is (ends_ahead c.each.levels n k.token k.others ys k.levels c.if-levels-eq0.true k.left) k.goes))

pub each-preserved : goal.each-preserved
each-preserved c = record {
  same = same_input c.each.invariant.same c.take.ensures.same;
  most = omega (arith, c.levels_after-levels.ensures.most, c.index.ensures);
  goes = λ limit b t xs ys rest w a.
      let g = c.each.invariant.goes limit b t xs ys rest w a in
      let n = c.levels_after-levels.result in
      let k = goes_on c.take.result c.in-Some.event c.each.levels n c.in-Some.is (c.take.ensures.next limit b t) c.levels_after-levels.ensures.levels g.2 g.3 in
      (k.before, k.others, k.goes, goes_ahead c.each.levels n k.token k.others rest k.levels c.if-levels-eq0.false k.left);
}
