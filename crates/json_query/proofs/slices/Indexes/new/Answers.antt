use Rattle.std.proofs.Common.{◌∙◌, ap, nat_abs, SFits, to_z-of_z, w64, rules, arith, pos, ◌<ℤ◌, ◌≤ℤ◌}
use Rattle.std.proofs.lemmas.Int.{ints}
use Rattle.json_query.proofs.SliceIndexes.{forward_indexes, backward_indexes}
use Rattle.json_query.proofs.slices.Indexes.new.Goals as goal

pub returns-then-slice-lt0 : goal.returns-then-slice-lt0
returns-then-slice-lt0 c =
    let s = c.args.slice in
    let fits : SFits w64 s.step = search rules in
    let below : s.step <ℤ pos 0 = grind (arith, ints, fits, c.if-slice-lt0.true) in
    backward_indexes s.start s.end s.step c.args.len _ _ _ below (c.unsigned_abs-step.ensures.value ∙ ap nat_abs (to_z-of_z fits)) c.backward_begin.ensures c.backward_end.ensures

pub returns : goal.returns
returns c =
    let s = c.args.slice in
    let fits : SFits w64 s.step = search rules in
    let least : pos 0 ≤ℤ s.step = grind (arith, ints, fits, c.if-slice-lt0.false) in
    forward_indexes s.start s.end s.step c.args.len _ _ _ least (c.unsigned_abs-step.ensures.value ∙ ap nat_abs (to_z-of_z fits)) c.forward_begin.ensures c.forward_end.ensures
