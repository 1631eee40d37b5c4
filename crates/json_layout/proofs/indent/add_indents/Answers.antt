use Rattle.json_layout.proofs.Breaks.{indents_put, indents_failed}
use Rattle.std.proofs.Common.{arith}
use Rattle.json_layout.proofs.indent.add_indents.Goals as goal

pub returns-in-Err : goal.returns-in-Err
returns-in-Err g c =
    let count = c.piece_of_indents-count in
    indents_failed _ _ _ c.fill.left count.result.1 c.args.level _ _ _ c.fill.invariant.0 count.ensures.most count.ensures.piece c.fill.invariant.1 c.in-Err.ensures

pub fill-preserved : goal.fill-preserved
fill-preserved g c =
    let count = c.piece_of_indents-count in
    (omega arith, indents_put _ _ _ c.fill.left count.result.1 c.args.level _ _ _ c.fill.invariant.0 count.ensures.most count.ensures.piece c.fill.invariant.1 c.in-Ok.ensures)
