use Rattle.std.proofs.Common.{arith}
use Rattle.json_layout.proofs.Elements.{no_elements, more_elements, elements_failed}
use Rattle.json_layout.proofs.layout.add_byte_elements.Goals as goal

pub each-init : goal.each-init
each-init g c = (omega arith, no_elements _ _ _ _)

pub returns-in-Err : goal.returns-in-Err
returns-in-Err g c = elements_failed _ _ _ _ _ c.each.at c.args.bytes.now _ c.each-test.true c.each.invariant.1 c.in-Err.ensures

pub each-preserved : goal.each-preserved
each-preserved g c = (omega arith, more_elements _ _ _ _ _ c.each.at c.args.bytes.now c.each-test.true c.each.invariant.1 c.in-Ok.ensures)
