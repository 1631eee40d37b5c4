use Rattle.json_layout.proofs.PlainBlocks.{plain_each}
use Rattle.json_layout.proofs.plain.is_plain_block.Goals as goal

pub returns : goal.returns
returns g c = λ h. plain_each c.args.bytes.now c.args.at g.row.N c.escaped_lanes.result c.escaped_lanes.ensures.plain (c.is_zero.ensures h)
