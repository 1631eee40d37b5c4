use Rattle.std.proofs.Common.{◌+◌, arith}
use Rattle.std.proofs.lemmas.Simd.{length-chunk, take_more_put_chunk}
use lib.Lanes.{chunk}
use Rattle.json_layout.proofs.blocks.store_block.Goals as goal

pub returns : goal.returns
returns c =
    let block = chunk c.args.at 16 c.args.text.now in
    take_more_put_chunk c.args.end c.args.room.now block (c.args.end + 16) (omega (arith, length-chunk c.args.at 16 c.args.text.now c.requires.block)) (omega (arith, c.requires.room))
