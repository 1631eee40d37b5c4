use Rattle.json_buffer.proofs.Placed.{block_placed}
use Rattle.json_buffer.proofs.escaping.place_of_block.Goals as goal

pub returns : goal.returns
returns c = block_placed c.args.buffer.now c.args.text.now c.args.at c.args.from c.args.to 16 c.requires.within.1 c.requires.block c.requires.room
