use Rattle.std.proofs.Common.{◌-◌, length, arith}
use Rattle.std.proofs.lemmas.Bool.{and_parts}
use Rattle.json_layout.proofs.Overlapping.{stored}
use Rattle.json_layout.proofs.PlainBlocks.{plain_both}
use Rattle.json_buffer.proofs.placing.place_by.Goals as goal

pub returns-clause-plain : goal.returns-clause-plain
returns-clause-plain g c = λ h.
    let both = and_parts _ _ h in
    plain_both c.args.text.now g.row.N (length c.args.text.now - g.row.N) (omega (arith, c.requires.short)) (omega (arith, c.requires.long)) (c.is_plain_block-first_plain.ensures both.0) (c.is_plain_block-last_plain.ensures both.1)

pub returns-clause-placed : goal.returns-clause-placed
returns-clause-placed g c = stored c.args.buffer.now c.args.text.now c.args.at g.row.N c.requires.room c.requires.long c.requires.short
