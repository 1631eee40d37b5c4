use Rattle.std.proofs.Common.{◌-◌, length, arith}
use Rattle.std.proofs.lemmas.Bool.{and_parts}
use Rattle.json_layout.proofs.PlainBlocks.{plain_both}
use Rattle.json_layout.proofs.plain.is_plain_by.Goals as goal

pub returns : goal.returns
returns g c = λ h.
    let both = and_parts _ _ h in
    plain_both c.args.text.now g.row.N (length c.args.text.now - g.row.N) (omega (arith, c.requires.short)) (omega (arith, c.requires.long)) (c.is_plain_block-front.ensures both.0) (c.is_plain_block-back.ensures both.1)
