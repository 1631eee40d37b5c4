use Rattle.std.proofs.Common.{refl}
use Rattle.std.proofs.lemmas.Simd.{zip2_splat, length-chunk}
use lib.Lanes.{chunk}
use Rattle.json_scan.proofs.Masks.{joined, counted_in, plain_decided}
use Rattle.json_layout.proofs.PlainBlocks.{plain_each}
use Rattle.json_buffer.proofs.placing.is_plain_block.Goals as goal

pub returns : goal.returns
returns g c = λ h.
    let n = g.row.N in
    let v = chunk c.args.at n c.args.bytes.now in
    let long = length-chunk c.args.at n c.args.bytes.now c.requires.room in
    plain_each c.args.bytes.now c.args.at n _
    (counted_in _ _ plain_decided c.args.bytes.now c.args.at n _ _ c.requires.room c.requires.lanes c.type_inv.bytes refl _
    (joined _ _ _ v (joined _ _ _ v (zip2_splat _ v n _ long) (zip2_splat _ v n _ long)) (zip2_splat _ v n _ long)) refl)
    (c.is_none.ensures h)
