use Rattle.std.proofs.Common.{refl}
use Rattle.std.proofs.lemmas.Simd.{zip2_splat, length-chunk}
use lib.Lanes.{chunk}
use Rattle.json_scan.proofs.Masks.{joined, counted_in, plain_decided}
use Rattle.json_layout.proofs.PlainBlocks.{mask_below}
use Rattle.json_layout.proofs.plain.escaped_lanes.Goals as goal

pub returns-clause-plain : goal.returns-clause-plain
returns-clause-plain g c =
    let n = g.row.N in
    let v = chunk c.args.at n c.args.bytes.now in
    let long = length-chunk c.args.at n c.args.bytes.now c.requires.room in
    counted_in _ _ plain_decided c.args.bytes.now c.args.at n _ _ c.requires.room c.requires.lanes c.type_inv.bytes refl _
    (joined _ _ _ v (joined _ _ _ v (zip2_splat _ v n _ long) (zip2_splat _ v n _ long)) (zip2_splat _ v n _ long)) refl

pub returns-clause-few : goal.returns-clause-few
returns-clause-few g c =
    let n = g.row.N in
    let v = chunk c.args.at n c.args.bytes.now in
    let long = length-chunk c.args.at n c.args.bytes.now c.requires.room in
    mask_below c.args.bytes.now c.args.at n _ _ c.requires.room c.requires.lanes
    (joined _ _ _ v (joined _ _ _ v (zip2_splat _ v n _ long) (zip2_splat _ v n _ long)) (zip2_splat _ v n _ long))
