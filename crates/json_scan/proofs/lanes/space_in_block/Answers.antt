use Rattle.std.proofs.Common.{refl, arith}
use Rattle.std.proofs.lemmas.Simd.{zip2_splat, length-chunk}
use lib.Lanes.{chunk}
use Rattle.json_scan.proofs.Masks.{joined, counted_in, space_decided}
use Rattle.json_scan.proofs.lanes.space_in_block.Goals as goal

pub returns : goal.returns
returns c =
    let v = chunk c.args.at 16 c.args.bytes.now in
    let long = length-chunk c.args.at 16 c.args.bytes.now c.requires in
    counted_in _ _ space_decided c.args.bytes.now c.args.at 16 _ _ c.requires (omega arith) c.type_inv.bytes c.lowest.ensures _
    (joined _ _ _ v (joined _ _ _ v (joined _ _ _ v (zip2_splat _ v 16 32 long) (zip2_splat _ v 16 10 long)) (zip2_splat _ v 16 9 long)) (zip2_splat _ v 16 13 long)) refl
