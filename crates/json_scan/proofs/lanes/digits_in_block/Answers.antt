use Rattle.std.proofs.Common.{◌+◌, ◌-◌, ◌%◌, leb, cond, refl, arith}
use Rattle.std.proofs.lemmas.Simd.{zip2_splat, length-chunk}
use lib.Lanes.{chunk}
use Rattle.json_scan.proofs.Masks.{joined, splat_is, counted_in, digit_decided}
use Rattle.json_scan.proofs.lanes.digits_in_block.Goals as goal

pub returns : goal.returns
returns c =
    let v = chunk c.args.at 16 c.args.bytes.now in
    let long = length-chunk c.args.at 16 c.args.bytes.now c.requires in
    counted_in _ _ digit_decided c.args.bytes.now c.args.at 16 _ _ c.requires (omega arith) c.type_inv.bytes c.lowest.ensures _
    (joined (λ a b. cond (leb a b) 255 0) _ _ v (splat_is v 16 10 long) (zip2_splat (λ a b. (a + (256 - b)) % 256) v 16 48 long)) refl
