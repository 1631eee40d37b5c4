use Rattle.std.proofs.Common.{◌≡◌, take, map}
use Rattle.json_value.specs.Denotes.{pair_of}
use Rattle.json_containers.specs.Put.{stood_member, copied_member}
use Rattle.json_containers.proofs.members.copy_pair_slice.Given as goal

abbrev pub invariant-loop-pair : goal.invariant-loop-pair
invariant-loop-pair l = record {
  pairs : map pair_of l.copies.items ≡ map pair_of (take l.pair-index l.pairs);
  copies : map stood_member l.copies.items ≡ map copied_member (take l.pair-index l.pairs);
}
