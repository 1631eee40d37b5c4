use Rattle.std.proofs.Common.{◌-◌, drop, arith, take_all, length-drop}
use Rattle.std.proofs.lemmas.Str.{IsUtf8-from_ascii}
use Rattle.json_write.proofs.key_room.KeyRoom.integer.Goals as goal

pub from_utf8_unchecked-requires : goal.from_utf8_unchecked-requires
from_utf8_unchecked-requires g c =
    let w = c.write-start in
    IsUtf8-from_ascii _ (rw (take_all (40 - w.result) (drop w.result w.new.buf) (omega (arith, length-drop w.result w.new.buf)), w.ensures.written) w.ensures.ascii)
