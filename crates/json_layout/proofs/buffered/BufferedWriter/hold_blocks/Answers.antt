use Rattle.std.proofs.Common.{◌≡◌, length, ap, ◌∙◌, arith}
use Rattle.std.proofs.lemmas.List.{with_items_is}
use Rattle.json_layout.proofs.StoredBlocks.{stored_further}
use Rattle.json_layout.proofs.buffered.BufferedWriter.hold_blocks.Goals as goal

pub invariant_of-self-clause-order : goal.invariant_of-self-clause-order
invariant_of-self-clause-order g c =
    let further = stored_further c.deref_mut.result.now c.store_blocks-stored.new.room _ c.args.self.now.end c.store_blocks-stored.result.end (omega (arith, c.deref_mut.ensures.len, c.requires.room, ap length c.deref_mut.ensures.value)) c.store_blocks-stored.ensures.stored in
    omega (arith, further)

pub invariant_of-self-clause-size : goal.invariant_of-self-clause-size
invariant_of-self-clause-size g c =
    let room : length c.store_blocks-stored.new.room ≡ 8192 = omega (arith, ap length c.deref_mut.ensures.value) in
    ap length (with_items_is c.args.self.now.buffer c.store_blocks-stored.new.room (omega (arith, ap length c.deref_mut.ensures.value))) ∙ room
