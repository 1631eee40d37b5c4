use Rattle.std.proofs.Common.{◌++◌, ◌∙◌, refl, sym, ap, take, append-nil, arith}
use Rattle.json_grammar.proofs.Moves.{piece_none}
use Rattle.json_model.specs.Print.{shown_bytes}
use Rattle.json_layout.proofs.StoredBlocks.{blocks_on}
use Rattle.json_layout.proofs.blocks.store_blocks.Goals as goal

pub fill-init : goal.fill-init
fill-init c =
    let o = take c.args.end c.args.room.now in
    record {
      later = omega arith;
      within = c.requires.start;
      room = omega (arith, c.requires.room);
      size = refl;
      begun = λ e. refl;
      stored = sym (ap (λ x. o ++ shown_bytes x) (piece_none c.args.text.now c.args.at) ∙ append-nil o);
    }

pub fill-preserved : goal.fill-preserved
fill-preserved c =
    let next = c.store_next-stored.ensures in let here = c.fill.invariant in
    record {
      later = omega (arith, here.later, next.next.0);
      within = omega (arith, here.within, next.next.1);
      room = omega (arith, here.room, next.within, c.store_next-stored.auto.room);
      size = omega (arith, here.size, c.store_next-stored.auto.room);
      begun = λ e. absurd (omega (arith, e, here.later, next.next.0));
      stored = blocks_on _ _ _ c.args.text.now c.args.at c.fill.next c.store_next-stored.result.next here.later (omega (arith, next.next.0)) here.stored next.stored;
    }
