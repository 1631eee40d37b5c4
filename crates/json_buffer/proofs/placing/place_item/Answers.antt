use Rattle.std.proofs.Common.{arith}
use Rattle.json_layout.proofs.PlacedItems.{front_stays}
use Rattle.json_buffer.proofs.Placed.{quoted_placed, quoted_kept}
use Rattle.json_buffer.proofs.placing.place_item.Goals as goal

pub returns-then-not-place_text-clause-kept : goal.returns-then-not-place_text-clause-kept
returns-then-not-place_text-clause-kept c =
    let q = c.place_lead-quote in
    quoted_kept _ _ _ _ _ c.args.end q.result q.ensures.within.0 (omega (arith, c.requires)) (omega (arith, c.requires, q.auto.buffer, q.ensures.within.1)) q.ensures.placed c.place_byte.ensures c.place_text.ensures.kept

pub returns-clause-placed : goal.returns-clause-placed
returns-clause-placed c =
    let t = c.if-not-place_text.false in
    quoted_placed _ _ _ _ _ _ _ c.args.end c.place_lead-quote.result _ (c.place_text.ensures.plain t) c.place_lead-quote.ensures.placed c.place_byte.ensures (c.place_text.ensures.placed t) c.place_byte-2.ensures

pub returns-clause-kept : goal.returns-clause-kept
returns-clause-kept c =
    let t = c.if-not-place_text.false in
    front_stays _ _ _ c.args.end _ (omega (arith, c.place_lead-quote.ensures.within.0)) (omega (arith, c.requires))
    (quoted_placed _ _ _ _ _ _ _ c.args.end c.place_lead-quote.result _ (c.place_text.ensures.plain t) c.place_lead-quote.ensures.placed c.place_byte.ensures (c.place_text.ensures.placed t) c.place_byte-2.ensures)
