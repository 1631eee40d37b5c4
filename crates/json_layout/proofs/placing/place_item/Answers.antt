use Rattle.std.proofs.Common.{arith}
use Rattle.json_layout.proofs.PlacedItems.{item_placed, front_stays, front_stays_on}
use Rattle.json_layout.proofs.placing.place_item.Goals as goal

pub returns-then-not-place_text-clause-kept : goal.returns-then-not-place_text-clause-kept
returns-then-not-place_text-clause-kept c =
    front_stays_on _ _ _ c.args.end c.place_lead-at.result _ (omega (arith, c.place_lead-at.ensures.within.0)) (omega (arith, c.requires)) c.place_lead-at.ensures.placed c.place_text.ensures.kept

pub returns-clause-placed : goal.returns-clause-placed
returns-clause-placed c =
    let t = c.if-not-place_text.false in
    item_placed _ _ _ _ _ c.args.end c.place_lead-at.result c.args.first (c.place_text.ensures.plain t) c.place_lead-at.ensures.placed (c.place_text.ensures.placed t) c.place_byte.ensures

pub returns-clause-kept : goal.returns-clause-kept
returns-clause-kept c =
    let t = c.if-not-place_text.false in
    front_stays _ _ _ c.args.end _ (omega (arith, c.place_lead-at.ensures.within.0)) (omega (arith, c.requires))
    (item_placed _ _ _ _ _ c.args.end c.place_lead-at.result c.args.first (c.place_text.ensures.plain t) c.place_lead-at.ensures.placed (c.place_text.ensures.placed t) c.place_byte.ensures)
