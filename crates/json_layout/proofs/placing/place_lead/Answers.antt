use Rattle.std.proofs.Common.{arith, refl}
use Rattle.json_layout.proofs.PlacedItems.{lead_placed}
use Rattle.json_layout.proofs.placing.place_lead.Goals as goal

pub returns-clause-placed : goal.returns-clause-placed
returns-clause-placed c = lead_placed _ _ _ c.args.end c.from.result c.args.first (omega (arith, c.requires)) (λ e. rw (c.from.ensures, e) refl) (λ e. rw (c.from.ensures, e) refl) c.place_byte.ensures c.place_byte-2.ensures
