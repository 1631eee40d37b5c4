use Rattle.std.proofs.Common.{sym, ap}
use Rattle.json_model.specs.Print.{shown}
use Rattle.json_model.specs.Sort.{sorted}
use Rattle.json_layout.proofs.ShownParts.{added_shows, Shows-same}
use Rattle.json_value.specs.Seen.{form_seen}
use Rattle.json_value.proofs.view.show_sorted.Goals as goal

pub returns-in-Absent : goal.returns-in-Absent
returns-in-Absent g c = Shows-same _ _ _ _ _ (sym (ap (λ f. shown (g.L.Layout.indent c.args.layout.inner) 0 (sorted (form_seen f))) c.in-Absent.is)) (added_shows _ _ _ _ c.show_piece.ensures)
