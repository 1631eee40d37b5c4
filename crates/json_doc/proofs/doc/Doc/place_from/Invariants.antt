use Rattle.std.proofs.Common.{◌≡◌}
use Rattle.json_doc.specs.Docs.{doc_cells}
use Rattle.json_doc.specs.Places.{place_from}
use Rattle.json_doc.proofs.doc.Doc.place_from.Given as goal

abbrev pub invariant-loop-step : goal.invariant-loop-step
invariant-loop-step l = l.at ≡ place_from (doc_cells l.self) l.keys l.first l.step
