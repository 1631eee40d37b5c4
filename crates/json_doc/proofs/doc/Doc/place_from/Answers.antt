use Rattle.std.proofs.Common.{◌+◌, ℕ, refl, sym, ap, ◌∙◌}
use Rattle.json_doc.specs.Docs.{doc_cells}
use Rattle.json_doc.specs.Places.{place_after}
use Rattle.json_doc.proofs.Shown.{place_next}
use Rattle.json_doc.proofs.doc.Doc.place_from.Goals as goal

pub loop-step-preserved : goal.loop-step-preserved
loop-step-preserved c =
    let cells = doc_cells c.args.self.now in
    ap (λ (k : ℕ). k + c.args.keys) (c.place_behind.ensures.is ∙ ap (place_after cells) c.loop-step.invariant) ∙ sym (place_next cells c.args.keys c.args.first c.loop-step.step _ refl)
